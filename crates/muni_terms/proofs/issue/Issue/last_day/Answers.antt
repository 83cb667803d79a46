use Rattle.std.proofs.Common.{◌≡◌, ◌∙◌, true, false, refl, ap, sym}
use Rattle.muni_rule.specs.Redemptions.{is_certain}
use Rattle.muni_days.specs.Day.{civil}
use Rattle.muni_terms.proofs.CallLemmas.{last-entry}
use Rattle.muni_terms.proofs.issue.Issue.last_day.Goals as goal

pub returns-then-is_certain : goal.returns-then-is_certain
returns-then-is_certain c =
    let calls = c.args.self.now.calls.items in
    let maturity = civil c.args.self.now.maturity in
    let items : c.deref.result.now ≡ calls = cc in
    let call = c.in-Some.call.now in
    let last = last-entry calls call (sym (rw items at c.in-Some.ensures.value)) in
    let certain : is_certain call.term ≡ true = sym c.is_certain.ensures ∙ c.if-is_certain.true in
    rw (last, certain) refl

pub returns-else-is_certain : goal.returns-else-is_certain
returns-else-is_certain c =
    let calls = c.args.self.now.calls.items in
    let items : c.deref.result.now ≡ calls = cc in
    let call = c.in-Some.call.now in
    let last = last-entry calls call (sym (rw items at c.in-Some.ensures.value)) in
    let certain : is_certain call.term ≡ false = sym c.is_certain.ensures ∙ c.if-is_certain.false in
    let row : c.self.inside.row ≡ c.args.self.now = cc in
    rw (last, certain) (ap (λ it. civil it.maturity) row)
