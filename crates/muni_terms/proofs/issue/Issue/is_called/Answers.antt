use Rattle.std.proofs.Common.{◌≡◌, ◌∙◌, ap, sym}
use Rattle.muni_rule.specs.Redemptions.{is_called_by}
use Rattle.muni_terms.proofs.CallLemmas.{last-entry}
use Rattle.muni_terms.proofs.issue.Issue.is_called.Goals as goal

pub returns-in-Some : goal.returns-in-Some
returns-in-Some c =
    let calls = c.args.self.now.calls.items in
    let items : c.deref.result.now ≡ calls = cc in
    let last = last-entry calls c.in-Some.call.now (sym (rw items at c.in-Some.ensures.value)) in
    c.is_certain.ensures ∙ ap is_called_by (sym last)
