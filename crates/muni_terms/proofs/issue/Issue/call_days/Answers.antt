use Rattle.std.proofs.Common.{◌≡◌, ◌∙◌, ◌+◌, ◌-◌, ◌/◌, refl, ap, arith, inl, inr}
use Rattle.muni_rule.specs.Civil.{Civil, order_of, month_index}
use Rattle.muni_days.specs.Day.{civil}
use Rattle.muni_terms.specs.Issue.{day_at}
use Rattle.muni_terms.proofs.CallLemmas.{call-read, one-day, run-days}
use Rattle.muni_terms.proofs.issue.Issue.call_days.Goals as goal

pub half_years-requires : goal.half_years-requires
half_years-requires c =
    let row = c.args.self.now in
    let at = call-read c.self.inside.row row c.deref.result.now c.args.place c.index-deref-place.result (cc) c.self.invariant (cc) c.requires c.index-deref-place.is in
    let later = at.end.later in
    let order : order_of (civil c.day_at.result) ≡ order_of (day_at row (c.args.place + 1)) = ap order_of c.day_at.ensures in
    omega arith

pub returns-in-OnDay : goal.returns-in-OnDay
returns-in-OnDay c =
    let row = c.args.self.now in
    let at = call-read c.self.inside.row row c.deref.result.now c.args.place c.index-deref-place.result (cc) c.self.invariant (cc) c.requires c.index-deref-place.is in
    elim c.in-OnDay.is [
      | inl on_day ↦ let day = one-day row c.args.place c.index-deref-place.result at (rw on_day refl) in record { days = day.0; end = day.1 }
      | inr called ↦ let day = one-day row c.args.place c.index-deref-place.result at (rw called refl) in record { days = day.0; end = day.1 }
    ]

pub returns-in-OnOrAfter-clause-days : goal.returns-in-OnOrAfter-clause-days
returns-in-OnOrAfter-clause-days c =
    let row = c.args.self.now in
    let at = call-read c.self.inside.row row c.deref.result.now c.args.place c.index-deref-place.result (cc) c.self.invariant (cc) c.requires c.index-deref-place.is in
    let run = run-days row c.args.place c.index-deref-place.result at c.in-OnOrAfter.is in
    let count : c.half_years.result ≡ (month_index (day_at row (c.args.place + 1)) - month_index (civil c.index-deref-place.result.date)) / 6 =
    c.half_years.ensures ∙ ap (λ (it : Civil). (month_index it - month_index (civil c.index-deref-place.result.date)) / 6) c.day_at.ensures in
    rw count run.0

pub returns-in-OnOrAfter-clause-end : goal.returns-in-OnOrAfter-clause-end
returns-in-OnOrAfter-clause-end c =
    let row = c.args.self.now in
    let at = call-read c.self.inside.row row c.deref.result.now c.args.place c.index-deref-place.result (cc) c.self.invariant (cc) c.requires c.index-deref-place.is in
    let run = run-days row c.args.place c.index-deref-place.result at c.in-OnOrAfter.is in
    let count : c.half_years.result ≡ (month_index (day_at row (c.args.place + 1)) - month_index (civil c.index-deref-place.result.date)) / 6 =
    c.half_years.ensures ∙ ap (λ (it : Civil). (month_index it - month_index (civil c.index-deref-place.result.date)) / 6) c.day_at.ensures in
    rw count run.1
