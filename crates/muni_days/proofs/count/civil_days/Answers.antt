use Rattle.std.proofs.Common.{◌≡◌, arith, w64, to_z, of_z, int_div, pos, neg_ℤ, ◌≤ℤ◌, ◌*ℤ◌, ◌∙◌, ap}
use Rattle.std.proofs.lemmas.Int.{ints}
use Rattle.muni_rule.specs.Civil.{civil_days}
use Rattle.muni_days.specs.Day.{civil}
use Rattle.muni_days.proofs.CivilLemmas.{is_of_desk}
use Rattle.muni_days.proofs.JiffLemmas.{dates-apart, days-of_hours, civil_days-few}
use Rattle.muni_days.proofs.count.civil_days.Goals as goal

-- the hours, which no cast changes, are those days, and these are few
record AreDays (c : goal.After-as_hours) : Type 0 where
  hours : to_z w64 (of_z w64 c.as_hours.result) ≡ c.as_hours.result
  days : int_div c.as_hours.result (pos 24) ≡ civil_days (civil c.args.first) (civil c.args.last)
  from : neg_ℤ (pos 806_000) ≤ℤ civil_days (civil c.args.first) (civil c.args.last)
  to : civil_days (civil c.args.first) (civil c.args.last) ≤ℤ pos 806_000

are_days : (c : goal.After-as_hours) → AreDays c
are_days c =
    let few = civil_days-few (civil c.args.first) (civil c.args.last) (is_of_desk c.args.first) (is_of_desk c.args.last) in
    let apart = dates-apart c.args.first c.args.last c.date.result c.date-2.result c.date.ensures c.date-2.ensures in
    let fits = c.as_hours.type_inv in
    record {
      hours = omega (arith, ints, fits);
      days = days-of_hours (civil_days (civil c.args.first) (civil c.args.last)) _ c.as_hours.result (c.duration_until-apart.ensures ∙ ap (λ days. days *ℤ pos 86_400_000_000_000) apart) c.as_hours.ensures;
      from = few.0;
      to = few.1;
    }

pub overflow_cast-result : goal.overflow_cast-result
overflow_cast-result c =
    let are = are_days c in
    rw (are.hours, are.days) (let from = are.from in let to = are.to in omega (arith, ints, from, to))

pub returns : goal.returns
returns c =
    let are = are_days c in
    rw (are.hours, are.days) (let from = are.from in let to = are.to in omega (arith, ints, from, to))
