use Rattle.std.proofs.Common.{◌+◌, ◌*◌, ◌≤◌, ◌++◌, take}
use Rattle.muni_rule.specs.Civil.{month_index}
use Rattle.muni_terms.specs.Issue.{day_at}
use Rattle.muni_sched.specs.Candidates.{AreCandidatesOf}
use Rattle.muni_sched.proofs.CandidateLemmas.{calls_before, days_from}
use Rattle.muni_sched.proofs.redemptions.put_calls.Given as goal

-- the candidates are those of the calls so far
abbrev pub invariant-loop-place : goal.invariant-loop-place
invariant-loop-place l = record {
  candidates : AreCandidatesOf l.issue l.settlement (calls_before l.issue l.place) (take l.count l.slots);
  room : 6 * l.count + month_index (day_at l.issue 0) ≤ month_index (day_at l.issue l.place);
}

-- and of some days of one more
abbrev pub invariant-loop-half_years : goal.invariant-loop-half_years
invariant-loop-half_years l = record {
  candidates : AreCandidatesOf l.issue l.settlement (calls_before l.issue l.place ++ days_from l.call l.half_years) (take l.count l.slots);
  room : 6 * l.count + month_index (day_at l.issue 0) ≤ month_index (day_at l.issue l.place) + 6 * l.half_years;
}
