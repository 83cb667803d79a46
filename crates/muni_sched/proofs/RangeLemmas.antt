-- The first candidate that excludes a yield.
use Rattle.std.proofs.Common.{◌≡◌, List, [], ◌∷◌, Option, Some, None, refl, arith, ℤ}
use Rattle.std.specs.Prelude.{All}
use Rattle.std.specs.declared.cmp.Ordering.{Ordering}
use Rattle.std.proofs.lemmas.Int.{ints}
use Rattle.std.proofs.lemmas.List.Elements.{All-nil, All-cons}
use Rattle.muni_rule.specs.Ranges.{IsWithin, side_of}
use Rattle.muni_rule.specs.declared.ranges.YieldRange.{YieldRange}
use Rattle.muni_sched.specs.Range.{IsGivenFor, given_range, side_for, first_of, side_of_first}
use Rattle.muni_sched.specs.declared.candidate.Candidate.{Candidate}

within-none : (range : YieldRange) (y : ℤ) → side_of range y ≡ None → IsWithin range y
within-none range y none = (grind (arith, ints), grind (arith, ints))

first-none : (side other : Option Ordering) → first_of side other ≡ None → (side ≡ None) × (other ≡ None)
first-none None other none = (refl, none)
first-none (Some side) other none = absurd (cc)

-- if none excludes it, it may be given for each
pub all-given : (y : ℤ) (list : List Candidate) → side_of_first y list ≡ None → All (IsGivenFor y) list
all-given y [] none = All-nil (IsGivenFor y)
all-given y (candidate ∷ list) none =
    let parts = first-none (side_for y candidate) (side_of_first y list) none in
    All-cons (IsGivenFor y) candidate list (within-none (given_range candidate.shape) y parts.0) (all-given y list parts.1)
