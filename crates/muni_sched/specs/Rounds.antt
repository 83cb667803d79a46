-- The rounds of the search for the lowest yield: in each one every search that is still needed is
-- halved once.
use Rattle.std.specs.Prelude.{ℕ, zero, suc, ◌+◌, List, [], ◌∷◌, Bool, not, ◌&&◌, ◌==◌, if◌then◌else◌, nat_le, map, length, Option, Some, None, ℤ}
use Rattle.std.specs.List.{filter}
use Rattle.muni_rule.specs.Payments.{PaymentSeries}
use Rattle.muni_rule.specs.declared.verdict.Verdict.{Verdict}
use Rattle.muni_yield.specs.Bracket.{YieldBracket, start_of, is_settled, halved}
use Rattle.muni_yield.specs.Places.{yield_at}
use Rattle.muni_sched.specs.declared.candidate.Candidate.{Candidate}
use Rattle.muni_sched.specs.Search.{lower_of, is_passed}
use Rattle.muni_sched.specs.ToCome.{ToCome, many, one, to_come_of}

-- before the first one a search for each candidate of many payments
abbrev pub brackets_for : ℕ → ToCome → List YieldBracket → List YieldBracket
brackets_for price (many series) rest = start_of series price ∷ rest
brackets_for price (one least payment) rest = rest

abbrev pub brackets_from : ℕ → List Candidate → List YieldBracket
brackets_from price [] = []
brackets_from price (candidate ∷ rest) =
    brackets_for price (to_come_of candidate.shape) (brackets_from price rest)

-- the figure that one is known not to reach, and the least of those
abbrev pub missed_by : YieldBracket → Option ℤ
missed_by bracket = if nat_le bracket.high 105_002 then Some (yield_at bracket.high) else None

abbrev pub ceiling_over : Option ℤ → List YieldBracket → Option ℤ
ceiling_over ceiling [] = ceiling
ceiling_over ceiling (bracket ∷ rest) = ceiling_over (lower_of ceiling (missed_by bracket)) rest

-- the outcome is not known yet, and may be the lowest
abbrev pub is_kept : Option ℤ → YieldBracket → Bool
is_kept ceiling bracket = not (is_settled bracket) && not (is_passed ceiling bracket)

-- those that are kept after one round
abbrev pub kept_by : Option ℤ → List YieldBracket → List YieldBracket
kept_by ceiling asked = filter (is_kept (ceiling_over ceiling asked)) asked

-- how many rounds there are up to the one that leaves nothing to ask, and at most so many
unfoldable pub rounds : ℕ → (PaymentSeries → ℕ → ℕ → Verdict) → Option ℤ → List YieldBracket → ℕ
rounds zero verdicts ceiling brackets = 0
rounds (suc most) verdicts ceiling brackets =
    if length brackets == 0 then 0
    else rounds most verdicts (ceiling_over ceiling (map (halved verdicts) brackets))
    (kept_by ceiling (map (halved verdicts) brackets)) + 1
