-- Of one list of candidates at most one decided answer is right.
use Rattle.std.proofs.Common.{◌≡◌, ℕ, List, Option, Some, None, sym, subst, ap, ◌∙◌, pos, ◌+ℤ◌, rules}
use Rattle.std.specs.Prelude.{option_map}
use Rattle.std.specs.List.{AllZip}
use Rattle.muni_days.specs.declared.day.Day.{Day}
use Rattle.muni_rule.specs.Schedule.{ExactOutcome}
use Rattle.muni_terms.specs.declared.disclosure.Boundary.{Boundary}
use Rattle.muni_sched.specs.declared.answer.LowAnswer.{LowAnswer}
use Rattle.muni_sched.specs.declared.answer.LowAnswer.TheVariants as answer
use Rattle.muni_sched.specs.declared.candidate.Candidate.{Candidate}
use Rattle.muni_sched.specs.LowestFigure.{Lowest}
use Rattle.muni_sched.specs.LowestFigure as lowest
use Rattle.muni_sched.specs.Answer.{date_of, dated, exact_at, IsRightFor, IsDecided}
use Rattle.muni_sched.specs.AnswerLaws.{HasOne, OneAnswerIsRight}
use Rattle.muni_sched.specs.GivenFigure.{GivenFigure, kind_of, IsExact, IsInDoubt}
use Rattle.muni_sched.specs.Figures.{boundary_of}
use Rattle.muni_sched.specs.LowestLaws.{OneLowestIsRight}
use Rattle.muni_sched.specs.Sound.{IsRight}
use Rattle.muni_sched.proofs.AllSoundLemmas.{some-same}
use Rattle.muni_sched.proofs.OneExactLemmas.{list-one}

right-same : OneLowestIsRight
right-same = search rules

-- an answer that is decided is that of a lowest which is
open-decided : (said : LowAnswer) (at : Boundary) (date : Option Day) → IsDecided said → ¬ (Some said ≡ option_map (λ day. answer.Undecided day at) date)
open-decided said at (Some day) decided is = subst IsDecided (some-same said (answer.Undecided day at) is) decided
open-decided said at None decided is = let never : Some said ≡ None = is in cc

decided-right : (given : GivenFigure) (exact : ℕ → ExactOutcome) (list : List Candidate) (found : Lowest) (said : LowAnswer) → IsDecided said → Some said ≡ dated (kind_of given) list found → IsRight (IsInDoubt given list) exact found → IsRight (λ c t. ⊥) exact found
decided-right given exact list (lowest.Low t c) said decided is right = right
decided-right given exact list (lowest.Undecided s c) said decided is right = absurd (open-decided said (boundary_of (kind_of given) (s +ℤ pos 1)) (date_of list c) decided is)
decided-right given exact list (lowest.Below c) said decided is right = right
decided-right given exact list lowest.Above said decided is right = right
decided-right given exact list (lowest.NoTime c) said decided is right = right

answer-right : (given : GivenFigure) (exact : List ExactOutcome) (list : List Candidate) (said other : LowAnswer) → IsDecided said → IsDecided other → IsRightFor given exact list said → IsRightFor given exact list other → said ≡ other
answer-right given exact list said other decided also_decided is also =
    let right = decided-right given (exact_at exact) list is.lowest said decided is.answered is.right in
    let also_right = decided-right given (exact_at exact) list also.lowest other also_decided also.answered also.right in
    let found : is.lowest ≡ also.lowest = right-same (exact_at exact) is.lowest also.lowest right also_right in
    some-same said other (is.answered ∙ ap (dated (kind_of given) list) found ∙ sym also.answered)

pub one-right : OneAnswerIsRight
one-right given list said other all decided also_decided is also =
    let exact : HasOne (AllZip (IsExact given) list) = list-one given list all in
    answer-right given exact.value list said other decided also_decided (is exact.value exact.such) (also exact.value exact.such)
