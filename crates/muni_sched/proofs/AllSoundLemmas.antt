-- The answer over the outcomes of all candidates is right, and undecided only in doubt.
use Rattle.std.proofs.Common.{◌≡◌, ◌<◌, ◌≤◌, ℕ, zero, suc, List, [], ◌∷◌, All, length, Option, Some, None, refl, sym, subst, arith, ℤ, pos, negsuc, ◌+ℤ◌}
use Rattle.std.specs.Prelude.{option_map, slice_index_or, ⊤}
use Rattle.std.specs.List.{AllZip}
use Rattle.std.proofs.lemmas.Int.{ints}
use Rattle.std.proofs.lemmas.List.Elements.{All-head, All-tail}
use Rattle.muni_days.specs.declared.day.Day.{Day}
use Rattle.muni_rule.specs.ManyPeriods.{to_come}
use Rattle.muni_rule.specs.Payments.{PaymentSeries, IsSeries}
use Rattle.muni_rule.specs.Ranges.{IsManyPeriodsBoundary}
use Rattle.muni_rule.specs.Schedule.{ExactOutcome}
use Rattle.muni_rule.specs.WorthEnds.{WorthEnds, HoldsWorth, IsNarrow}
use Rattle.muni_rule.proofs.EnclosedLemmas.{enclosed}
use Rattle.muni_sched.specs.declared.answer.LowAnswer.{LowAnswer}
use Rattle.muni_sched.specs.declared.answer.LowAnswer.TheVariants as answers
use Rattle.muni_sched.specs.declared.candidate.Candidate.{Candidate}
use Rattle.muni_sched.specs.FigureKind.{FigureKind, Price, Yield}
use Rattle.muni_sched.specs.LowestFigure.{Lowest}
use Rattle.muni_sched.specs.LowestFigure as lowest
use Rattle.muni_sched.specs.declared.outcome.CandidateOutcome.{CandidateOutcome}
use Rattle.muni_sched.specs.declared.outcome.CandidateOutcome.TheVariants.{Unsure, Above}
use Rattle.muni_sched.specs.Answer.{date_of, dated, exact_at, NamesDoubt, IsDecidedWithoutDoubt, NamesPrice, NamesYield, NamesFigure, IsLowestAnswer}
use Rattle.muni_sched.specs.GivenFigure.{GivenFigure, at_yield, at_price, kind_of, MayBeAsked, IsOutcome, IsExact, IsFigureInDoubt, IsInDoubt}
use Rattle.muni_sched.specs.Figures.{least_unsure, figure_of, boundary_of, IsLowestOf}
use Rattle.muni_sched.specs.Lowest.{outcome_at, IsLowest}
use Rattle.muni_sched.specs.PriceOutcome.{IsCandidatePrice}
use Rattle.muni_sched.specs.Sound.{IsSound, AreSound}
use Rattle.muni_sched.specs.ToCome.{ToCome, to_come_of}
use Rattle.muni_sched.proofs.PriceSoundLemmas.{IsPriced, priced, price-sound, price-doubt, all-timed, never-above}
use Rattle.muni_sched.proofs.SoundLemmas.{sound_right, undecided_unsure}
use Rattle.muni_sched.proofs.YieldSoundLemmas.{IsTimed, bounds, timed, yield-sound, yield-doubt}

-- what an encloser gives encloses every worth
pub record IsEncloser (ends : PaymentSeries → ℤ → WorthEnds) : Type 0 where
  pub encloses : (series : PaymentSeries) (y : ℤ) → IsSeries series → 2 ≤ series.n → IsManyPeriodsBoundary y → HoldsWorth (to_come series) y (ends series y)
  pub narrow : (series : PaymentSeries) (y : ℤ) → IsSeries series → 2 ≤ series.n → IsManyPeriodsBoundary y → IsNarrow (ends series y)

-- ---- each candidate
-- what is to come of one may be asked for
abbrev pub IsAskable : GivenFigure → ToCome → Type 0
IsAskable (at_yield y) to_be = IsPriced y to_be
IsAskable (at_price price) to_be = (0 < price) × IsTimed to_be

pub all-askable : (given : GivenFigure) (list : List Candidate) → MayBeAsked given list → All (λ (candidate : Candidate). IsAskable given (to_come_of candidate.shape)) list
all-askable (at_yield y) list all = λ i candidate inside. priced y (slice_index_or list i candidate) (all.candidates i candidate inside) (all.basis i candidate inside) (all.in_range i candidate inside)
all-askable (at_price price) list all = λ i candidate inside. (all.0, timed (slice_index_or list i candidate).shape (all.1 i candidate inside))

candidate-sound : (ends : PaymentSeries → ℤ → WorthEnds) (given : GivenFigure) (candidate : Candidate) (outcome : CandidateOutcome) (exact : ExactOutcome) → IsAskable given (to_come_of candidate.shape) → IsEncloser ends → IsOutcome ends given candidate outcome → IsExact given candidate exact
    → IsSound (least_unsure (kind_of given)) (IsFigureInDoubt given (to_come_of candidate.shape)) outcome exact
candidate-sound ends (at_yield y) candidate outcome exact range law is exactly =
    price-sound ends y (to_come_of candidate.shape) outcome exact range
    (λ series of more within. enclosed series y (ends series y) of within (law.encloses series y of more within) (law.narrow series y of more within)) is exactly
candidate-sound ends (at_price price) candidate outcome exact range law is exactly =
    yield-sound ends price (to_come_of candidate.shape) outcome exact (bounds (to_come_of candidate.shape) range.1) range.0
    (λ series of more y within. enclosed series y (ends series y) of within (law.encloses series y of more within) (law.narrow series y of more within)) is exactly

candidate-doubt : (ends : PaymentSeries → ℤ → WorthEnds) (given : GivenFigure) (candidate : Candidate) (outcome : CandidateOutcome) (s : ℤ) → IsAskable given (to_come_of candidate.shape) → IsEncloser ends → IsOutcome ends given candidate outcome → outcome ≡ Unsure s
    → IsFigureInDoubt given (to_come_of candidate.shape) (s +ℤ pos 1)
candidate-doubt ends (at_yield y) candidate outcome s range law is same =
    price-doubt ends y s (to_come_of candidate.shape) outcome range
    (λ series of more within. enclosed series y (ends series y) of within (law.encloses series y of more within) (law.narrow series y of more within)) is same
candidate-doubt ends (at_price price) candidate outcome s range law is same =
    yield-doubt ends price s (to_come_of candidate.shape) outcome (bounds (to_come_of candidate.shape) range.1) range.0
    (λ series of more y within. enclosed series y (ends series y) of within (law.encloses series y of more within) (law.narrow series y of more within)) is same

-- ---- and all of them
abbrev AreAskable : GivenFigure → List Candidate → Type 0
AreAskable given list = All (λ (candidate : Candidate). IsAskable given (to_come_of candidate.shape)) list

list-sound : (ends : PaymentSeries → ℤ → WorthEnds) (given : GivenFigure) (list : List Candidate) (outcomes : List CandidateOutcome) (exact : List ExactOutcome) → AreAskable given list → IsEncloser ends → AllZip (IsOutcome ends given) list outcomes → AllZip (IsExact given) list exact
    → AreSound (least_unsure (kind_of given)) (IsInDoubt given list) outcomes (exact_at exact)
list-sound ends given [] [] [] all law is exactly k = refl
list-sound ends given [] [] (e ∷ exact) all law is exactly k = absurd exactly
list-sound ends given [] (x ∷ outcomes) exact all law is exactly k = absurd is
list-sound ends given (candidate ∷ list) [] exact all law is exactly k = absurd is
list-sound ends given (candidate ∷ list) (x ∷ outcomes) [] all law is exactly k = absurd exactly
list-sound ends given (candidate ∷ list) (x ∷ outcomes) (e ∷ exact) all law is exactly zero =
    candidate-sound ends given candidate x e (All-head (λ (it : Candidate). IsAskable given (to_come_of it.shape)) candidate list all) law is.0 exactly.0
list-sound ends given (candidate ∷ list) (x ∷ outcomes) (e ∷ exact) all law is exactly (suc k) =
    list-sound ends given list outcomes exact (All-tail (λ (it : Candidate). IsAskable given (to_come_of it.shape)) candidate list all) law is.1 exactly.1 k

list-doubt : (ends : PaymentSeries → ℤ → WorthEnds) (given : GivenFigure) (s : ℤ) (c : ℕ) (list : List Candidate) (outcomes : List CandidateOutcome) → AreAskable given list → IsEncloser ends → AllZip (IsOutcome ends given) list outcomes → outcome_at outcomes c ≡ Unsure s → IsInDoubt given list c (s +ℤ pos 1)
list-doubt ends given s c [] [] all law is same = absurd (let never : Above ≡ Unsure s = same in cc)
list-doubt ends given s c [] (x ∷ outcomes) all law is same = absurd is
list-doubt ends given s c (candidate ∷ list) [] all law is same = absurd is
list-doubt ends given s zero (candidate ∷ list) (x ∷ outcomes) all law is same =
    candidate-doubt ends given candidate x s (All-head (λ (it : Candidate). IsAskable given (to_come_of it.shape)) candidate list all) law is.0 same
list-doubt ends given s (suc c) (candidate ∷ list) (x ∷ outcomes) all law is same =
    list-doubt ends given s c list outcomes (All-tail (λ (it : Candidate). IsAskable given (to_come_of it.shape)) candidate list all) law is.1 same

-- ---- the answer
pub some-same : {X : Type 0} (x y : X) → Some x ≡ Some y → x ≡ y
some-same x y same = cc

-- what an answer with a date says
dated-doubt : (given : GivenFigure) (list : List Candidate) (c : ℕ) (figure : ℤ) (answer : LowAnswer) (date : Option Day) → date_of list c ≡ date → Some answer ≡ option_map (λ day. answers.Undecided day (boundary_of (kind_of given) figure)) date → IsInDoubt given list c figure → NamesDoubt given list answer
dated-doubt given list c figure answer (Some day) there is doubt =
    subst (NamesDoubt given list) (sym (some-same answer (answers.Undecided day (boundary_of (kind_of given) figure)) is))
    (record { candidate = c; figure = figure; there = there; begins = refl; doubtful = doubt })
dated-doubt given list c figure answer None there is doubt = absurd (let never : Some answer ≡ None = is in cc)

dated-other : (Names : LowAnswer → Type 0) (say : Day → LowAnswer) (answer : LowAnswer) (date : Option Day) → ((day : Day) → Names (say day)) → Some answer ≡ option_map say date → Names answer
dated-other Names say answer (Some day) names is = subst Names (sym (some-same answer (say day) is)) (names day)
dated-other Names say answer None names is = absurd (let never : Some answer ≡ None = is in cc)

names-doubt : (given : GivenFigure) (list : List Candidate) (found : Lowest) (answer : LowAnswer) → Some answer ≡ dated (kind_of given) list found → ((s : ℤ) (c : ℕ) → found ≡ lowest.Undecided s c → IsInDoubt given list c (s +ℤ pos 1)) → NamesDoubt given list answer
names-doubt given list (lowest.Low t c) answer is doubt = subst (NamesDoubt given list) (sym (some-same answer (answers.Low (figure_of (kind_of given) t) c) is)) tt
names-doubt given list (lowest.Undecided s c) answer is doubt = dated-doubt given list c (s +ℤ pos 1) answer (date_of list c) refl is (doubt s c refl)
names-doubt given list (lowest.Below c) answer is doubt = dated-other (NamesDoubt given list) (λ day. answers.Below day) answer (date_of list c) (λ day. tt) is
names-doubt given list lowest.Above answer is doubt = subst (NamesDoubt given list) (sym (some-same answer answers.Above is)) tt
names-doubt given list (lowest.NoTime c) answer is doubt = dated-other (NamesDoubt given list) (λ day. answers.NoTime day) answer (date_of list c) (λ day. tt) is

-- if none is in doubt, no answer names one that is
decided : (given : GivenFigure) (list : List Candidate) (answer : LowAnswer) → NamesDoubt given list answer → IsDecidedWithoutDoubt given list answer
decided given list (answers.Low figure c) doubt none = tt
decided given list (answers.Undecided date boundary) doubt none = none doubt.candidate doubt.figure doubt.doubtful
decided given list (answers.Below date) doubt none = tt
decided given list answers.Above doubt none = tt
decided given list (answers.NoTime date) doubt none = tt

-- a price is neither above all figures nor without time
abbrev IsTold : FigureKind → Lowest → Type 0
IsTold Price (lowest.Low t c) = ⊤
IsTold Price (lowest.Undecided s c) = ⊤
IsTold Price (lowest.Below c) = ⊤
IsTold Price lowest.Above = ⊥
IsTold Price (lowest.NoTime c) = ⊥
IsTold Yield found = ⊤

names-figure : (kind : FigureKind) (list : List Candidate) (n : ℕ) (found : Lowest) (answer : LowAnswer) → Some answer ≡ dated kind list found → IsLowestOf kind n found → IsTold kind found → NamesFigure kind n answer
names-figure Price list n (lowest.Low t c) answer is of told = subst (NamesPrice n) (sym (some-same answer (answers.Low (figure_of Price t) c) is)) (omega (arith, ints, of.1), of.0)
names-figure Price list n (lowest.Undecided s c) answer is of told = dated-other (NamesPrice n) (λ day. answers.Undecided day (boundary_of Price (s +ℤ pos 1))) answer (date_of list c) (λ day. tt) is
names-figure Price list n (lowest.Below c) answer is of told = dated-other (NamesPrice n) (λ day. answers.Below day) answer (date_of list c) (λ day. tt) is
names-figure Price list n lowest.Above answer is of told = absurd told
names-figure Price list n (lowest.NoTime c) answer is of told = absurd told
names-figure Yield list n (lowest.Low t c) answer is of told = subst (NamesYield n) (sym (some-same answer (answers.Low (figure_of Yield t) c) is)) of.0
names-figure Yield list n (lowest.Undecided s c) answer is of told = dated-other (NamesYield n) (λ day. answers.Undecided day (boundary_of Yield (s +ℤ pos 1))) answer (date_of list c) (λ day. tt) is
names-figure Yield list n (lowest.Below c) answer is of told = dated-other (NamesYield n) (λ day. answers.Below day) answer (date_of list c) (λ day. tt) is
names-figure Yield list n lowest.Above answer is of told = subst (NamesYield n) (sym (some-same answer answers.Above is)) tt
names-figure Yield list n (lowest.NoTime c) answer is of told = dated-other (NamesYield n) (λ day. answers.NoTime day) answer (date_of list c) (λ day. tt) is

-- of prices the first outcome has a figure or is below all
told-price : (ends : PaymentSeries → ℤ → WorthEnds) (y : ℤ) (list : List Candidate) (outcomes : List CandidateOutcome) (found : Lowest) → 0 < length list → AllZip (IsCandidatePrice ends y) list outcomes → IsLowest (negsuc 0) outcomes found → IsTold Price found
told-price ends y list outcomes (lowest.Low t c) some each is = tt
told-price ends y list outcomes (lowest.Undecided s c) some each is = tt
told-price ends y list outcomes (lowest.Below c) some each is = tt
told-price ends y list outcomes lowest.Above some each is = never-above ends y list outcomes some each is
told-price ends y list outcomes (lowest.NoTime c) some each is = all-timed ends y list outcomes each c is.such

pub told : (ends : PaymentSeries → ℤ → WorthEnds) (given : GivenFigure) (list : List Candidate) (outcomes : List CandidateOutcome) (found : Lowest) → 0 < length list → AllZip (IsOutcome ends given) list outcomes → IsLowest (least_unsure (kind_of given)) outcomes found → IsTold (kind_of given) found
told ends (at_yield y) list outcomes found some each is = told-price ends y list outcomes found some each is
told ends (at_price price) list outcomes found some each is = tt

pub lowest-answer : (ends : PaymentSeries → ℤ → WorthEnds) (given : GivenFigure) (list : List Candidate) (outcomes : List CandidateOutcome) (found : Lowest) (answer : LowAnswer) → MayBeAsked given list → IsEncloser ends → AllZip (IsOutcome ends given) list outcomes → IsLowest (least_unsure (kind_of given)) outcomes found
    → IsLowestOf (kind_of given) (length list) found → IsTold (kind_of given) found → Some answer ≡ dated (kind_of given) list found → IsLowestAnswer ends given list answer
lowest-answer ends given list outcomes found answer asked law each rule of tells is =
    let all = all-askable given list asked in
    let doubt : NamesDoubt given list answer = names-doubt given list found answer is
    (λ s c same. list-doubt ends given s c list outcomes all law each (undecided_unsure (least_unsure (kind_of given)) s c outcomes (subst (IsLowest (least_unsure (kind_of given)) outcomes) same rule))) in
    record {
      rule = record { lowest = found; outcomes = outcomes; each = each; rule = rule; answered = is };
      right = λ exact exactly. record {
        lowest = found;
        right = sound_right (least_unsure (kind_of given)) (IsInDoubt given list) (exact_at exact) outcomes found (list-sound ends given list outcomes exact all law each exactly) rule;
        answered = is;
      };
      undecided = doubt;
      decided = decided given list answer doubt;
      figure = names-figure (kind_of given) list (length list) found answer is of tells;
    }
