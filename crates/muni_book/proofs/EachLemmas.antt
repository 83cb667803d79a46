-- The disclosed redemption is the least of all candidates by their own figures.
use Rattle.std.proofs.Common.{◌≡◌, ◌≢◌, ℕ, zero, suc, List, [], ◌∷◌, refl, sym, subst, ap, ◌∙◌, arith, Option, Some, None, ℤ, pos, negsuc, ◌+ℤ◌, ◌≤ℤ◌, Result, Ok, Err}
use Rattle.std.specs.Prelude.{All, ◌/◌, option_map}
use Rattle.std.specs.List.{slice_get, AllZip}
use Rattle.std.proofs.lemmas.Int.{ints}
use Rattle.std.proofs.lemmas.Option.{same_Some}
use Rattle.std.proofs.lemmas.List.Elements.{All-head, All-tail, All-cons, All-nil}
use Rattle.muni_rule.specs.Accuracy.{rounded_yield}
use Rattle.muni_rule.specs.Payments.{PaymentSeries}
use Rattle.muni_rule.specs.Schedule.{ExactOutcome, prints, is_above, IsFrom, IsRightLow}
use Rattle.muni_rule.specs.WorthEnds.{WorthEnds}
use Rattle.muni_days.specs.declared.day.Day.{Day}
use Rattle.muni_terms.specs.declared.row.IssueRow.{IssueRow}
use Rattle.muni_simple.specs.declared.yields.SimpleYield.{SimpleYield}
use Rattle.muni_simple.specs.declared.yields.SimpleYield.TheVariants as simple
use Rattle.muni_sched.specs.Answer.{date_of, dated, exact_at, IsRightFor}
use Rattle.muni_sched.specs.Candidates.{IsCandidate}
use Rattle.muni_sched.specs.Exact.{IsExactPriceOf}
use Rattle.muni_sched.specs.FigureKind.{FigureKind}
use Rattle.muni_sched.specs.FigureKind as kind
use Rattle.muni_sched.specs.Figures.{figure_of, boundary_of}
use Rattle.muni_sched.specs.GivenFigure.{GivenFigure, at_yield, at_price, kind_of, MayBeAsked, IsExact, IsInDoubt}
use Rattle.muni_sched.specs.LowestFigure.{Lowest}
use Rattle.muni_sched.specs.LowestFigure as lowest
use Rattle.muni_sched.specs.PriceOutcome.{IsAtYield}
use Rattle.muni_sched.specs.Range.{IsGivenFor}
use Rattle.muni_sched.specs.Sound.{IsRight}
use Rattle.muni_sched.specs.ToCome.{ToCome, many, one, to_come_of}
use Rattle.muni_sched.specs.declared.answer.Figure.{Figure}
use Rattle.muni_sched.specs.declared.answer.Figure.TheVariants as figure
use Rattle.muni_sched.specs.declared.answer.LowAnswer.{LowAnswer}
use Rattle.muni_sched.specs.declared.answer.LowAnswer.TheVariants as answer
use Rattle.muni_sched.specs.declared.candidate.Candidate.{Candidate}
use Rattle.muni_sched.proofs.CandidateLemmas.{one-list}
use Rattle.muni_sched.proofs.OneAnswerLemmas.{one-answer}
use Rattle.muni_msg.specs.declared.asked.Asked.{Asked}
use Rattle.muni_msg.specs.declared.asked.Given.{Given}
use Rattle.muni_msg.specs.declared.asked.Given.TheVariants.{AtYield, AtPrice, AtRate}
use Rattle.muni_msg.specs.declared.asked.Side.{Side}
use Rattle.muni_msg.specs.declared.each.EachFigure.{EachFigure}
use Rattle.muni_msg.specs.declared.each.EachFigure.TheVariants.{Price as AsPrice, Yield as AsYield}
use Rattle.muni_msg.specs.declared.each.EachRedemption.{EachRedemption}
use Rattle.muni_msg.specs.declared.figures.Figures.{Figures}
use Rattle.muni_msg.specs.declared.refusal.Refusal.{Refusal}
use Rattle.muni_msg.specs.declared.refusal.Refusal.TheVariants as refusal
use Rattle.muni_answer.specs.AnswerLaws.{HaveOutcomesAt}
use Rattle.muni_answer.specs.Answers.{PriceAndYield, found_at_yield, found_at_price, found_at_rate, IsFoundAtRate}
use Rattle.muni_book.specs.Each.{figure_of_answer, IsAnswerAlone, IsRightAlone, IsFigureAlone, IsShownAlone, AnsweredEachAreRight, thousandths_in, HasFigure, HasThousandths, disclosed_figure, disclosed, IsLeastOfEach, DisclosedIsLeastOfEach, EachAreOne}
use Rattle.muni_answer.specs.GivenFor.{IsNote, IsOnBasis, IsInRange, MayBeGiven}
use Rattle.muni_answer.specs.RightFigures.{AreRightAt, AreRightFigures}
use Rattle.muni_answer.specs.Trade.{net_price}
use Rattle.muni_answer.proofs.OneFigureLemmas.{case-of, right-outcomes}
use Rattle.muni_answer.proofs.RightLemmas.{answered-right}

-- ---- a figure of a kind, by its thousandths
abbrev pub figure_as : FigureKind → ℤ → EachFigure
figure_as kind t = figure_of_answer (answer.Low (figure_of kind t) 0)

figure-at : (kind : FigureKind) (t : ℤ) (c : ℕ) → figure_of_answer (answer.Low (figure_of kind t) c) ≡ figure_as kind t
figure-at kind.Price t c = refl
figure-at kind.Yield t c = refl

thousandths-yield : (t s : ℤ) → thousandths_in (figure_as kind.Yield t) ≡ Some s → t ≡ s
thousandths-yield t s is = same_Some t s is

thousandths-price : (t : ℕ) (s : ℤ) → thousandths_in (figure_as kind.Price (pos t)) ≡ Some s → pos t ≡ s
thousandths-price t s is = same_Some (pos t) s is

-- no exact price is below nothing
price-from : (y : ℤ) (candidate : ToCome) (t : ℕ) → ¬ (IsExactPriceOf y candidate (prints (negsuc t)))
price-from y (many series) t is = is
price-from y (one least payment) t is = is

thousandths-exact : (given : GivenFigure) (candidate : Candidate) (t s : ℤ) → IsExact given candidate (prints t) → thousandths_in (figure_as (kind_of given) t) ≡ Some s → t ≡ s
thousandths-exact (at_yield y) candidate (pos t) s exact is = thousandths-price t s is
thousandths-exact (at_yield y) candidate (negsuc t) s exact is = absurd (price-from y (to_come_of candidate.shape) t exact)
thousandths-exact (at_price price) candidate t s exact is = thousandths-yield t s is

-- ---- an answer by a figure
low-date : (said : Figure) (c : ℕ) (date : Option Day) (other : Day → LowAnswer) → ((day : Day) → ¬ (answer.Low said c ≡ other day)) → ¬ (Some (answer.Low said c) ≡ option_map other date)
low-date said c None other never is = absurd (let none : Some (answer.Low said c) ≡ None = is in cc)
low-date said c (Some day) other never is = never day (same_Some (answer.Low said c) (other day) is)

low-figure : (given : GivenFigure) (list : List Candidate) (found : Lowest) (said : Figure) (c : ℕ) → Some (answer.Low said c) ≡ dated (kind_of given) list found → (t : ℤ) × (found ≡ lowest.Low t c) × (said ≡ figure_of (kind_of given) t)
low-figure given list (lowest.Low t d) said c is =
    let same : answer.Low said c ≡ answer.Low (figure_of (kind_of given) t) d = same_Some (answer.Low said c) (answer.Low (figure_of (kind_of given) t) d) is in
    let place : c ≡ d = cc in
    let figure : said ≡ figure_of (kind_of given) t = cc in
    (t, ap (lowest.Low t) (sym place), figure)
low-figure given list (lowest.Undecided s d) said c is = absurd (low-date said c (date_of list d) (λ date. answer.Undecided date (boundary_of (kind_of given) (s +ℤ pos 1))) (λ day never. cc) is)
low-figure given list (lowest.Below d) said c is = absurd (low-date said c (date_of list d) (λ date. answer.Below date) (λ day never. cc) is)
low-figure given list lowest.Above said c is = absurd (let never : answer.Low said c ≡ answer.Above = same_Some (answer.Low said c) answer.Above is in cc)
low-figure given list (lowest.NoTime d) said c is = absurd (low-date said c (date_of list d) (λ date. answer.NoTime date) (λ day never. cc) is)

-- ---- a candidate alone
past-one : (e : ExactOutcome) (t : ℤ) (c : ℕ) → exact_at (e ∷ []) c ≡ prints t → e ≡ prints t
past-one e t zero is = is
past-one e t (suc c) is = absurd (let never : is_above ≡ prints t = is in cc)

alone-low : (given : GivenFigure) (candidate : Candidate) (e : ExactOutcome) (said : Figure) (c : ℕ) (s : ℤ) → IsExact given candidate e → IsRightFor given (e ∷ []) (candidate ∷ []) (answer.Low said c) → thousandths_in (figure_of_answer (answer.Low said c)) ≡ Some s → (e ≡ prints s) × (figure_of_answer (answer.Low said c) ≡ figure_as (kind_of given) s)
alone-low given candidate e said c s exact right shows =
    let found = low-figure given (candidate ∷ []) right.lowest said c right.answered in
    let low : IsRightLow (exact_at (e ∷ [])) found.0 c = subst (IsRight (IsInDoubt given (candidate ∷ [])) (exact_at (e ∷ []))) found.1 right.right in
    let is : e ≡ prints found.0 = past-one e found.0 c low.printed in
    let shown : figure_of_answer (answer.Low said c) ≡ figure_as (kind_of given) found.0 = ap (λ it. figure_of_answer (answer.Low it c)) found.2 ∙ figure-at (kind_of given) found.0 c in
    let same : found.0 ≡ s = thousandths-exact given candidate found.0 s (subst (IsExact given candidate) is exact) (sym (ap thousandths_in shown) ∙ shows) in
    (is ∙ ap prints same, shown ∙ ap (figure_as (kind_of given)) same)

alone-of : (given : GivenFigure) (candidate : Candidate) (e : ExactOutcome) (low : LowAnswer) (s : ℤ) → IsExact given candidate e → IsRightFor given (e ∷ []) (candidate ∷ []) low → thousandths_in (figure_of_answer low) ≡ Some s → (e ≡ prints s) × (figure_of_answer low ≡ figure_as (kind_of given) s)
alone-of given candidate e (answer.Low said c) s exact right shows = alone-low given candidate e said c s exact right shows
alone-of given candidate e (answer.Undecided date boundary) s exact right shows = absurd (let never : None ≡ Some s = shows in cc)
alone-of given candidate e (answer.Below date) s exact right shows = absurd (let never : None ≡ Some s = shows in cc)
alone-of given candidate e answer.Above s exact right shows = absurd (let never : None ≡ Some s = shows in cc)
alone-of given candidate e (answer.NoTime date) s exact right shows = absurd (let never : None ≡ Some s = shows in cc)

-- the figure of a candidate alone is its exact one
alone-exact : (given : GivenFigure) (candidate : Candidate) (e : ExactOutcome) (shown : EachFigure) (s : ℤ) → IsRightAlone given candidate shown → IsExact given candidate e → thousandths_in shown ≡ Some s → (e ≡ prints s) × (shown ≡ figure_as (kind_of given) s)
alone-exact given candidate e shown s is exact shows =
    let found = alone-of given candidate e is.low s exact (is.right (e ∷ []) (exact, tt)) (sym (ap thousandths_in is.is) ∙ shows) in
    (found.0, is.is ∙ found.1)

-- ---- all candidates
abbrev AreAlone : GivenFigure → List Candidate → List EachRedemption → Type 0
AreAlone given list each = AllZip (λ candidate (shown : EachRedemption). IsRightAlone given candidate shown.figure) list each

exact-of : (given : GivenFigure) (list : List Candidate) (each : List EachRedemption) (exact : List ExactOutcome) (k : ℕ) (other : EachRedemption) (s : ℤ) → AreAlone given list each → AllZip (IsExact given) list exact → slice_get each k ≡ Some other → HasThousandths s other → (exact_at exact k ≡ prints s) × (other.figure ≡ figure_as (kind_of given) s)
exact-of given list [] exact k other s are exactly there shows = absurd (let never : None ≡ Some other = there in cc)
exact-of given [] (shown ∷ each) exact k other s are exactly there shows = absurd are
exact-of given (candidate ∷ list) (shown ∷ each) [] k other s are exactly there shows = absurd exactly
exact-of given (candidate ∷ list) (shown ∷ each) (e ∷ exact) zero other s are exactly there shows =
    let same : shown ≡ other = same_Some shown other there in
    let found = alone-exact given candidate e shown.figure s are.0 exactly.0 (subst (HasThousandths s) (sym same) shows) in
    (found.0, ap (λ (it : EachRedemption). it.figure) (sym same) ∙ found.1)
exact-of given (candidate ∷ list) (shown ∷ each) (e ∷ exact) (suc k) other s are exactly there shows = exact-of given list each exact k other s are.1 exactly.1 there shows

-- what is shown of the candidate at a place
shown-at : (asked : Asked) (figures : Figures) (list : List Candidate) (each : List EachRedemption) (c : ℕ) (candidate : Candidate) → AllZip (IsShownAlone IsRightAlone asked figures) list each → slice_get list c ≡ Some candidate → (shown : EachRedemption) × (slice_get each c ≡ Some shown) × IsShownAlone IsRightAlone asked figures candidate shown
shown-at asked figures [] each c candidate are there = absurd (let never : None ≡ Some candidate = there in cc)
shown-at asked figures (first ∷ list) [] c candidate are there = absurd are
shown-at asked figures (first ∷ list) (shown ∷ each) zero candidate are there = (shown, refl, subst (λ it. IsShownAlone IsRightAlone asked figures it shown) (same_Some first candidate there) are.0)
shown-at asked figures (first ∷ list) (shown ∷ each) (suc c) candidate are there = shown-at asked figures list each c candidate are.1 there

has-figure : (each : List EachRedemption) (c : ℕ) (shown : EachRedemption) → All HasFigure each → slice_get each c ≡ Some shown → HasFigure shown
has-figure [] c shown all there = absurd (let never : None ≡ Some shown = there in cc)
has-figure (first ∷ each) zero shown all there = subst HasFigure (same_Some first shown there) (All-head HasFigure first each all)
has-figure (first ∷ each) (suc c) shown all there = has-figure each c shown (All-tail HasFigure first each all) there

thousandths-of : (shown : Option ℤ) → shown ≢ None → (s : ℤ) × (shown ≡ Some s)
thousandths-of None has = absurd (has refl)
thousandths-of (Some s) has = (s, refl)

-- a figure that is the exact one of the first of the least is the least of all
least-of : (given : GivenFigure) (list : List Candidate) (each : List EachRedemption) (exact : List ExactOutcome) (t : ℤ) (c : ℕ) (least : EachRedemption) → AreAlone given list each → AllZip (IsExact given) list exact → IsRightLow (exact_at exact) t c → slice_get each c ≡ Some least → HasThousandths t least → IsLeastOfEach least each
least-of given list each exact t c least are exactly right there shows = record {
  place = c;
  there = there;
  thousandths = t;
  figure = shows;
  none_lower = λ k other s at has. subst (IsFrom t) (exact-of given list each exact k other s are exactly at has).0 (right.none_lower k);
  none_before = λ k other before at has.
      let from : (t +ℤ pos 1) ≤ℤ t = subst (IsFrom (t +ℤ pos 1)) (exact-of given list each exact k other t are exactly at has).0 (right.higher_before k before) in
      omega (arith, ints, from);
}

-- ---- the redemption that is found
-- a redemption is found at a place with a figure
pub record IsFoundLow (given : GivenFigure) (list : List Candidate) (exact : List ExactOutcome) (redemption : Candidate) (shown : EachFigure) : Type 0 where
  pub place : ℕ
  pub there : slice_get list place ≡ Some redemption
  pub figure : ℤ
  pub is : shown ≡ figure_as (kind_of given) figure
  pub right : IsRightLow (exact_at exact) figure place

found-low : (given : GivenFigure) (list : List Candidate) (exact : List ExactOutcome) (said : Figure) (c : ℕ) (redemption : Candidate) → IsRightFor given exact list (answer.Low said c) → slice_get list c ≡ Some redemption → IsFoundLow given list exact redemption (figure_of_answer (answer.Low said c))
found-low given list exact said c redemption right there =
    let found = low-figure given list right.lowest said c right.answered in
    record {
      place = c;
      there = there;
      figure = found.0;
      is = ap (λ it. figure_of_answer (answer.Low it c)) found.2 ∙ figure-at (kind_of given) found.0 c;
      right = subst (IsRight (IsInDoubt given list) (exact_at exact)) found.1 right.right;
    }

same-found : (found other : PriceAndYield) → ◌≡◌ {A = Option (Result PriceAndYield Refusal)} (Some (Ok found)) (Some (Ok other)) → found ≡ other
same-found found other is = let same : ◌≡◌ {A = Result PriceAndYield Refusal} (Ok found) (Ok other) = same_Some (Ok found) (Ok other) is in cc

not-found : (found : PriceAndYield) (why : Refusal) → ◌≡◌ {A = Option (Result PriceAndYield Refusal)} (Some (Ok found)) (Some (Err why)) → ⊥
not-found found why is = let never : Ok found ≡ Err why = same_Some (Ok found) (Err why) is in cc

none-found : (found : PriceAndYield) → ◌≡◌ {A = Option (Result PriceAndYield Refusal)} (Some (Ok found)) None → ⊥
none-found found is = cc

at_yield-low : (y : ℤ) (list : List Candidate) (exact : List ExactOutcome) (price c : ℕ) (found : PriceAndYield) (redemption : Option Candidate) → slice_get list c ≡ redemption → IsRightFor (at_yield y) exact list (answer.Low (figure.Price price) c) → ◌≡◌ {A = Option (Result PriceAndYield Refusal)} (Some (Ok found)) (option_map (λ candidate. Ok (record { price = price; yld = rounded_yield y; redemption = candidate })) redemption) → IsFoundLow (at_yield y) list exact found.redemption (AsPrice found.price)
at_yield-low y list exact price c found None there right is = absurd (none-found found is)
at_yield-low y list exact price c found (Some candidate) there right is =
    let same : found ≡ record { price = price; yld = rounded_yield y; redemption = candidate } = same-found found (record { price = price; yld = rounded_yield y; redemption = candidate }) is in
    subst (λ (it : PriceAndYield). IsFoundLow (at_yield y) list exact it.redemption (AsPrice it.price)) (sym same) (found-low (at_yield y) list exact (figure.Price price) c candidate right there)

pub at_yield-found : (y : ℤ) (list : List Candidate) (exact : List ExactOutcome) (found : PriceAndYield) (low : LowAnswer) → IsRightFor (at_yield y) exact list low → Some (Ok found) ≡ found_at_yield y list low → IsFoundLow (at_yield y) list exact found.redemption (AsPrice found.price)
at_yield-found y list exact found (answer.Low (figure.Price price) c) right is = at_yield-low y list exact price c found (slice_get list c) refl right is
at_yield-found y list exact found (answer.Low (figure.Yield yld) c) right is = absurd (none-found found is)
at_yield-found y list exact found (answer.Undecided date boundary) right is = absurd (not-found found _ is)
at_yield-found y list exact found (answer.Below date) right is = absurd (not-found found _ is)
at_yield-found y list exact found answer.Above right is = absurd (none-found found is)
at_yield-found y list exact found (answer.NoTime date) right is = absurd (none-found found is)

at_price-low : (price net : ℕ) (list : List Candidate) (exact : List ExactOutcome) (yld : ℤ) (c : ℕ) (found : PriceAndYield) (redemption : Option Candidate) → slice_get list c ≡ redemption → IsRightFor (at_price net) exact list (answer.Low (figure.Yield yld) c) → ◌≡◌ {A = Option (Result PriceAndYield Refusal)} (Some (Ok found)) (option_map (λ candidate. Ok (record { price = price / 1000; yld = yld; redemption = candidate })) redemption) → IsFoundLow (at_price net) list exact found.redemption (AsYield found.yld)
at_price-low price net list exact yld c found None there right is = absurd (none-found found is)
at_price-low price net list exact yld c found (Some candidate) there right is =
    let same : found ≡ record { price = price / 1000; yld = yld; redemption = candidate } = same-found found (record { price = price / 1000; yld = yld; redemption = candidate }) is in
    subst (λ (it : PriceAndYield). IsFoundLow (at_price net) list exact it.redemption (AsYield it.yld)) (sym same) (found-low (at_price net) list exact (figure.Yield yld) c candidate right there)

pub at_price-found : (price net : ℕ) (list : List Candidate) (exact : List ExactOutcome) (found : PriceAndYield) (low : LowAnswer) → IsRightFor (at_price net) exact list low → Some (Ok found) ≡ found_at_price price list low → IsFoundLow (at_price net) list exact found.redemption (AsYield found.yld)
at_price-found price net list exact found (answer.Low (figure.Price other) c) right is = absurd (none-found found is)
at_price-found price net list exact found (answer.Low (figure.Yield yld) c) right is = at_price-low price net list exact yld c found (slice_get list c) refl right is
at_price-found price net list exact found (answer.Undecided date boundary) right is = absurd (not-found found _ is)
at_price-found price net list exact found (answer.Below date) right is = absurd (not-found found _ is)
at_price-found price net list exact found answer.Above right is = absurd (not-found found _ is)
at_price-found price net list exact found (answer.NoTime date) right is = absurd (not-found found _ is)

-- ---- at each basis
-- what figures disclose of a redemption, and what is shown of it alone
pub record IsDisclosed (figures : Figures) (found : PriceAndYield) : Type 0 where
  pub price : figures.price ≡ found.price
  pub yld : figures.yld ≡ found.yld
  pub date : figures.redemption ≡ found.redemption.date
  pub at : figures.at ≡ found.redemption.price
  pub label : figures.label ≡ found.redemption.label

-- what is shown of the redemption that was found, with that figure, is what is disclosed
shown-disclosed : (asked : Asked) (figures : Figures) (found : PriceAndYield) (shown : EachRedemption) → IsDisclosed figures found → IsShownAlone IsRightAlone asked figures found.redemption shown → shown.figure ≡ disclosed_figure asked.given figures → shown ≡ disclosed asked.given figures
shown-disclosed asked figures found shown is alone figure =
    let date : shown.date ≡ figures.redemption = alone.date ∙ sym is.date in
    let price : shown.price ≡ figures.at = alone.price ∙ sym is.at in
    let label : shown.label ≡ figures.label = alone.label ∙ sym is.label in
    λ i. record { date = date i; price = price i; label = label i; figure = figure i }

least-found : (given : GivenFigure) (asked : Asked) (figures : Figures) (found : PriceAndYield) (list : List Candidate) (each : List EachRedemption) (exact : List ExactOutcome) → IsDisclosed figures found → AllZip (IsExact given) list exact → IsFoundLow given list exact found.redemption (disclosed_figure asked.given figures) → AreAlone given list each → AllZip (IsShownAlone IsRightAlone asked figures) list each → All HasFigure each → IsLeastOfEach (disclosed asked.given figures) each
least-found given asked figures found list each exact is exactly low are shown all =
    let own = shown-at asked figures list each low.place found.redemption shown low.there in
    let has = thousandths-of (thousandths_in own.0.figure) (has-figure each low.place own.0 all own.1) in
    let exact_own = exact-of given list each exact low.place own.0 has.0 are exactly own.1 has.1 in
    let prints_same : prints has.0 ≡ prints low.figure = sym exact_own.0 ∙ low.right.printed in
    let same : has.0 ≡ low.figure = cc in
    let figure : own.0.figure ≡ disclosed_figure asked.given figures = exact_own.1 ∙ ap (figure_as (kind_of given)) same ∙ sym low.is in
    let whole : own.0 ≡ disclosed asked.given figures = shown-disclosed asked figures found own.0 is own.2 figure in
    least-of given list each exact low.figure low.place (disclosed asked.given figures) are exactly low.right
    (own.1 ∙ ap Some whole) (subst (HasThousandths low.figure) whole (has.1 ∙ ap Some same))

-- at a rate all have the yield of the figures
rate-shown : (yld : ℤ) (shown : EachFigure) (t : ℤ) → shown ≡ AsYield yld → thousandths_in shown ≡ Some t → yld ≡ t
rate-shown yld shown t is shows = same_Some yld t (sym (ap thousandths_in is) ∙ shows)

rate-at : (asked : Asked) (rate : ℤ) (figures : Figures) (list : List Candidate) (each : List EachRedemption) (k : ℕ) (other : EachRedemption) → asked.given ≡ AtRate rate → AllZip (IsShownAlone IsRightAlone asked figures) list each → slice_get each k ≡ Some other → other.figure ≡ AsYield figures.yld
rate-at asked rate figures list [] k other given are there = absurd (let never : None ≡ Some other = there in cc)
rate-at asked rate figures [] (shown ∷ each) k other given are there = absurd are
rate-at asked rate figures (candidate ∷ list) (shown ∷ each) zero other given are there =
    let alone : IsFigureAlone IsRightAlone (AtRate rate) asked.side asked.fee figures.yld candidate shown.figure = subst (λ it. IsFigureAlone IsRightAlone it asked.side asked.fee figures.yld candidate shown.figure) given are.0.alone in
    ap (λ (it : EachRedemption). it.figure) (sym (same_Some shown other there)) ∙ alone
rate-at asked rate figures (candidate ∷ list) (shown ∷ each) (suc k) other given are there = rate-at asked rate figures list each k other given are.1 there

pub rate-note : (found : PriceAndYield) (note : Candidate) (price : ℕ) (return : SimpleYield) → Ok found ≡ found_at_rate note price return → found.redemption ≡ note
rate-note found note price (simple.Print yld) is = let same : found ≡ record { price = price; yld = yld; redemption = note } = cc in ap (λ (it : PriceAndYield). it.redemption) same
rate-note found note price simple.Below is = absurd (let never : Ok found ≡ Err (refusal.YieldBelow note.date) = is in cc)
rate-note found note price simple.Above is = absurd (let never : Ok found ≡ Err refusal.YieldAbove = is in cc)
rate-note found note price simple.NoTime is = absurd (let never : Ok found ≡ Err (refusal.NoTime note.date) = is in cc)

least-at_rate : (asked : Asked) (rate : ℤ) (figures : Figures) (found : PriceAndYield) (list : List Candidate) (each : List EachRedemption) → asked.given ≡ AtRate rate → IsDisclosed figures found → IsFoundAtRate rate list (Ok found) → AllZip (IsShownAlone IsRightAlone asked figures) list each → IsLeastOfEach (disclosed asked.given figures) each
least-at_rate asked rate figures found list each given is low shown =
    let note : found.redemption ≡ low.note = rate-note found low.note low.price low.return low.is_found in
    let own = shown-at asked figures list each 0 found.redemption shown (low.there ∙ ap Some (sym note)) in
    let yield_own : own.0.figure ≡ AsYield figures.yld = rate-at asked rate figures list each 0 own.0 given shown own.1 in
    let given_figure : disclosed_figure asked.given figures ≡ AsYield figures.yld = ap (λ it. disclosed_figure it figures) given in
    let whole : own.0 ≡ disclosed asked.given figures = shown-disclosed asked figures found own.0 is own.2 (yield_own ∙ sym given_figure) in
    record {
      place = 0;
      there = own.1 ∙ ap Some whole;
      thousandths = figures.yld;
      figure = ap thousandths_in given_figure;
      none_lower = λ k other t at has. (let same = rate-shown figures.yld other.figure t (rate-at asked rate figures list each k other given shown at) has in omega (arith, ints, same));
      none_before = λ k other before at has. omega (arith, before);
    }

alone-yield : (asked : Asked) (y : ℤ) (figures : Figures) (list : List Candidate) (each : List EachRedemption) → asked.given ≡ AtYield y → AllZip (IsShownAlone IsRightAlone asked figures) list each → AreAlone (at_yield y) list each
alone-yield asked y figures [] [] given are = tt
alone-yield asked y figures [] (shown ∷ each) given are = absurd are
alone-yield asked y figures (candidate ∷ list) [] given are = absurd are
alone-yield asked y figures (candidate ∷ list) (shown ∷ each) given are =
    (subst (λ it. IsFigureAlone IsRightAlone it asked.side asked.fee figures.yld candidate shown.figure) given are.0.alone, alone-yield asked y figures list each given are.1)

alone-price : (asked : Asked) (price : ℕ) (figures : Figures) (list : List Candidate) (each : List EachRedemption) → asked.given ≡ AtPrice price → AllZip (IsShownAlone IsRightAlone asked figures) list each → AreAlone (at_price (net_price asked.side price asked.fee)) list each
alone-price asked price figures [] [] given are = tt
alone-price asked price figures [] (shown ∷ each) given are = absurd are
alone-price asked price figures (candidate ∷ list) [] given are = absurd are
alone-price asked price figures (candidate ∷ list) (shown ∷ each) given are =
    (subst (λ it. IsFigureAlone IsRightAlone it asked.side asked.fee figures.yld candidate shown.figure) given are.0.alone, alone-price asked price figures list each given are.1)

least-at : (given : Given) (asked : Asked) (figures : Figures) (found : PriceAndYield) (list : List Candidate) (each : List EachRedemption) → asked.given ≡ given → IsDisclosed figures found → HaveOutcomesAt given asked.side asked.fee list → AreRightAt given asked.side asked.fee list found → AllZip (IsShownAlone IsRightAlone asked figures) list each → All HasFigure each → IsLeastOfEach (disclosed asked.given figures) each
least-at (AtYield y) asked figures found list each given is outcomes right shown all =
    let exact = outcomes.exact.value in
    let low = at_yield-found y list exact found right.0 (right.1 exact outcomes.exact.such) right.2 in
    let figure : AsPrice found.price ≡ disclosed_figure asked.given figures = ap AsPrice (sym is.price) ∙ sym (ap (λ it. disclosed_figure it figures) given) in
    least-found (at_yield y) asked figures found list each exact is outcomes.exact.such
    (subst (IsFoundLow (at_yield y) list exact found.redemption) figure low) (alone-yield asked y figures list each given shown) shown all
least-at (AtPrice price) asked figures found list each given is outcomes right shown all =
    let net = net_price asked.side price asked.fee in
    let exact = outcomes.exact.value in
    let low = at_price-found price net list exact found right.0 (right.1 exact outcomes.exact.such) right.2 in
    let figure : AsYield found.yld ≡ disclosed_figure asked.given figures = ap AsYield (sym is.yld) ∙ sym (ap (λ it. disclosed_figure it figures) given) in
    least-found (at_price net) asked figures found list each exact is outcomes.exact.such
    (subst (IsFoundLow (at_price net) list exact found.redemption) figure low) (alone-price asked price figures list each given shown) shown all
least-at (AtRate rate) asked figures found list each given is outcomes right shown all = least-at_rate asked rate figures found list each given is right shown

pub disclosed-of : (row : IssueRow) (asked : Asked) (figures : Figures) (right : AreRightFigures row asked figures) → IsDisclosed figures right.found
disclosed-of row asked figures right = record {
  price = ap (λ (it : Figures). it.price) right.filled;
  yld = ap (λ (it : Figures). it.yld) right.filled;
  date = ap (λ (it : Figures). it.redemption) right.filled;
  at = ap (λ (it : Figures). it.at) right.filled;
  label = ap (λ (it : Figures). it.label) right.filled;
}

pub disclosed-least : DisclosedIsLeastOfEach
disclosed-least row asked figures each right are all =
    let list : are.list ≡ right.list = one-list row asked.settle are.list right.list are.candidates right.candidates in
    let shown = subst (λ l. AllZip (IsShownAlone IsRightAlone asked figures) l each) list are.shown in
    least-at asked.given asked figures right.found right.list each refl (disclosed-of row asked figures right) (right-outcomes row asked figures right) right.right shown all

-- ---- what is answered of each is right
answer-right : (ends : PaymentSeries → ℤ → WorthEnds) (given : GivenFigure) (candidate : Candidate) (shown : EachFigure) → IsAnswerAlone ends given candidate shown → IsRightAlone given candidate shown
answer-right ends given candidate shown is = record {
  low = is.0;
  right = is.1.right;
  undecided = is.1.undecided;
  decided = is.1.decided;
  figure = is.1.figure;
  is = is.2;
}

figure-right : (ends : PaymentSeries → ℤ → WorthEnds) (given : Given) (side : Side) (fee : ℕ) (yld : ℤ) (candidate : Candidate) (shown : EachFigure) → IsFigureAlone (IsAnswerAlone ends) given side fee yld candidate shown → IsFigureAlone IsRightAlone given side fee yld candidate shown
figure-right ends (AtYield y) side fee yld candidate shown is = answer-right ends (at_yield y) candidate shown is
figure-right ends (AtPrice price) side fee yld candidate shown is = answer-right ends (at_price (net_price side price fee)) candidate shown is
figure-right ends (AtRate rate) side fee yld candidate shown is = is

all-right : (ends : PaymentSeries → ℤ → WorthEnds) (asked : Asked) (figures : Figures) (list : List Candidate) (each : List EachRedemption) → AllZip (IsShownAlone (IsAnswerAlone ends) asked figures) list each → AllZip (IsShownAlone IsRightAlone asked figures) list each
all-right ends asked figures [] [] are = tt
all-right ends asked figures [] (shown ∷ each) are = absurd are
all-right ends asked figures (candidate ∷ list) [] are = absurd are
all-right ends asked figures (candidate ∷ list) (shown ∷ each) are = (
  record {
    date = are.0.date;
    price = are.0.price;
    label = are.0.label;
    alone = figure-right ends asked.given asked.side asked.fee figures.yld candidate shown.figure are.0.alone;
  },
  all-right ends asked figures list each are.1,
)

pub each-right : AnsweredEachAreRight
each-right ends row asked figures each are = record {
  list = are.list;
  candidates = are.candidates;
  shown = all-right ends asked figures are.list each are.shown;
}

-- ---- what is answered of each is one
-- what may be given for candidates may be given for the first alone, and for the others
basis-first : (given : Given) (fee : ℕ) (candidate : Candidate) (list : List Candidate) → IsOnBasis given fee (candidate ∷ list) → IsOnBasis given fee (candidate ∷ [])
basis-first (AtYield y) fee candidate list is = (is.0, All-cons IsAtYield candidate [] (All-head IsAtYield candidate list is.1) (All-nil IsAtYield))
basis-first (AtPrice price) fee candidate list is = tt
basis-first (AtRate rate) fee candidate list is = (is.0, All-cons IsNote candidate [] (All-head IsNote candidate list is.1) (All-nil IsNote))

basis-rest : (given : Given) (fee : ℕ) (candidate : Candidate) (list : List Candidate) → IsOnBasis given fee (candidate ∷ list) → IsOnBasis given fee list
basis-rest (AtYield y) fee candidate list is = (is.0, All-tail IsAtYield candidate list is.1)
basis-rest (AtPrice price) fee candidate list is = tt
basis-rest (AtRate rate) fee candidate list is = (is.0, All-tail IsNote candidate list is.1)

range-first : (given : Given) (side : Side) (fee : ℕ) (candidate : Candidate) (list : List Candidate) → IsInRange given side fee (candidate ∷ list) → IsInRange given side fee (candidate ∷ [])
range-first (AtYield y) side fee candidate list is = All-cons (IsGivenFor y) candidate [] (All-head (IsGivenFor y) candidate list is) (All-nil (IsGivenFor y))
range-first (AtPrice price) side fee candidate list is = is
range-first (AtRate rate) side fee candidate list is = All-cons (IsGivenFor rate) candidate [] (All-head (IsGivenFor rate) candidate list is) (All-nil (IsGivenFor rate))

range-rest : (given : Given) (side : Side) (fee : ℕ) (candidate : Candidate) (list : List Candidate) → IsInRange given side fee (candidate ∷ list) → IsInRange given side fee list
range-rest (AtYield y) side fee candidate list is = All-tail (IsGivenFor y) candidate list is
range-rest (AtPrice price) side fee candidate list is = is
range-rest (AtRate rate) side fee candidate list is = All-tail (IsGivenFor rate) candidate list is

may-first : (given : Given) (side : Side) (fee : ℕ) (candidate : Candidate) (list : List Candidate) → MayBeGiven given side fee (candidate ∷ list) → MayBeGiven given side fee (candidate ∷ [])
may-first given side fee candidate list may = record {
  candidates = All-cons IsCandidate candidate [] (All-head IsCandidate candidate list may.candidates) (All-nil IsCandidate);
  basis = basis-first given fee candidate list may.basis;
  in_range = range-first given side fee candidate list may.in_range;
}

may-rest : (given : Given) (side : Side) (fee : ℕ) (candidate : Candidate) (list : List Candidate) → MayBeGiven given side fee (candidate ∷ list) → MayBeGiven given side fee list
may-rest given side fee candidate list may = record {
  candidates = All-tail IsCandidate candidate list may.candidates;
  basis = basis-rest given fee candidate list may.basis;
  in_range = range-rest given side fee candidate list may.in_range;
}

answer-same : (ends : PaymentSeries → ℤ → WorthEnds) (given : GivenFigure) (candidate : Candidate) (shown other : EachFigure) → MayBeAsked given (candidate ∷ []) → IsAnswerAlone ends given candidate shown → IsAnswerAlone ends given candidate other → shown ≡ other
answer-same ends given candidate shown other asked is also =
    let low : is.0 ≡ also.0 = one-answer ends given (candidate ∷ []) is.0 also.0 asked is.1.rule also.1.rule in
    is.2 ∙ ap figure_of_answer low ∙ sym also.2

figure-same : (ends : PaymentSeries → ℤ → WorthEnds) (given : Given) (side : Side) (fee : ℕ) (yld : ℤ) (candidate : Candidate) (shown other : EachFigure) → MayBeGiven given side fee (candidate ∷ []) → IsFigureAlone (IsAnswerAlone ends) given side fee yld candidate shown → IsFigureAlone (IsAnswerAlone ends) given side fee yld candidate other → shown ≡ other
figure-same ends (AtYield y) side fee yld candidate shown other may is also = answer-same ends (at_yield y) candidate shown other (record { candidates = may.candidates; basis = may.basis.1; in_range = may.in_range }) is also
figure-same ends (AtPrice price) side fee yld candidate shown other may is also = answer-same ends (at_price (net_price side price fee)) candidate shown other (may.in_range.0, may.candidates) is also
figure-same ends (AtRate rate) side fee yld candidate shown other may is also = is ∙ sym also

shown-same : (ends : PaymentSeries → ℤ → WorthEnds) (asked : Asked) (figures : Figures) (candidate : Candidate) (shown other : EachRedemption) → MayBeGiven asked.given asked.side asked.fee (candidate ∷ []) → IsShownAlone (IsAnswerAlone ends) asked figures candidate shown → IsShownAlone (IsAnswerAlone ends) asked figures candidate other → shown ≡ other
shown-same ends asked figures candidate shown other may is also =
    let date : shown.date ≡ other.date = is.date ∙ sym also.date in
    let price : shown.price ≡ other.price = is.price ∙ sym also.price in
    let label : shown.label ≡ other.label = is.label ∙ sym also.label in
    let figure : shown.figure ≡ other.figure = figure-same ends asked.given asked.side asked.fee figures.yld candidate shown.figure other.figure may is.alone also.alone in
    λ i. record { date = date i; price = price i; label = label i; figure = figure i }

all-same : (ends : PaymentSeries → ℤ → WorthEnds) (asked : Asked) (figures : Figures) (list : List Candidate) (first other : List EachRedemption) → MayBeGiven asked.given asked.side asked.fee list → AllZip (IsShownAlone (IsAnswerAlone ends) asked figures) list first → AllZip (IsShownAlone (IsAnswerAlone ends) asked figures) list other → first ≡ other
all-same ends asked figures [] [] [] may is also = refl
all-same ends asked figures [] [] (z ∷ other) may is also = absurd also
all-same ends asked figures [] (x ∷ first) other may is also = absurd is
all-same ends asked figures (candidate ∷ list) [] other may is also = absurd is
all-same ends asked figures (candidate ∷ list) (x ∷ first) [] may is also = absurd also
all-same ends asked figures (candidate ∷ list) (x ∷ first) (z ∷ other) may is also =
    let head : x ≡ z = shown-same ends asked figures candidate x z (may-first asked.given asked.side asked.fee candidate list may) is.0 also.0 in
    let rest : first ≡ other = all-same ends asked figures list first other (may-rest asked.given asked.side asked.fee candidate list may) is.1 also.1 in
    λ i. head i ∷ rest i

pub each-unique : EachAreOne
each-unique ends row asked figures first other answered is also =
    let right = answered-right ends row asked figures answered in
    let list : is.list ≡ right.list = one-list row asked.settle is.list right.list is.candidates right.candidates in
    let lists : also.list ≡ right.list = one-list row asked.settle also.list right.list also.candidates right.candidates in
    all-same ends asked figures right.list first other (case-of row asked figures right)
    (subst (λ l. AllZip (IsShownAlone (IsAnswerAlone ends) asked figures) l first) list is.shown)
    (subst (λ l. AllZip (IsShownAlone (IsAnswerAlone ends) asked figures) l other) lists also.shown)
