-- The redemption that figures disclose, among the candidates, and the yield that is shown of it.
use Rattle.std.proofs.Common.{◌≡◌, ℕ, zero, suc, ◌<◌, ◌==◌, Bool, true, false, List, [], ◌∷◌, length, refl, sym, subst, ap, ◌∙◌, arith, ◌⊎◌, ⊎_elim, inl, inr, Option, Some, None, ℤ, pos, negsuc, ◌+ℤ◌, ◌≤ℤ◌, ◌<ℤ◌, Result, Ok, Err}
use Rattle.std.specs.Prelude.{All, AllPairs, Contains, find, if◌then◌else◌, option_map, ◌*◌, ◌/◌, ◌*ℤ◌, neg_ℤ}
use Rattle.std.specs.List.{slice_get, AllZip}
use Rattle.std.proofs.lemmas.Int.{ints}
use Rattle.std.proofs.lemmas.Bool.Decides.{nat_tests}
use Rattle.std.proofs.lemmas.Option.{same_Some, get_or_from_slice_get, slice_get_within}
use Rattle.std.proofs.lemmas.List.Elements.{All-head, All-tail, Contains-get_or}
use Rattle.muni_rule.specs.Accuracy.{price_amount, rounded_yield}
use Rattle.muni_rule.specs.Outcomes.{IsPrint}
use Rattle.muni_rule.specs.Payments.{PaymentSeries}
use Rattle.muni_rule.specs.PrintedYield.{Reached, Falls}
use Rattle.muni_rule.specs.Ranges.{IsWithin}
use Rattle.muni_rule.specs.Schedule.{ExactOutcome, prints, no_time}
use Rattle.muni_rule.specs.SinglePayment.{SinglePayment, AtLeast, More}
use Rattle.muni_rule.specs.WorthEnds.{WorthEnds}
use Rattle.muni_rule.proofs.FallLemmas.{price_falls}
use Rattle.muni_rule.proofs.ManyPeriodFallLemmas.{many_periods-fall}
use Rattle.muni_rule.proofs.YieldLemmas.{reached-le}
use Rattle.muni_days.specs.Day.{civil, place_of}
use Rattle.muni_days.specs.declared.day.Day.{Day}
use Rattle.muni_terms.specs.Check.{fault_of}
use Rattle.muni_terms.specs.declared.row.Kind.{Kind}
use Rattle.muni_terms.specs.declared.row.Kind.TheVariants as kinds
use Rattle.muni_terms.specs.declared.row.IssueRow.{IssueRow}
use Rattle.muni_simple.specs.Single.{payment_of}
use Rattle.muni_simple.specs.Yields.{greatest_printed}
use Rattle.muni_sched.specs.Answer.{exact_at}
use Rattle.muni_sched.specs.Candidates.{AreCandidates, HasShape, IsCandidate, IsRedeemedEarlier, redemption_of}
use Rattle.muni_sched.specs.Exact.{IsExactSingle, IsExactYieldOf}
use Rattle.muni_sched.specs.GivenFigure.{GivenFigure, at_yield, at_price, IsExact}
use Rattle.muni_sched.specs.PriceOutcome.{IsAtYield, IsShapeAtYield}
use Rattle.muni_sched.specs.Range.{given_range, IsGivenFor}
use Rattle.muni_rule.specs.LastPayment.{is_last_period, last_payment}
use Rattle.muni_sched.specs.Shape.{IsPriceable, single, series_shape, shape_by}
use Rattle.muni_sched.specs.ToCome.{to_come_of}
use Rattle.muni_sched.specs.declared.answer.Figure.TheVariants as figure
use Rattle.muni_sched.specs.declared.answer.LowAnswer.{LowAnswer}
use Rattle.muni_sched.specs.declared.answer.LowAnswer.TheVariants as answer
use Rattle.muni_sched.specs.declared.candidate.Candidate.{Candidate}
use Rattle.muni_sched.specs.declared.candidate.Shape.{Shape}
use Rattle.muni_sched.specs.declared.candidate.Shape.TheVariants as shape
use Rattle.muni_sched.proofs.CandidateLemmas.{one-list}
use Rattle.muni_sched.proofs.IntLemmas.{less_or_not}
use Rattle.muni_sched.proofs.RiseLemmas.{candidates-rise}
use Rattle.muni_sched.proofs.YieldSoundLemmas.{price-above}
use Rattle.muni_msg.specs.declared.asked.Asked.{Asked}
use Rattle.muni_msg.specs.declared.asked.Given.{Given}
use Rattle.muni_msg.specs.declared.asked.Given.TheVariants.{AtYield, AtPrice, AtRate}
use Rattle.muni_msg.specs.declared.asked.Side.{Side}
use Rattle.muni_msg.specs.declared.each.EachFigure.{EachFigure}
use Rattle.muni_msg.specs.declared.each.EachFigure.TheVariants.{Yield as AsYield}
use Rattle.muni_msg.specs.declared.figures.Figures.{Figures}
use Rattle.muni_msg.specs.declared.refusal.Refusal.{Refusal}
use Rattle.muni_answer.specs.AnswerLaws.{HaveOutcomesAt}
use Rattle.muni_answer.specs.Answers.{PriceAndYield, found_at_yield, IsFoundAtRate, IsRightAnswer}
use Rattle.muni_answer.specs.FilledFor.{IsFilledFor, refusal_of}
use Rattle.muni_answer.specs.declared.answers.Early.{Early}
use Rattle.muni_answer.specs.GivenFor.{IsDiscounted, IsNote, MayBeGiven}
use Rattle.muni_answer.specs.RightFigures.{AreRightAt, AreRightFigures}
use Rattle.muni_book.specs.Risk.{is_on, shown_yield, disclosed_redemption}
use Rattle.muni_answer.specs.Trade.{net_price}
use Rattle.muni_book.proofs.EachLemmas.{IsFoundLow, IsDisclosed, figure_as, at_yield-found, at_price-found, rate-note, disclosed-of}
use Rattle.muni_answer.proofs.OneFigureLemmas.{case-of, right-outcomes}
use Rattle.muni_answer.proofs.RightLemmas.{answered-right}
use Rattle.muni_answer.proofs.UniqueLemmas.{answers-unique}

-- ---- the candidate of a day
same-place : (a b : ℕ) → a ≡ b → (a == b) ≡ true
same-place a b same = grind (arith, nat_tests)

apart : (a b : ℕ) → a < b → (a == b) ≡ false
apart a b less = grind (arith, nat_tests)

tail-rises : (first : Candidate) (rest : List Candidate) → AllPairs IsRedeemedEarlier (first ∷ rest) → AllPairs IsRedeemedEarlier rest
tail-rises first rest rise = λ i j d less inside. rise (suc i) (suc j) d (omega arith) (omega arith)

-- candidates rise by their days, and so the one of a day is the first that is found on it
found-on : (list : List Candidate) (c : ℕ) (x : Candidate) (day : Day) → AllPairs IsRedeemedEarlier list → slice_get list c ≡ Some x → x.date ≡ day → find (is_on day) list ≡ Some x
found-on [] c x day rise there on = absurd (let never : None ≡ Some x = there in cc)
found-on (first ∷ rest) zero x day rise there on =
    let same : first ≡ x = same_Some first x there in
    let is : is_on day first ≡ true = same-place (place_of first.date) (place_of day) (ap (λ (it : Candidate). place_of it.date) same ∙ ap place_of on) in
    ap (λ b. if b then Some first else find (is_on day) rest) is ∙ ap Some same
found-on (first ∷ rest) (suc c) x day rise there on =
    let within = slice_get_within rest c x there in
    let later : place_of first.date < place_of x.date = subst (IsRedeemedEarlier first) (get_or_from_slice_get rest c x first there) (rise 0 (suc c) first (omega arith) (omega arith)) in
    let not : is_on day first ≡ false = apart (place_of first.date) (place_of day) (subst (λ d. place_of first.date < place_of d) on later) in
    ap (λ b. if b then Some first else find (is_on day) rest) not ∙ found-on rest c x day (tail-rises first rest rise) there on

among : (list : List Candidate) (c : ℕ) (x : Candidate) → slice_get list c ≡ Some x → Contains list x
among list c x there = subst (Contains list) (get_or_from_slice_get list c x x there) (Contains-get_or list c x (slice_get_within list c x there))

of-all : (Such : Candidate → Type 0) (list : List Candidate) (c : ℕ) (x : Candidate) → slice_get list c ≡ Some x → All Such list → Such x
of-all Such list c x there all = subst Such (get_or_from_slice_get list c x x there) (all c x (slice_get_within list c x there))

-- ---- a printed yield may be given
print-within : {AtLeast More : ℤ → Type 0} → Falls AtLeast More → (least greatest t : ℤ) → IsPrint least greatest AtLeast More t → (least ≤ℤ t) × (t ≤ℤ greatest)
print-within falls least greatest t print = (
  ⊎_elim
      (λ (less : t <ℤ least). absurd (print.printed.next_not_reached (reached-le falls (t +ℤ pos 1) least (omega (arith, ints, less)) print.not_below)))
      (λ (order : least ≤ℤ t). order)
      (less_or_not t least),
  ⊎_elim
      (λ (more : greatest <ℤ t). absurd (print.not_above (reached-le falls (greatest +ℤ pos 1) t (omega (arith, ints, more)) print.printed.reached)))
      (λ (order : t ≤ℤ greatest). order)
      (less_or_not greatest t),
)

ten-times : (least greatest t : ℤ) → (least ≤ℤ t) × (t ≤ℤ greatest) → ((least *ℤ pos 10) ≤ℤ (t *ℤ pos 10)) × ((t *ℤ pos 10) ≤ℤ (greatest *ℤ pos 10))
ten-times least greatest t within = let low = within.0 in let high = within.1 in (omega (arith, ints, low), omega (arith, ints, high))

abbrev MayBeShown : ℤ → Shape → Type 0
MayBeShown t of = IsWithin (given_range of) (shown_yield t) ⊎ IsDiscounted of

single-print : (least : ℤ) (payment : SinglePayment) (price : ℕ) (t : ℤ) → 0 < price → pos 0 ≤ℤ payment.accrued → IsExactSingle least payment (price_amount payment.basis price) (prints t) → (least ≤ℤ t) × (t ≤ℤ greatest_printed)
single-print least payment price t some accrued exact =
    ⊎_elim
    (λ (none : (payment.left ≡ pos 0) × (prints t ≡ no_time)). absurd (let never = none.1 in cc))
    (λ (is : (pos 0 <ℤ payment.left) × IsPrint least greatest_printed (λ y. AtLeast payment y (price_amount payment.basis price)) (λ y. More payment y (price_amount payment.basis price)) t).
    print-within (price_falls payment (price_amount payment.basis price) is.0 (price-above payment price accrued some)) least greatest_printed t is.1)
    exact

exact-shown : (price : ℕ) (of : Shape) (t : ℤ) → 0 < price → IsPriceable of → IsExactYieldOf price (to_come_of of) (prints t) → MayBeShown t of
exact-shown price (shape.Many series) t some is exact =
    inl (ten-times (negsuc 4_999) (pos 100_000) t (print-within (many_periods-fall series (pos (360_000 * price)) is.0 is.1) (negsuc 4_999) (pos 100_000) t exact))
exact-shown price (shape.One payment) t some is exact =
    inl (ten-times (negsuc 89_999) (pos 999_999) t (single-print (negsuc 89_999) (payment_of payment) price t some is.accrued.0 exact))
exact-shown price (shape.AtRedemption payment) t some is exact =
    inl (ten-times (negsuc 44_999) (pos 999_999) t (single-print (negsuc 44_999) (payment_of payment) price t some is.accrued.0 exact))
exact-shown price (shape.Discount days basis) t some is exact = inr tt

-- ---- and so may a given one as it is shown
round-within : (least : ℕ) (greatest : ℕ) (y : ℤ) → (neg_ℤ (pos (10 * least)) ≤ℤ y) × (y ≤ℤ pos (10 * greatest)) → (neg_ℤ (pos (10 * least)) ≤ℤ (rounded_yield y *ℤ pos 10)) × ((rounded_yield y *ℤ pos 10) ≤ℤ pos (10 * greatest))
round-within least greatest (pos y) within = let high = within.1 in (omega (arith, ints), omega (arith, ints, high))
round-within least greatest (negsuc y) within = let low = within.0 in (omega (arith, ints, low), omega (arith, ints))

given-shown : (y : ℤ) (of : Shape) → IsShapeAtYield of → IsWithin (given_range of) y → IsWithin (given_range of) (shown_yield (rounded_yield y))
given-shown y (shape.Many series) at given = round-within 5_000 100_000 y given
given-shown y (shape.One payment) at given = round-within 90_000 999_999 y given
given-shown y (shape.AtRedemption payment) at given = round-within 45_000 999_999 y given
given-shown y (shape.Discount days basis) at given = absurd at

-- ---- the redemption that is found
-- it is among the candidates, and the yield may be shown of it
record IsShownAt (list : List Candidate) (redemption : Candidate) (yld : ℤ) : Type 0 where
  pub place : ℕ
  pub there : slice_get list place ≡ Some redemption
  pub may : MayBeShown yld redemption.shape

same-found : (found other : PriceAndYield) → ◌≡◌ {A = Option (Result PriceAndYield Refusal)} (Some (Ok found)) (Some (Ok other)) → found ≡ other
same-found found other is = let same : ◌≡◌ {A = Result PriceAndYield Refusal} (Ok found) (Ok other) = same_Some (Ok found) (Ok other) is in cc

rounded-of : (y : ℤ) (price : ℕ) (redemption : Option Candidate) (found : PriceAndYield) → ◌≡◌ {A = Option (Result PriceAndYield Refusal)} (Some (Ok found)) (option_map (λ candidate. Ok (record { price = price; yld = rounded_yield y; redemption = candidate })) redemption) → found.yld ≡ rounded_yield y
rounded-of y price None found is = absurd (let never : ◌≡◌ {A = Option (Result PriceAndYield Refusal)} (Some (Ok found)) None = is in cc)
rounded-of y price (Some candidate) found is = ap (λ (it : PriceAndYield). it.yld) (same-found found (record { price = price; yld = rounded_yield y; redemption = candidate }) is)

refused : (found : PriceAndYield) (why : Refusal) → ◌≡◌ {A = Option (Result PriceAndYield Refusal)} (Some (Ok found)) (Some (Err why)) → ⊥
refused found why is = let never : ◌≡◌ {A = Result PriceAndYield Refusal} (Ok found) (Err why) = same_Some (Ok found) (Err why) is in cc

unfound : (found : PriceAndYield) → ◌≡◌ {A = Option (Result PriceAndYield Refusal)} (Some (Ok found)) None → ⊥
unfound found is = cc

rounded : (y : ℤ) (list : List Candidate) (found : PriceAndYield) (low : LowAnswer) → Some (Ok found) ≡ found_at_yield y list low → found.yld ≡ rounded_yield y
rounded y list found (answer.Low (figure.Price price) c) is = rounded-of y price (slice_get list c) found is
rounded y list found (answer.Low (figure.Yield yld) c) is = absurd (unfound found is)
rounded y list found (answer.Undecided date boundary) is = absurd (refused found _ is)
rounded y list found (answer.Below date) is = absurd (refused found _ is)
rounded y list found answer.Above is = absurd (unfound found is)
rounded y list found (answer.NoTime date) is = absurd (unfound found is)

exact-of : (given : GivenFigure) (list : List Candidate) (exact : List ExactOutcome) (c : ℕ) (x : Candidate) → AllZip (IsExact given) list exact → slice_get list c ≡ Some x → IsExact given x (exact_at exact c)
exact-of given [] exact c x are there = absurd (let never : None ≡ Some x = there in cc)
exact-of given (first ∷ list) [] c x are there = absurd are
exact-of given (first ∷ list) (e ∷ exact) zero x are there = subst (λ it. IsExact given it e) (same_Some first x there) are.0
exact-of given (first ∷ list) (e ∷ exact) (suc c) x are there = exact-of given list exact c x are.1 there

shown-at : (given : Given) (side : Side) (fee : ℕ) (list : List Candidate) (found : PriceAndYield) → MayBeGiven given side fee list → HaveOutcomesAt given side fee list → AreRightAt given side fee list found → IsShownAt list found.redemption found.yld
shown-at (AtYield y) side fee list found case outcomes right =
    let exact = outcomes.exact.value in
    let low = at_yield-found y list exact found right.0 (right.1 exact outcomes.exact.such) right.2 in
    let at = of-all IsAtYield list low.place found.redemption low.there case.basis.1 in
    let given = of-all (IsGivenFor y) list low.place found.redemption low.there case.in_range in
    record {
      place = low.place;
      there = low.there;
      may = inl (subst (λ t. IsWithin (given_range found.redemption.shape) (shown_yield t)) (sym (rounded y list found right.0 right.2)) (given-shown y found.redemption.shape at given));
    }
shown-at (AtPrice price) side fee list found case outcomes right =
    let net = net_price side price fee in
    let exact = outcomes.exact.value in
    let low = at_price-found price net list exact found right.0 (right.1 exact outcomes.exact.such) right.2 in
    let same : found.yld ≡ low.figure = let is : AsYield found.yld ≡ AsYield low.figure = low.is in cc in
    let own = subst (IsExact (at_price net) found.redemption) low.right.printed (exact-of (at_price net) list exact low.place found.redemption outcomes.exact.such low.there) in
    record {
      place = low.place;
      there = low.there;
      may = subst (λ t. MayBeShown t found.redemption.shape) (sym same)
          (exact-shown net found.redemption.shape low.figure case.in_range.0 (of-all IsCandidate list low.place found.redemption low.there case.candidates) own);
    }
shown-at (AtRate rate) side fee list found case outcomes right =
    let note : found.redemption ≡ right.note = rate-note found right.note right.price right.return right.is_found in
    record {
      place = 0;
      there = right.there ∙ ap Some (sym note);
      may = inr (subst IsDiscounted (sym (ap (λ (it : Candidate). it.shape) note ∙ right.shape)) tt);
    }

-- ---- what figures disclose
-- a candidate is the redemption that figures disclose, and their yield may be shown of it
pub record IsDisclosedOf (row : IssueRow) (asked : Asked) (figures : Figures) (list : List Candidate) (disclosed : Candidate) : Type 0 where
  pub among : Contains list disclosed
  pub redemption : redemption_of disclosed ≡ disclosed_redemption figures
  pub may : MayBeShown figures.yld disclosed.shape
  pub shape : HasShape row asked.settle disclosed

-- it is the one that is found on its day
pub has-disclosed : (row : IssueRow) (asked : Asked) (figures : Figures) (list : List Candidate) → fault_of row ≡ None → AreCandidates row asked.settle list → AreRightFigures row asked figures
    → (disclosed : Candidate) × (find (is_on figures.redemption) list ≡ Some disclosed) × IsDisclosedOf row asked figures list disclosed
has-disclosed row asked figures list passed are right =
    let same : right.list ≡ list = one-list row asked.settle right.list list right.candidates are in
    let shown : IsShownAt list right.found.redemption right.found.yld =
    subst (λ l. IsShownAt l right.found.redemption right.found.yld) same
    (shown-at asked.given asked.side asked.fee right.list right.found (case-of row asked figures right) (right-outcomes row asked figures right) right.right) in
    let is : IsDisclosed figures right.found = disclosed-of row asked figures right in
    let rise = candidates-rise row asked.settle list passed are.redemptions in (
      right.found.redemption,
      found-on list shown.place right.found.redemption figures.redemption rise shown.there (sym is.date),
      record {
        among = among list shown.place right.found.redemption shown.there;
        redemption = λ i. record { date = civil (sym is.date i); price = sym is.at i; label = sym is.label i };
        may = subst (λ t. MayBeShown t right.found.redemption.shape) (sym is.yld) shown.may;
        shape = of-all (HasShape row asked.settle) list shown.place right.found.redemption shown.there are.shapes;
      },
    )

pub found-disclosed : (ends : PaymentSeries → ℤ → WorthEnds) (row : IssueRow) (asked : Asked) (figures : Figures) (list : List Candidate) (disclosed : Candidate) → fault_of row ≡ None → AreCandidates row asked.settle list → IsRightAnswer ends row asked (Ok figures)
    → find (is_on figures.redemption) list ≡ Some disclosed → IsDisclosedOf row asked figures list disclosed
found-disclosed ends row asked figures list disclosed passed are right found =
    let has = has-disclosed row asked figures list passed are (answered-right ends row asked figures right) in
    subst (IsDisclosedOf row asked figures list) (same_Some has.0 disclosed (sym has.1 ∙ found)) has.2

pub none-disclosed : (ends : PaymentSeries → ℤ → WorthEnds) (row : IssueRow) (asked : Asked) (figures : Figures) (list : List Candidate) → fault_of row ≡ None → AreCandidates row asked.settle list → IsRightAnswer ends row asked (Ok figures)
    → find (is_on figures.redemption) list ≡ None → ⊥
none-disclosed ends row asked figures list passed are right none =
    let has = has-disclosed row asked figures list passed are (answered-right ends row asked figures right) in
    let never : None ≡ Some has.0 = sym none ∙ has.1 in cc

-- what is found in a list is as all of it
found-by : (p : Candidate → Bool) (Such : Candidate → Type 0) (first : Candidate) (rest : List Candidate) (test : Bool) (x : Candidate) → All Such (first ∷ rest) → (if test then Some first else find p rest) ≡ Some x → (find p rest ≡ Some x → Such x) → Such x
found-by p Such first rest true x all found later = subst Such (same_Some first x found) (All-head Such first rest all)
found-by p Such first rest false x all found later = later found

pub found-all : (p : Candidate → Bool) (Such : Candidate → Type 0) (list : List Candidate) (x : Candidate) → All Such list → find p list ≡ Some x → Such x
found-all p Such [] x all found = absurd (let never : None ≡ Some x = found in cc)
found-all p Such (first ∷ rest) x all found = found-by p Such first rest (p first) x all found (found-all p Such rest x (All-tail Such first rest all))

-- ---- the schedule that is filled
never-refused : (figures : Figures) (why : Refusal) → ◌≡◌ {A = Result Figures Refusal} (Ok figures) (Err why) → ⊥
never-refused figures why is = cc

pub not-refused : (ends : PaymentSeries → ℤ → WorthEnds) (row : IssueRow) (asked : Asked) (figures : Figures) (list : List Candidate) (why : Early) → IsFilledFor row asked list (Err why) → IsRightAnswer ends row asked (Ok figures) → ⊥
not-refused ends row asked figures list why refused right =
    never-refused figures (refusal_of why) (answers-unique ends row asked (Ok figures) (Err (refusal_of why)) right (refused ends))

-- ---- a discounted note
discounted-none : (of : Shape) → IsShapeAtYield of → IsDiscounted of → ⊥
discounted-none (shape.Many series) at note = note
discounted-none (shape.One payment) at note = note
discounted-none (shape.AtRedemption payment) at note = note
discounted-none (shape.Discount days basis) at note = at

either-yield : (last : Bool) (series : PaymentSeries) → IsShapeAtYield (if last then shape.One (single (last_payment series)) else shape.Many series)
either-yield true series = tt
either-yield false series = tt

series-none : (of : Shape) (series : Option PaymentSeries) → Some of ≡ option_map series_shape series → IsDiscounted of → ⊥
series-none of (Some series) same note = discounted-none of (subst IsShapeAtYield (sym (same_Some of (series_shape series) same)) (either-yield (is_last_period series) series)) note
series-none of None same note = let never : Some of ≡ None = same in cc

-- only its maturity is priced as that of a discounted note
pub discount-kind : (kind : Kind) (row : IssueRow) (settlement date : Day) (price : ℕ) (of : Shape) → Some of ≡ shape_by kind row settlement date price → IsDiscounted of → kind ≡ kinds.Discount
discount-kind (kinds.Periodic first) row settlement date price of same note = absurd (series-none of _ same note)
discount-kind kinds.Zero row settlement date price of same note = absurd (series-none of _ same note)
discount-kind kinds.AtRedemption row settlement date price of same note = absurd (subst IsDiscounted (same_Some of _ same) note)
discount-kind kinds.Discount row settlement date price of same note = refl

-- what has no sensitivities at a yield that may be shown of it is a discounted note
pub shown-note : (t : ℤ) (candidate : Candidate) → MayBeShown t candidate.shape → (IsGivenFor (shown_yield t) candidate → IsNote candidate) → IsNote candidate
shown-note t candidate may none =
    ⊎_elim
    (λ (given : IsGivenFor (shown_yield t) candidate). none given)
    (λ (note : IsNote candidate). note)
    may
