-- What is found over the candidates at what is given is unique.
use Rattle.std.proofs.Common.{◌≡◌, ℕ, ◌*◌, ◌≤◌, ◌<◌, List, Option, Some, None, refl, sym, subst, ap, ◌∙◌, arith, ℤ, pos, negsuc, ◌+ℤ◌, ◌≤ℤ◌, ◌<ℤ◌, Result}
use Rattle.std.specs.Prelude.{option_map}
use Rattle.std.proofs.Math.Nat.{mul-le-mul}
use Rattle.std.proofs.lemmas.Int.{ints}
use Rattle.muni_rule.specs.Accuracy.{TruncatesBy, Reaches}
use Rattle.muni_rule.specs.DayCount.{year_of}
use Rattle.muni_rule.specs.declared.basis.Basis.{Basis}
use Rattle.muni_rule.specs.declared.basis.Basis.TheVariants.{Thirty360, Actual365}
use Rattle.muni_rule.specs.Discount.{discount_price, discounted}
use Rattle.muni_rule.specs.Payments.{PaymentSeries}
use Rattle.muni_rule.specs.Ranges.{IsDiscountRate}
use Rattle.muni_rule.specs.WorthEnds.{WorthEnds}
use Rattle.muni_simple.specs.declared.yields.SimpleYield.{SimpleYield}
use Rattle.muni_simple.proofs.OneAnswer.{answer-same}
use Rattle.muni_sched.specs.GivenFigure.{at_yield, at_price, ArePriced}
use Rattle.muni_sched.specs.Candidates.{IsCandidate}
use Rattle.muni_sched.specs.Range.{side_of_first, IsGivenFor}
use Rattle.muni_sched.specs.Shape.{IsPriceable}
use Rattle.muni_sched.specs.declared.candidate.Candidate.{Candidate}
use Rattle.muni_sched.specs.declared.candidate.Shape.TheVariants as shape
use Rattle.muni_sched.proofs.OneAnswerLemmas.{one-answer}
use Rattle.muni_rule.specs.Printed.{IsClosed}
use Rattle.muni_rule.proofs.OnePriceLemmas.{printed-one}
use Rattle.muni_sched.proofs.RangeLemmas.{all-given}
use Rattle.std.proofs.lemmas.Option.{same_Some}
use Rattle.muni_msg.specs.Refusal.{range_of}
use Rattle.muni_msg.specs.declared.asked.Given.{Given}
use Rattle.muni_msg.specs.declared.asked.Given.TheVariants.{AtYield, AtPrice, AtRate}
use Rattle.muni_msg.specs.declared.asked.Side.{Side}
use Rattle.muni_msg.specs.declared.refusal.Refusal.{Refusal}
use Rattle.muni_answer.specs.Trade.{net_price, price_side, side_left}
use Rattle.muni_answer.specs.Answers.{PriceAndYield, found_at_yield, found_at_price, found_at_rate, IsReturn, IsFoundAtRate, IsFound}
use Rattle.muni_answer.specs.GivenFor.{IsInRange, MayBeGiven}
use Rattle.muni_answer.proofs.CandidateLemmas.{of-first, rate-in_range}

-- ---- what is given lies in its range
none-mapped : {X Y : Type 0} (f : X → Y) (side : Option X) → option_map f side ≡ None → side ≡ None
none-mapped f None none = refl
none-mapped f (Some side) none = absurd (let never : Some (f side) ≡ None = none in cc)

net-inside : (price net : ℕ) → price_side price net ≡ None → (0 < net) × (net ≤ 999_999_999)
net-inside price net none = (grind arith, grind arith)

pub inside-range : (given : Given) (side : Side) (fee : ℕ) (list : List Candidate) → side_left given side fee list ≡ None → IsInRange given side fee list
inside-range (AtYield y) side fee list none = all-given y list (none-mapped range_of (side_of_first y list) none)
inside-range (AtPrice price) side fee list none = net-inside price (net_price side price fee) none
inside-range (AtRate rate) side fee list none = all-given rate list (none-mapped range_of (side_of_first rate list) none)

-- ---- at a rate
par-least : (basis : Basis) → 360 ≤ year_of basis
par-least Thirty360 = omega arith
par-least Actual365 = omega arith

price-above : (basis : Basis) (rate days : ℤ) → IsDiscountRate rate → pos 0 ≤ℤ days → days ≤ℤ pos 720 → pos 0 <ℤ (discount_price basis rate days +ℤ pos 0)
price-above basis (negsuc r) days given from most = let least = given.0 in absurd (omega (arith, ints, least))
price-above basis (pos rate) (negsuc d) given from most = absurd (omega (arith, ints, from))
price-above basis (pos rate) (pos days) given from most =
    let greatest = given.1 in
    let small : rate ≤ 300_000 = omega (arith, ints, greatest) in
    let few : days ≤ 720 = omega (arith, ints, most) in
    let discount : rate * days ≤ 300_000 * 720 = mul-le-mul small few in
    let par = par-least basis in
    omega (arith, ints, discount, par)

return-unique : (basis : Basis) (rate days : ℤ) (return other : SimpleYield) → IsDiscountRate rate → (pos 0 ≤ℤ days) × (days ≤ℤ pos 720) → IsReturn basis days (discount_price basis rate days) return → IsReturn basis days (discount_price basis rate days) other → return ≡ other
return-unique basis rate days return other given range is also =
    answer-same (negsuc 44_999) (discounted basis days) (discount_price basis rate days) return other (omega (arith, ints)) (price-above basis rate days given range.0 range.1) is also

at_most-closed : (price : ℤ) → IsClosed (Reaches price)
at_most-closed price = λ amount smaller less reached. omega (arith, ints, less, reached)

pub at_rate-unique : (rate : ℤ) (side : Side) (fee : ℕ) (list : List Candidate) (found other : Result PriceAndYield Refusal) → MayBeGiven (AtRate rate) side fee list → IsFoundAtRate rate list found → IsFoundAtRate rate list other → found ≡ other
at_rate-unique rate side fee list found other case is also =
    let note : is.note ≡ also.note = same_Some is.note also.note (sym is.there ∙ also.there) in
    let shapes : shape.Discount is.days is.basis ≡ shape.Discount also.days also.basis = sym is.shape ∙ ap (λ (c : Candidate). c.shape) note ∙ also.shape in
    let days : is.days ≡ also.days = cc in
    let basis : is.basis ≡ also.basis = cc in
    let given : IsDiscountRate rate = rate-in_range rate is.days is.basis is.note.shape is.shape (of-first (IsGivenFor rate) list is.note is.there case.in_range) in
    let range : IsPriceable (shape.Discount is.days is.basis) = subst IsPriceable is.shape (of-first IsCandidate list is.note is.there case.candidates) in
    let exact : IsReturn is.basis is.days (discount_price is.basis rate is.days) also.return = rw (days, basis) also.exact in
    let truncated : TruncatesBy is.basis (Reaches (discount_price is.basis rate is.days)) also.price = rw (days, basis) also.truncated in
    let price : is.price ≡ also.price = printed-one is.basis (Reaches (discount_price is.basis rate is.days)) is.price also.price (at_most-closed (discount_price is.basis rate is.days)) is.truncated truncated in
    let return : is.return ≡ also.return = return-unique is.basis rate is.days is.return also.return given range is.exact exact in
    is.is_found ∙ (λ i. found_at_rate (note i) (price i) (return i)) ∙ sym also.is_found

-- ---- at each basis
pub found-unique : (ends : PaymentSeries → ℤ → WorthEnds) (given : Given) (side : Side) (fee : ℕ) (list : List Candidate) (found other : Result PriceAndYield Refusal) → MayBeGiven given side fee list → IsFound ends given side fee list found → IsFound ends given side fee list other → found ≡ other
found-unique ends (AtYield y) side fee list found other case is also =
    let askable : ArePriced y list = record { candidates = case.candidates; basis = case.basis.1; in_range = case.in_range } in
    let low : is.0 ≡ also.0 = one-answer ends (at_yield y) list is.0 also.0 askable is.1.rule also.1.rule in
    same_Some found other (is.2 ∙ ap (found_at_yield y list) low ∙ sym also.2)
found-unique ends (AtPrice price) side fee list found other case is also =
    let low : is.0 ≡ also.0 = one-answer ends (at_price (net_price side price fee)) list is.0 also.0 (case.in_range.0, case.candidates) is.1.rule also.1.rule in
    same_Some found other (is.2 ∙ ap (found_at_price price list) low ∙ sym also.2)
found-unique ends (AtRate rate) side fee list found other case is also = at_rate-unique rate side fee list found other case is also
