-- The price of a security in its last interest period is unique, or else its refusal is.
use Rattle.std.proofs.Common.{◌≡◌, ℕ, Bool, true, false, Option, Some, None, refl, sym, ap, ◌∙◌, subst, arith, Result, Ok, Err, ℤ, pos, ◌-ℤ◌, ◌<ℤ◌}
use Rattle.std.specs.Prelude.{if◌then◌else◌, option_map, MatchOption}
use Rattle.std.specs.declared.cmp.Ordering.{Ordering}
use Rattle.std.proofs.lemmas.Int.{ints}
use Rattle.muni_rule.specs.Printed.{HasOnePrice, IsBelowZero}
use Rattle.muni_rule.specs.Ranges.{IsWithin, side_of, one_period_yields}
use Rattle.muni_rule.specs.declared.basis.Basis.TheVariants.{Thirty360}
use Rattle.muni_rule.specs.SinglePayment.{growth, AtLeast}
use Rattle.muni_rule.proofs.OnePriceLemmas.{one_payment-price}
use Rattle.muni_days.specs.Day.{civil}
use Rattle.muni_simple.specs.declared.single.Shape1.TheVariants.{OnePeriod}
use Rattle.muni_simple.proofs.GrowthLemmas.{growth-within}
use Rattle.muni_msg.specs.Refusal.{range_of}
use Rattle.muni_msg.specs.declared.refusal.Range.TheVariants.{PriceBelowZero}
use Rattle.muni_msg.specs.declared.refusal.Refusal.{Refusal}
use Rattle.muni_msg.specs.declared.refusal.Refusal.TheVariants.{SettleOutside, GivenOutOfRange}
use Rattle.muni_desk.specs.NextInterestDate.{is_next}
use Rattle.muni_desk.specs.QuoteOne.{settles, accrued_days, payment_of, range_refusal, early_refusal, IsPrice, IsRefusal, IsPriced}
use Rattle.muni_desk.specs.declared.one_period.QuoteOneRequest.{QuoteOneRequest}
use Rattle.muni_desk.proofs.PeriodLemmas.{accrued_days-within}

-- ---- if there is no early refusal
early-none : (settled : Bool) (y : ℤ) → (if settled then range_refusal y else Some SettleOutside) ≡ None → (settled ≡ true) × (range_refusal y ≡ None)
early-none true y none = (refl, none)
early-none false y none = absurd (let never : Some SettleOutside ≡ None = none in cc)

none-mapped : {X Y : Type 0} (f : X → Y) (side : Option X) → option_map f side ≡ None → side ≡ None
none-mapped f None none = refl
none-mapped f (Some side) none = absurd (let never : Some (f side) ≡ None = none in cc)

inside : (y : ℤ) → side_of one_period_yields y ≡ None → IsWithin one_period_yields y
inside y none = (grind (arith, ints), grind (arith, ints))

growth-above : (request : QuoteOneRequest) → is_next (civil request.next) ≡ true → early_refusal request ≡ None → pos 0 <ℤ growth (payment_of request) request.yld
growth-above request next none =
    let early = early-none (settles request) request.yld none in
    let given = inside request.yld (none-mapped (λ (side : Ordering). GivenOutOfRange (range_of side)) (side_of one_period_yields request.yld) early.1) in
    let days = accrued_days-within request next early.0 in
    let from = days.0 in
    let to = days.1 in
    let within = (growth-within Thirty360 OnePeriod (pos 180 -ℤ accrued_days request) request.yld (omega (arith, ints, to)) (omega (arith, ints, from)) given).0 in
    omega (arith, ints, within)

one-price : (request : QuoteOneRequest) → is_next (civil request.next) ≡ true → early_refusal request ≡ None → HasOnePrice (AtLeast (payment_of request) request.yld)
one-price request next none = one_payment-price (payment_of request) request.yld (growth-above request next none)

-- ---- a price and a refusal
price-unique : (request : QuoteOneRequest) (s t : ℕ) → is_next (civil request.next) ≡ true → IsPrice request s → IsPrice request t → s ≡ t
price-unique request s t next is also = (one-price request next is.0).one_is_printed s t is.1 also.1

price-or-refusal : (request : QuoteOneRequest) (t : ℕ) (refused : Refusal) → is_next (civil request.next) ≡ true → IsPrice request t → ¬ (IsRefusal request refused)
price-or-refusal request t refused next is so =
    let Late : Type 0 = IsBelowZero (AtLeast (payment_of request) request.yld) × (refused ≡ GivenOutOfRange PriceBelowZero) in
    let late : Late = subst (λ early. MatchOption early Late (λ it. refused ≡ it)) is.0 so in
    (one-price request next is.0).none_below_zero t is.1 late.0

refusal-by : (early : Option Refusal) (Below : Type 0) (late refused also : Refusal) → MatchOption early (Below × (refused ≡ late)) (λ it. refused ≡ it) → MatchOption early (Below × (also ≡ late)) (λ it. also ≡ it) → refused ≡ also
refusal-by None Below late refused also is so = is.1 ∙ sym so.1
refusal-by (Some early) Below late refused also is so = is ∙ sym so

pub priced-unique : (request : QuoteOneRequest) (answer other : Result ℕ Refusal) → is_next (civil request.next) ≡ true → IsPriced request answer → IsPriced request other → answer ≡ other
priced-unique request (Ok s) (Ok t) next is also = ap Ok (price-unique request s t next is also)
priced-unique request (Ok t) (Err refused) next is so = absurd (price-or-refusal request t refused next is so)
priced-unique request (Err refused) (Ok t) next so is = absurd (price-or-refusal request t refused next is so)
priced-unique request (Err refused) (Err also) next is so = ap Err (refusal-by (early_refusal request) (IsBelowZero (AtLeast (payment_of request) request.yld)) (GivenOutOfRange PriceBelowZero) refused also is so)
