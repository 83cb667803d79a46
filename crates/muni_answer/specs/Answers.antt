-- The right answer to what is asked of an issue: the figures of a trade, or the refusal that applies.
-- `ends` are those that the encloser gives to payments and a yield.
use Rattle.std.specs.Prelude.{◌≡◌, ℕ, ◌+◌, ◌/◌, ◌≤◌, MatchBool, MatchOption, List, Option, Some, None, option_map, Result, Ok, Err, ℤ, unsigned_abs}
use Rattle.std.specs.List.{slice_get}
use Rattle.muni_rule.specs.Accuracy.{TruncatesBy, Reaches, rounded_yield, accrued_cents, principal_cents, commission_cents}
use Rattle.muni_rule.specs.DayCount.{year_of}
use Rattle.muni_rule.specs.declared.basis.Basis.{Basis}
use Rattle.muni_rule.specs.Discount.{discount_price, discounted}
use Rattle.muni_rule.specs.Payments.{PaymentSeries}
use Rattle.muni_rule.specs.WorthEnds.{WorthEnds}
use Rattle.muni_terms.specs.Issue.{settles, accrued_days}
use Rattle.muni_terms.specs.declared.disclosure.Boundary.TheVariants as boundary
use Rattle.muni_terms.specs.declared.row.IssueRow.{IssueRow}
use Rattle.muni_simple.specs.Yields.{least_printed, IsYieldAnswer}
use Rattle.muni_simple.specs.declared.single.Shape1.TheVariants as single
use Rattle.muni_simple.specs.declared.yields.SimpleYield.{SimpleYield}
use Rattle.muni_simple.specs.declared.yields.SimpleYield.TheVariants as simple
use Rattle.muni_sched.specs.Answer.{IsLowestAnswer}
use Rattle.muni_sched.specs.GivenFigure.{at_yield, at_price}
use Rattle.muni_sched.specs.Candidates.{AreCandidates}
use Rattle.muni_sched.specs.declared.answer.Figure.TheVariants as figure
use Rattle.muni_sched.specs.declared.answer.LowAnswer.{LowAnswer}
use Rattle.muni_sched.specs.declared.answer.LowAnswer.TheVariants as answer
use Rattle.muni_sched.specs.declared.answer.NoPrice.{NoPrice}
use Rattle.muni_sched.specs.declared.answer.NoPrice.TheVariants as no_low_price
use Rattle.muni_sched.specs.declared.answer.NoYield.{NoYield}
use Rattle.muni_sched.specs.declared.answer.NoYield.TheVariants as no_low_yield
use Rattle.muni_sched.specs.declared.candidate.Candidate.{Candidate}
use Rattle.muni_sched.specs.declared.candidate.Shape.TheVariants as shape
use Rattle.muni_msg.specs.declared.asked.Asked.{Asked}
use Rattle.muni_msg.specs.declared.asked.Given.{Given}
use Rattle.muni_msg.specs.declared.asked.Given.TheVariants.{AtYield, AtPrice, AtRate}
use Rattle.muni_msg.specs.declared.asked.Side.{Side}
use Rattle.muni_msg.specs.declared.asked.Side.TheVariants.{Sell}
use Rattle.muni_msg.specs.declared.figures.Figures.{Figures}
use Rattle.muni_msg.specs.declared.refusal.Range.TheVariants as range
use Rattle.muni_msg.specs.declared.refusal.Refusal.{Refusal}
use Rattle.muni_msg.specs.declared.refusal.Refusal.TheVariants as refusal
use Rattle.muni_answer.specs.Trade.{is_wrong_basis, net_price, side_left, total}

-- a price and a yield that belong together, and the redemption that gives them
pub record PriceAndYield : Type 0 where
  pub price : ℕ
  pub yld : ℤ
  pub redemption : Candidate

-- at a yield: the lowest price, with the given yield rounded, or why there is none
abbrev pub found_at_yield : ℤ → List Candidate → LowAnswer → Option (Result PriceAndYield Refusal)
found_at_yield y list (answer.Low (figure.Price price) c) =
    option_map (λ candidate. Ok (record {
      price = price;
      yld = rounded_yield y;
      redemption = candidate;
    })) (slice_get list c)
found_at_yield y list (answer.Low (figure.Yield yld) c) = None
found_at_yield y list (answer.Undecided date boundary) = Some (Err (refusal.Undecided date boundary))
found_at_yield y list (answer.Below date) = Some (Err (refusal.GivenOutOfRange range.PriceBelowZero))
found_at_yield y list answer.Above = None
found_at_yield y list (answer.NoTime date) = None

-- at a price: the given price truncated, with the lowest yield at the net price, or why there is none
abbrev pub found_at_price : ℕ → List Candidate → LowAnswer → Option (Result PriceAndYield Refusal)
found_at_price price list (answer.Low (figure.Price other) c) = None
found_at_price price list (answer.Low (figure.Yield yld) c) =
    option_map (λ candidate. Ok (record {
      price = price / 1000;
      yld = yld;
      redemption = candidate;
    })) (slice_get list c)
found_at_price price list (answer.Undecided date boundary) =
    Some (Err (refusal.Undecided date boundary))
found_at_price price list (answer.Below date) = Some (Err (refusal.YieldBelow date))
found_at_price price list answer.Above = Some (Err refusal.YieldAbove)
found_at_price price list (answer.NoTime date) = Some (Err (refusal.NoTime date))

-- why there is no lowest price, or no lowest yield, as it is refused
abbrev pub no_price : NoPrice → Refusal
no_price (no_low_price.Undecided date price) = refusal.Undecided date (boundary.Price price)
no_price (no_low_price.Below date) = refusal.GivenOutOfRange range.PriceBelowZero

abbrev pub no_yield : NoYield → Refusal
no_yield (no_low_yield.Undecided date yld) = refusal.Undecided date (boundary.Yield yld)
no_yield (no_low_yield.Below date) = refusal.YieldBelow date
no_yield no_low_yield.Above = refusal.YieldAbove
no_yield (no_low_yield.NoTime date) = refusal.NoTime date

-- the return on a discounted note, so many days by its basis before its maturity, at a price that is
-- an amount
abbrev pub IsReturn : Basis → ℤ → ℤ → SimpleYield → Type 0
IsReturn basis days price return =
    IsYieldAnswer (least_printed single.AtRedemption) (discounted basis days) price return

-- at a rate: the price of a note with its return, or why there is none
abbrev pub found_at_rate : Candidate → ℕ → SimpleYield → Result PriceAndYield Refusal
found_at_rate note price (simple.Print yld) =
    Ok (record {
      price = price;
      yld = yld;
      redemption = note;
    })
found_at_rate note price simple.Below = Err (refusal.YieldBelow note.date)
found_at_rate note price simple.Above = Err refusal.YieldAbove
found_at_rate note price simple.NoTime = Err (refusal.NoTime note.date)

-- A discounted note has one candidate, its maturity. Its price at a rate is truncated, and the return is
-- computed from that price before it is truncated.
pub record IsFoundAtRate (rate : ℤ) (list : List Candidate) (found : Result PriceAndYield Refusal) : Type 0 where
  pub note : Candidate
  pub there : slice_get list 0 ≡ Some note
  pub days : ℤ
  pub basis : Basis
  pub shape : note.shape ≡ shape.Discount days basis
  pub price : ℕ
  pub truncated : TruncatesBy basis (Reaches (discount_price basis rate days)) price
  pub return : SimpleYield
  pub exact : IsReturn basis days (discount_price basis rate days) return
  pub is_found : found ≡ found_at_rate note price return

-- what is found over the candidates at a yield
abbrev pub IsFoundAtYield : (ends : PaymentSeries → ℤ → WorthEnds) → ℤ → List Candidate
    → Result PriceAndYield Refusal → Type 0
IsFoundAtYield ends y list found =
    (low : LowAnswer) × IsLowestAnswer ends (at_yield y) list low
    × (Some found ≡ found_at_yield y list low)

-- at a given price; the net price counts in full
abbrev pub IsFoundAtPrice : (ends : PaymentSeries → ℤ → WorthEnds) → ℕ → ℕ → List Candidate
    → Result PriceAndYield Refusal → Type 0
IsFoundAtPrice ends price net list found =
    (low : LowAnswer) × IsLowestAnswer ends (at_price net) list low
    × (Some found ≡ found_at_price price list low)

-- and at what is given
abbrev pub IsFound : (ends : PaymentSeries → ℤ → WorthEnds) → Given → Side → ℕ → List Candidate
    → Result PriceAndYield Refusal → Type 0
IsFound ends (AtYield y) side fee list found = IsFoundAtYield ends y list found
IsFound ends (AtPrice price) side fee list found =
    IsFoundAtPrice ends price (net_price side price fee) list found
IsFound ends (AtRate rate) side fee list found = IsFoundAtRate rate list found

-- principal and accrued interest of a trade together, with so many days of it
abbrev pub gross : IssueRow → Asked → ℤ → ℕ → ℕ
gross row asked days price =
    principal_cents asked.par price
    + accrued_cents row.coupon asked.par (unsigned_abs days) (year_of row.basis)

-- the figures of a trade, with the days of accrued interest, and the money for the whole par
abbrev pub figures_of : IssueRow → Asked → ℤ → PriceAndYield → Figures
figures_of row asked days found = record {
  price = found.price;
  yld = found.yld;
  redemption = found.redemption.date;
  at = found.redemption.price;
  label = found.redemption.label;
  days = days;
  principal = principal_cents asked.par found.price;
  accrued = accrued_cents row.coupon asked.par (unsigned_abs days) (year_of row.basis);
  commission = commission_cents asked.par asked.fee;
  total = total asked.side (gross row asked days found.price)
      (commission_cents asked.par asked.fee);
}

-- what is found, as it is answered
abbrev pub IsShown : IssueRow → Asked → Result PriceAndYield Refusal → Result Figures Refusal → Type 0
IsShown row asked (Ok found) answer =
    (days : ℤ) × (Some days ≡ accrued_days row asked.settle)
    × (answer ≡ Ok (figures_of row asked days found))
IsShown row asked (Err refused) answer = answer ≡ Err refused

-- a price and a yield, or a refusal, are found so, and the answer shows them
pub record ShowsFound (Finds : Result PriceAndYield Refusal → Type 0) (row : IssueRow) (asked : Asked) (answer : Result Figures Refusal) : Type 0 where
  pub found : Result PriceAndYield Refusal
  pub is_found : Finds found
  pub is_shown : IsShown row asked found answer

-- the figures that are found at what is given, or the refusal
abbrev pub IsComputed : (ends : PaymentSeries → ℤ → WorthEnds) → IssueRow → Asked → List Candidate
    → Result Figures Refusal → Type 0
IsComputed ends row asked list answer =
    ShowsFound (IsFound ends asked.given asked.side asked.fee list) row asked answer

-- a seller's principal covers the commission, and the interest is at most 600 million dollars
pub record IsPayable (side : Side) (figures : Figures) : Type 0 where
  pub covered : side ≡ Sell → figures.commission ≤ figures.principal
  pub accrued : figures.accrued ≤ 60_000_000_000

-- on a day on which the issue settles: what is given may leave its range
pub record IsSettledAnswer (ends : PaymentSeries → ℤ → WorthEnds) (row : IssueRow) (asked : Asked) (answer : Result Figures Refusal) : Type 0 where
  pub list : List Candidate
  pub candidates : AreCandidates row asked.settle list
  pub answered : MatchOption (side_left asked.given asked.side asked.fee list)
      (IsComputed ends row asked list answer)
      (λ side. answer ≡ Err (refusal.GivenOutOfRange side))

-- The right answer: the refusal that applies first, of the basis, the settlement and what is given, and
-- then the figures or why there are none.
abbrev pub IsRightAnswer : (ends : PaymentSeries → ℤ → WorthEnds) → IssueRow → Asked
    → Result Figures Refusal → Type 0
IsRightAnswer ends row asked answer =
    MatchBool (is_wrong_basis row.kind asked.given asked.fee) (answer ≡ Err refusal.WrongBasis)
    (MatchBool (settles row asked.settle) (IsSettledAnswer ends row asked answer)
    (answer ≡ Err refusal.SettleOutside))
