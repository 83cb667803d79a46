-- The sums over a book of trades and the answers to them, and their summary.
use Rattle.std.specs.Prelude.{◌≡◌, ℕ, ◌+◌, ◌*◌, ◌≤◌, Bool, true, false, cond, List, [], ◌∷◌, ◌++◌, length, fold, sum_by, count_by, codes, decimal, Result, Ok, Err, ℤ, pos, ◌+ℤ◌, ◌≤ℤ◌}
use Rattle.std.specs.Fmt.{signed_decimal}
use Rattle.muni_rule.specs.Civil.{Civil, is_before}
use Rattle.muni_dec.specs.Decimal.{decimal_text}
use Rattle.muni_dec.specs.Line.{line}
use Rattle.muni_days.specs.Day.{civil}
use Rattle.muni_msg.specs.declared.figures.Figures.{Figures}
use Rattle.muni_msg.specs.declared.refusal.Refusal.{Refusal}
use Rattle.muni_msg.specs.declared.refusal.Refusal.TheVariants as refusal
use Rattle.muni_desk.specs.declared.drill.sums.Sums.{Sums}
use Rattle.muni_desk.specs.declared.request.QuoteRequest.{QuoteRequest}

-- there are figures
abbrev pub is_printed : Result Figures Refusal → Bool
is_printed (Ok figures) = true
is_printed (Err refused) = false

-- the yield is undecided
abbrev pub is_undecided : Result Figures Refusal → Bool
is_undecided (Err (refusal.Undecided date boundary)) = true
is_undecided answer = false

-- the yield lies outside the range in which it is printed
abbrev pub is_outside : Result Figures Refusal → Bool
is_outside (Err (refusal.YieldBelow date)) = true
is_outside (Err refusal.YieldAbove) = true
is_outside answer = false

-- the yield that is printed, in units of 0.001 percent
abbrev pub yield_of : Result Figures Refusal → ℤ
yield_of (Ok figures) = figures.yld
yield_of (Err refused) = pos 0

-- the accrued interest that is printed, in cents
abbrev pub accrued_of : Result Figures Refusal → ℕ
accrued_of (Ok figures) = figures.accrued
accrued_of (Err refused) = 0

-- the redemption that is printed is before maturity
abbrev pub is_called : Civil → Result Figures Refusal → Bool
is_called maturity (Ok figures) = is_before (civil figures.redemption) maturity
is_called maturity (Err refused) = false

-- a request, and what is answered to it
pub record Answered : Type 0 where
  pub request : QuoteRequest
  pub answer : Result Figures Refusal

-- it is redeemed before its maturity
abbrev pub is_called_early : Answered → Bool
is_called_early it = is_called (civil it.request.row.maturity) it.answer

-- a line of a word and a number
abbrev pub number_line : List ℕ → ℕ → List ℕ
number_line word number = line (word ∷ decimal number ∷ [])

-- the lines of a summary
unfoldable pub summary_lines : (trades printed undecided outside : ℕ) → ℤ → (accrued called : ℕ) → List ℕ
summary_lines trades printed undecided outside yields accrued called =
    number_line (codes "DRILL") trades ++ number_line (codes "PRINTED") printed
    ++ number_line (codes "UNDECIDED") undecided ++ number_line (codes "OUTSIDE") outside
    ++ line (codes "YIELDS" ∷ signed_decimal yields ∷ [])
    ++ line (codes "ACCRUED" ∷ decimal_text 2 accrued ∷ []) ++ number_line (codes "CALLED") called

-- The summary of a book: how many trades there are, how many have figures, are undecided and lie outside
-- the range of yields; of those with figures the sum of the yields, the sum of the accrued interest, and
-- how many are redeemed before maturity.
abbrev pub summary_text : List Answered → List ℕ
summary_text book =
    summary_lines (length book) (count_by (λ it. is_printed it.answer) book)
    (count_by (λ it. is_undecided it.answer) book) (count_by (λ it. is_outside it.answer) book)
    (fold (λ total it. total +ℤ yield_of it.answer) (pos 0) book)
    (sum_by (λ it. accrued_of it.answer) book)
    (count_by is_called_early book)

-- these are the sums over a book
pub record AreSums (book : List Answered) (sums : Sums) : Type 0 where
  pub trades : sums.trades ≡ length book
  pub printed : sums.printed ≡ count_by (λ it. is_printed it.answer) book
  pub undecided : sums.undecided ≡ count_by (λ it. is_undecided it.answer) book
  pub outside : sums.outside ≡ count_by (λ it. is_outside it.answer) book
  pub yields : sums.yields ≡ fold (λ total it. total +ℤ yield_of it.answer) (pos 0) book
  pub accrued : sums.accrued ≡ sum_by (λ it. accrued_of it.answer) book
  pub called : sums.called ≡ count_by is_called_early book

-- these are sums with one answer more, to a trade of a security with this maturity
pub record HaveAnswer (before : Sums) (maturity : Civil) (answer : Result Figures Refusal) (sums : Sums) : Type 0 where
  pub trades : sums.trades ≡ before.trades + 1
  pub printed : sums.printed ≡ before.printed + cond (is_printed answer) 1 0
  pub undecided : sums.undecided ≡ before.undecided + cond (is_undecided answer) 1 0
  pub outside : sums.outside ≡ before.outside + cond (is_outside answer) 1 0
  pub yields : sums.yields ≡ before.yields +ℤ yield_of answer
  pub accrued : sums.accrued ≡ before.accrued + accrued_of answer
  pub called : sums.called ≡ before.called + cond (is_called maturity answer) 1 0

-- these are two sums together
pub record AreTogether (one other sums : Sums) : Type 0 where
  pub trades : sums.trades ≡ one.trades + other.trades
  pub printed : sums.printed ≡ one.printed + other.printed
  pub undecided : sums.undecided ≡ one.undecided + other.undecided
  pub outside : sums.outside ≡ one.outside + other.outside
  pub yields : sums.yields ≡ one.yields +ℤ other.yields
  pub accrued : sums.accrued ≡ one.accrued + other.accrued
  pub called : sums.called ≡ one.called + other.called

-- the sums are as small as the number of trades makes them
pub record AreSmall (sums : Sums) : Type 0 where
  pub printed : sums.printed ≤ sums.trades
  pub undecided : sums.undecided ≤ sums.trades
  pub outside : sums.outside ≤ sums.trades
  pub yields_from : pos 0 ≤ℤ (sums.yields +ℤ pos (1_000_000 * sums.trades))
  pub yields_to : sums.yields ≤ℤ pos (1_000_000 * sums.trades)
  pub accrued : sums.accrued ≤ 60_000_000_000 * sums.trades
  pub called : sums.called ≤ sums.trades
