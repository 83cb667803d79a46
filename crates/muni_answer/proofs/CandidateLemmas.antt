-- What the redemption candidates of an issue allow to be given.
use Rattle.std.proofs.Common.{◌≡◌, ℕ, ◌<◌, true, false, Bool, Some, None, List, [], ◌∷◌, length, get_or, refl, sym, subst, arith, ℤ, pos, negsuc}
use Rattle.std.specs.Prelude.{All, Option, option_map, if◌then◌else◌, IfSome, nat_lt}
use Rattle.std.specs.List.{slice_get}
use Rattle.std.proofs.lemmas.List.Elements.{All-head, All-tail, All-cons, All-nil}
use Rattle.std.proofs.lemmas.Int.{ints}
use Rattle.std.proofs.lemmas.Option.{slice_get_read}
use Rattle.muni_rule.specs.Accuracy.{TruncatesBy, Reaches, rounded_yield}
use Rattle.muni_rule.specs.declared.basis.Basis.{Basis}
use Rattle.muni_rule.specs.Discount.{discount_price}
use Rattle.muni_rule.specs.LastPayment.{is_last_period, last_payment}
use Rattle.muni_rule.specs.Payments.{PaymentSeries}
use Rattle.muni_rule.specs.Ranges.{IsWithin, IsOnePeriodYield, IsDiscountRate}
use Rattle.muni_simple.specs.declared.yields.SimpleYield.{SimpleYield}
use Rattle.muni_dec.specs.Ranges.{IsYield3}
use Rattle.muni_days.specs.declared.day.Day.{Day}
use Rattle.muni_terms.specs.declared.row.Kind.{Kind}
use Rattle.muni_terms.specs.declared.row.Kind.TheVariants.{Periodic, Zero, AtRedemption, Discount}
use Rattle.muni_terms.specs.declared.row.IssueRow.{IssueRow}
use Rattle.std.proofs.lemmas.Option.{same_Some}
use Rattle.muni_sched.specs.Candidates.{HasShape}
use Rattle.muni_sched.specs.PriceOutcome.{IsAtYield, IsShapeAtYield}
use Rattle.muni_sched.specs.Range.{given_range, IsGivenFor}
use Rattle.muni_sched.specs.Shape.{single, series_shape, shape_by}
use Rattle.muni_sched.specs.declared.candidate.Candidate.{Candidate}
use Rattle.muni_sched.specs.declared.candidate.Shape.{Shape}
use Rattle.muni_sched.specs.declared.candidate.Shape.TheVariants as shape
use Rattle.muni_msg.specs.declared.asked.Given.{Given}
use Rattle.muni_msg.specs.declared.asked.Given.TheVariants.{AtYield, AtPrice, AtRate}
use Rattle.muni_answer.specs.GivenFor.{IsDiscounted, IsNote, IsOnBasis}
use Rattle.muni_answer.specs.Trade.{is_wrong_basis}
use Rattle.muni_answer.specs.Answers.{IsReturn, found_at_rate, IsFoundAtRate}

-- the shape of a series is that of one payment, or of many
either-at_yield : (last : Bool) (series : PaymentSeries) → IsShapeAtYield (if last then shape.One (single (last_payment series)) else shape.Many series)
either-at_yield true series = tt
either-at_yield false series = tt

series-at_yield : (of : Shape) (series : Option PaymentSeries) → Some of ≡ option_map series_shape series → IsShapeAtYield of
series-at_yield of (Some series) same = subst IsShapeAtYield (sym (same_Some of (series_shape series) same)) (either-at_yield (is_last_period series) series)
series-at_yield of None same = absurd (let never : Some of ≡ None = same in cc)

shape-at_yield : (kind : Kind) (y : ℤ) (fee : ℕ) (row : IssueRow) (settlement date : Day) (price : ℕ) (of : Shape) → is_wrong_basis kind (AtYield y) fee ≡ false → Some of ≡ shape_by kind row settlement date price → IsShapeAtYield of
shape-at_yield (Periodic first) y fee row settlement date price of basis same = series-at_yield of _ same
shape-at_yield Zero y fee row settlement date price of basis same = series-at_yield of _ same
shape-at_yield AtRedemption y fee row settlement date price of basis same = subst IsShapeAtYield (sym (same_Some of _ same)) tt
shape-at_yield Discount y fee row settlement date price of basis same = absurd (let never : true ≡ false = basis in cc)

shape-discounted : (kind : Kind) (rate : ℤ) (fee : ℕ) (row : IssueRow) (settlement date : Day) (price : ℕ) (of : Shape) → is_wrong_basis kind (AtRate rate) fee ≡ false → Some of ≡ shape_by kind row settlement date price → IsDiscounted of
shape-discounted (Periodic first) rate fee row settlement date price of basis same = absurd (let never : true ≡ false = basis in cc)
shape-discounted Zero rate fee row settlement date price of basis same = absurd (let never : true ≡ false = basis in cc)
shape-discounted AtRedemption rate fee row settlement date price of basis same = absurd (let never : true ≡ false = basis in cc)
shape-discounted Discount rate fee row settlement date price of basis same = subst IsDiscounted (sym (same_Some of _ same)) tt

all-at_yield : (y : ℤ) (fee : ℕ) (row : IssueRow) (settlement : Day) (list : List Candidate) → is_wrong_basis row.kind (AtYield y) fee ≡ false → All (HasShape row settlement) list → All IsAtYield list
all-at_yield y fee row settlement [] basis all = All-nil IsAtYield
all-at_yield y fee row settlement (candidate ∷ rest) basis all =
    All-cons IsAtYield candidate rest
    (shape-at_yield row.kind y fee row settlement candidate.date candidate.price candidate.shape basis (All-head (HasShape row settlement) candidate rest all))
    (all-at_yield y fee row settlement rest basis (All-tail (HasShape row settlement) candidate rest all))

all-notes : (rate : ℤ) (fee : ℕ) (row : IssueRow) (settlement : Day) (list : List Candidate) → is_wrong_basis row.kind (AtRate rate) fee ≡ false → All (HasShape row settlement) list → All IsNote list
all-notes rate fee row settlement [] basis all = All-nil IsNote
all-notes rate fee row settlement (candidate ∷ rest) basis all =
    All-cons IsNote candidate rest
    (shape-discounted row.kind rate fee row settlement candidate.date candidate.price candidate.shape basis (All-head (HasShape row settlement) candidate rest all))
    (all-notes rate fee row settlement rest basis (All-tail (HasShape row settlement) candidate rest all))

-- beside a yield or a rate there is no commission
nothing : (fee : ℕ) → nat_lt 0 fee ≡ false → fee ≡ 0
nothing fee none = grind arith

yield-alone : (kind : Kind) (y : ℤ) (fee : ℕ) → is_wrong_basis kind (AtYield y) fee ≡ false → fee ≡ 0
yield-alone (Periodic first) y fee basis = nothing fee basis
yield-alone Zero y fee basis = nothing fee basis
yield-alone AtRedemption y fee basis = nothing fee basis
yield-alone Discount y fee basis = absurd (let never : true ≡ false = basis in cc)

rate-alone : (kind : Kind) (rate : ℤ) (fee : ℕ) → is_wrong_basis kind (AtRate rate) fee ≡ false → fee ≡ 0
rate-alone (Periodic first) rate fee basis = absurd (let never : true ≡ false = basis in cc)
rate-alone Zero rate fee basis = absurd (let never : true ≡ false = basis in cc)
rate-alone AtRedemption rate fee basis = absurd (let never : true ≡ false = basis in cc)
rate-alone Discount rate fee basis = nothing fee basis

pub on-basis : (given : Given) (fee : ℕ) (row : IssueRow) (settlement : Day) (list : List Candidate) → is_wrong_basis row.kind given fee ≡ false → All (HasShape row settlement) list → IsOnBasis given fee list
on-basis (AtYield y) fee row settlement list basis all = (yield-alone row.kind y fee basis, all-at_yield y fee row settlement list basis all)
on-basis (AtPrice price) fee row settlement list basis all = tt
on-basis (AtRate rate) fee row settlement list basis all = (rate-alone row.kind rate fee basis, all-notes rate fee row settlement list basis all)

-- a yield that may be given is shown in the printed range
given-rounded : (y : ℤ) → IsOnePeriodYield y → IsYield3 (rounded_yield y)
given-rounded (pos y) given = (omega (arith, ints), omega (arith, ints))
given-rounded (negsuc less) given = (omega (arith, ints), omega (arith, ints))

widest : (y : ℤ) (of : Shape) → IsShapeAtYield of → IsWithin (given_range of) y → IsOnePeriodYield y
widest y (shape.Many series) at given = let least = given.0 in let most = given.1 in (omega (arith, ints, least), omega (arith, ints, most))
widest y (shape.One payment) at given = given
widest y (shape.AtRedemption payment) at given = let least = given.0 in let most = given.1 in (omega (arith, ints, least), most)
widest y (shape.Discount days basis) at given = absurd at

pub first-rounded : (y : ℤ) (list : List Candidate) → 0 < length list → All IsAtYield list → All (IsGivenFor y) list → IsYield3 (rounded_yield y)
first-rounded y [] some at given = absurd (omega (arith, some))
first-rounded y (candidate ∷ rest) some at given =
    given-rounded y (widest y candidate.shape (All-head IsAtYield candidate rest at) (All-head (IsGivenFor y) candidate rest given))

-- what is so of all candidates is so of the first
pub of-first : (Such : Candidate → Type 0) (list : List Candidate) (candidate : Candidate) → slice_get list 0 ≡ Some candidate → All Such list → Such candidate
of-first Such [] candidate there all = absurd (let never : None ≡ Some candidate = there in cc)
of-first Such (first ∷ rest) candidate there all = subst Such (same_Some first candidate there) (All-head Such first rest all)

pub rate-in_range : (rate : ℤ) (days : ℤ) (basis : Basis) (of : Shape) → of ≡ shape.Discount days basis → IsWithin (given_range of) rate → IsDiscountRate rate
rate-in_range rate days basis of is given = subst (λ s. IsWithin (given_range s) rate) is given

-- the first candidate, as it is read, is found at a rate with the days up to it
pub found-at_rate : (rate days : ℤ) (basis : Basis) (list : List Candidate) (note : Candidate) (price : ℕ) (return : SimpleYield) → 0 < length list → note ≡ get_or list 0 note → IfSome (slice_get list 0) (λ first. first.shape ≡ shape.Discount days basis) → TruncatesBy basis (Reaches (discount_price basis rate days)) price → IsReturn basis days (discount_price basis rate days) return → IsFoundAtRate rate list (found_at_rate note price return)
found-at_rate rate days basis list note price return some first is truncated exact =
    let there : slice_get list 0 ≡ Some note = slice_get_read list (length list) 0 note refl some first in
    record {
      note = note;
      there = there;
      days = days;
      basis = basis;
      shape = subst (λ found. IfSome found (λ candidate. candidate.shape ≡ shape.Discount days basis)) there is;
      price = price;
      truncated = truncated;
      return = return;
      exact = exact;
      is_found = refl;
    }
