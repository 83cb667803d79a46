-- The body of an issue.
use Rattle.std.specs.Prelude.{◌≡◌, ℕ, zero, suc, ◌≤◌, ◌==◌, Bool, true, false, not, nat_le, List, [], ◌∷◌, ◌++◌, length, take, drop, Option, Some, None, if◌then◌else◌}
use Rattle.std.specs.Option.{option_map, option_and_then}
use Rattle.std.specs.Result.{result_ok}
use Rattle.std.specs.List.{flat_map, list_any, All}
use Rattle.muni_rule.specs.declared.call_term.CallTerm.{CallTerm}
use Rattle.muni_rule.specs.declared.call_term.CallTerm.TheVariants.{OnDay, OnOrAfter, Called}
use Rattle.muni_dec.specs.Ranges.{IsAmount}
use Rattle.muni_dec.specs.Values.{if_price, if_coupon}
use Rattle.muni_terms.specs.Check.{checked, fault_of}
use Rattle.muni_terms.specs.declared.row.Call.{Call}
use Rattle.muni_terms.specs.declared.row.Kind.{Kind}
use Rattle.muni_terms.specs.declared.row.Kind.TheVariants.{Periodic, Zero, AtRedemption, Discount}
use Rattle.muni_terms.specs.declared.row.IssueRow.{IssueRow}
use Rattle.muni_msg.specs.Codes.{basis_code, basis_of_code, kind_code}
use Rattle.muni_journal_record.specs.Words.{four, number_of_4, front, byte_front, four_front}
use Rattle.muni_journal_record.specs.Fields.{day_bytes, day_of, text_bytes, text_front}

-- the first interest date, which only a periodic issue has
abbrev pub first_bytes : Kind → List ℕ
first_bytes (Periodic first) = day_bytes first
first_bytes Zero = []
first_bytes AtRedemption = []
first_bytes Discount = []

abbrev pub first_size : ℕ → ℕ
first_size zero = 4
first_size (suc code) = 0

abbrev pub kind_of : ℕ → List ℕ → Option Kind
kind_of zero first = option_map Periodic (day_of first)
kind_of (suc zero) first = Some Zero
kind_of (suc (suc zero)) first = Some AtRedemption
kind_of (suc (suc (suc zero))) first = Some Discount
kind_of (suc (suc (suc (suc more)))) first = None

-- on which days a call stands
abbrev pub term_code : CallTerm → ℕ
term_code OnDay = 0
term_code OnOrAfter = 1
term_code Called = 2

abbrev pub term_of_code : ℕ → Option CallTerm
term_of_code zero = Some OnDay
term_of_code (suc zero) = Some OnOrAfter
term_of_code (suc (suc zero)) = Some Called
term_of_code (suc (suc (suc more))) = None

-- a call that stands on other days than its own alone, or for certain, has a mark
abbrev pub is_marked : Call → Bool
is_marked call = not (term_code call.term == 0)

-- and the issue, if one of its calls has
abbrev pub has_mark : IssueRow → Bool
has_mark row = list_any is_marked row.calls.items

-- the marks are written for all calls of an issue or for none
abbrev pub mark_bytes : Bool → CallTerm → List ℕ
mark_bytes true term = term_code term ∷ []
mark_bytes false term = []

abbrev pub term_of : List ℕ → Option CallTerm
term_of [] = Some OnDay
term_of (code ∷ rest) = term_of_code code

-- a call: its day, its price, and its mark
abbrev pub call_bytes : Bool → Call → List ℕ
call_bytes marked call =
    day_bytes call.date ++ (four call.price ++ mark_bytes marked call.term)

abbrev pub call_size : Bool → ℕ
call_size marked = if marked then 9 else 8

unfoldable pub call_of : List ℕ → Option Call
call_of bytes =
    option_and_then (λ date. option_and_then (λ price. option_map (λ term. record { date = date; price = price; term = term })
    (term_of (drop 4 (drop 4 bytes)))) (if_price (number_of_4 (take 4 (drop 4 bytes)))))
    (day_of (take 4 bytes))

-- so many calls
abbrev pub calls_of : Bool → ℕ → List ℕ → Option (List Call)
calls_of marked zero bytes = Some []
calls_of marked (suc count) bytes =
    option_and_then (λ found. option_and_then (λ call. option_map (λ calls. call ∷ calls) (calls_of marked count found.1)) (call_of found.0))
    (front (call_size marked) bytes)

-- a name of at most 60 bytes, and at most 40 calls
abbrev pub name_of : List ℕ → Option (List ℕ)
name_of text = if nat_le (length text) 60 then Some text else None

abbrev pub few_calls_of : Bool → ℕ → List ℕ → Option (List Call)
few_calls_of marked count bytes = if nat_le count 40 then calls_of marked count bytes else None

-- the dates of an issue, and the coupon and the calls after their number
abbrev pub dates_bytes : IssueRow → List ℕ
dates_bytes row = day_bytes row.dated ++ (first_bytes row.kind ++ day_bytes row.maturity)

abbrev pub coupon_bytes : Bool → IssueRow → List ℕ
coupon_bytes marked row =
    four row.coupon ++ (length row.calls.items ∷ flat_map (call_bytes marked) row.calls.items)

-- the terms of an issue, and what is read as such
abbrev pub row_bytes : Bool → IssueRow → List ℕ
row_bytes marked row =
    row.cusip ++ (text_bytes row.name.items ++ (kind_code row.kind ∷ (basis_code row.basis ∷ (dates_bytes row
    ++ coupon_bytes marked row))))

unfoldable pub row_of : Bool → List ℕ → Option IssueRow
row_of marked bytes =
    option_and_then (λ cusip. option_and_then (λ text. option_and_then (λ name. option_and_then (λ code.
    option_and_then (λ days. option_and_then (λ basis. option_and_then (λ dated_day. option_and_then (λ dated.
    option_and_then (λ first. option_and_then (λ kind. option_and_then (λ maturity_day. option_and_then (λ maturity.
    option_and_then (λ units. option_and_then (λ coupon. option_and_then (λ count. option_map (λ calls. record {
      cusip = cusip.0;
      name = record { items = name };
      kind = kind;
      basis = basis;
      dated = dated;
      maturity = maturity;
      coupon = coupon;
      calls = record { items = calls };
    }) (few_calls_of marked count.0 count.1)) (byte_front units.1)) (if_coupon units.0)) (four_front maturity_day.1))
    (day_of maturity_day.0)) (front 4 first.1)) (kind_of code.0 first.0)) (front (first_size code.0) dated_day.1))
    (day_of dated_day.0)) (front 4 days.1)) (basis_of_code days.0)) (byte_front code.1)) (byte_front text.1)) (name_of text.0))
    (text_front cusip.1)) (front 9 bytes)

-- an issue, which passes every test
abbrev pub issue_of : Bool → List ℕ → Option IssueRow
issue_of marked bytes = option_and_then (λ row. result_ok (checked row)) (row_of marked bytes)

-- an issue that is written: it passes every test, and each value is in the range of its type
pub record CallFits (call : Call) : Type 0 where
  pub price : IsAmount 0 999_999_999 call.price

pub record IssueFits (row : IssueRow) : Type 0 where
  pub passed : fault_of row ≡ None
  pub cusip : length row.cusip ≡ 9
  pub name : length row.name.items ≤ 60
  pub coupon : IsAmount 0 300_000_000 row.coupon
  pub few : length row.calls.items ≤ 40
  pub calls : All CallFits row.calls.items
