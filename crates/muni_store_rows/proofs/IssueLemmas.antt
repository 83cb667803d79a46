-- An issue that is read again from its columns.
use Rattle.std.proofs.Common.{◌≡◌, ◌≤◌, ◌+◌, ℕ, zero, suc, Bool, true, List, [], ◌∷◌, length, take, Option, Some, None, refl, arith, pos}
use Rattle.std.specs.Prelude.{◌==◌, nat_lt, nat_le, slice_index}
use Rattle.std.specs.List.{list_all}
use Rattle.std.proofs.lemmas.Bool.{and_parts}
use Rattle.std.proofs.lemmas.Bool.Decides.{nat_tests}
use Rattle.arrayvec.specs.ArrayVec.{ArrayVec}
use Rattle.muni_rule.specs.Cusip.{is_cusip, is_cusip_character, check_digit}
use Rattle.muni_rule.specs.Terms.{is_name, is_printable, is_call_price}
use Rattle.muni_rule.specs.declared.basis.Basis.{Basis}
use Rattle.muni_rule.specs.declared.basis.Basis.TheVariants.{Thirty360, Actual365}
use Rattle.muni_days.specs.Day.{civil}
use Rattle.muni_days.specs.declared.day.Day.{Day}
use Rattle.muni_terms.specs.Check as Check
use Rattle.muni_terms.specs.declared.row.Call.{Call}
use Rattle.muni_terms.specs.declared.row.IssueRow.{IssueRow}
use Rattle.muni_terms.specs.declared.row.Kind.{Kind}
use Rattle.muni_terms.specs.declared.row.Kind.TheVariants.{Periodic, Zero, AtRedemption, Discount}
use Rattle.muni_terms.specs.declared.row.TermsFault.TheVariants.{BadCusip, BadName, CallOffCalendar, CallsNotRising, BadCallPrice}
use Rattle.muni_terms.proofs.IssueLemmas.{passed, neither}
use Rattle.muni_msg.specs.Codes.{basis_code, kind_code}
use Rattle.muni_msg.specs.IssueFields.{cusip_reading, issue_name_reading}
use Rattle.muni_store_rows.specs.Codes.{basis_of, code_in, coupon_of}
use Rattle.muni_store_rows.specs.Issue.{columns_of, first_text, issue_of, kind_of}
use Rattle.muni_store_rows.proofs.TextLemmas.{ArePriced, day_again, calls-read-again}

-- ---- what follows from the tests that an issue passes
early-passed : (row : IssueRow) → Check.early_fault row ≡ None → (is_cusip row.cusip ≡ true) × (is_name row.name.items ≡ true)
unfolding Check.early_fault
early-passed row none =
    let cusip = passed (is_cusip row.cusip) BadCusip _ none in
    let name = passed (is_name row.name.items) BadName _ cusip.1 in
    (cusip.0, name.0)

call-priced : (row : IssueRow) (before : Option Day) (call : Call) → Check.call_fault row before call ≡ None → call.price ≤ 999_999_999
call-priced row before call none =
    let date = passed (Check.is_call_date row.kind (civil row.dated) (civil row.maturity) (civil call.date)) (CallOffCalendar call.date) _ none in
    let rises = passed (Check.rises before call.date) (CallsNotRising call.date) _ date.1 in
    let price = passed (is_call_price call.price) (BadCallPrice call.date) _ rises.1 in
    let most = (and_parts (nat_le 1_000_000 call.price) (nat_le call.price 200_000_000) price.0).1 in
    grind (arith, nat_tests, most)

calls-priced : (row : IssueRow) (before : Option Day) (calls : List Call) → Check.calls_fault row before calls ≡ None → ArePriced calls
calls-priced row before [] none = tt
calls-priced row before (call ∷ calls) none =
    let both = neither (Check.call_fault row before call) (Check.calls_fault row (Some call.date) calls) none in
    (call-priced row before call both.0, calls-priced row (Some call.date) calls both.1)

-- ---- the columns
-- a test of all but the last byte, and of the last
all-last : (p : ℕ → Bool) (n : ℕ) (text : List ℕ) → length text ≡ suc n → list_all p (take n text) ≡ true → p (slice_index text n) ≡ true → list_all p text ≡ true
all-last p n [] full front last = absurd (omega (arith, full))
all-last p zero (byte ∷ []) full front last = rw last refl
all-last p zero (byte ∷ other ∷ text) full front last = absurd (omega (arith, full))
all-last p (suc n) (byte ∷ text) full front last =
    let parts = and_parts (p byte) (list_all p (take n text)) front in
    rw (parts.0, all-last p n text (omega (arith, full)) parts.1 last) refl

cusip-again : (text : List ℕ) → length text ≡ 9 → is_cusip text ≡ true → cusip_reading text ≡ Some text
cusip-again text full is =
    let parts = and_parts (list_all is_cusip_character (take 8 text)) (slice_index text 8 == 48 + check_digit (take 8 text)) is in
    let last : is_cusip_character (slice_index text 8) ≡ true = grind (arith, nat_tests, parts.1) in
    let nine : (length text == 9) ≡ true = grind (arith, nat_tests, full) in
    rw (nine, all-last is_cusip_character 8 text full parts.0 last) refl

issue_name-again : (name : ArrayVec ℕ) → length name.items ≤ 60 → is_name name.items ≡ true → issue_name_reading name.items ≡ Some name
issue_name-again name few is =
    let some = (and_parts (nat_lt 0 (length name.items)) (list_all is_printable name.items) is).0 in
    let least : nat_le 1 (length name.items) ≡ true = grind (arith, nat_tests, some) in
    let most : nat_le (length name.items) 60 ≡ true = grind (arith, nat_tests, few) in
    rw (least, most) refl

kind-again : (kind : Kind) → kind_of (pos (kind_code kind)) (first_text kind) ≡ Some kind
kind-again (Periodic first) = rw (day_again first) refl
kind-again Zero = refl
kind-again AtRedemption = refl
kind-again Discount = refl

basis-again : (basis : Basis) → basis_of (pos (basis_code basis)) ≡ Some basis
unfolding code_in
basis-again Thirty360 = refl
basis-again Actual365 = refl

coupon-again : (coupon : ℕ) → coupon ≤ 300_000_000 → coupon_of (pos coupon) ≡ Some coupon
unfolding coupon_of
coupon-again coupon few =
    let most : nat_le coupon 300_000_000 ≡ true = grind (arith, nat_tests, few) in
    let least : nat_le 0 coupon ≡ true = grind (arith, nat_tests) in
    rw (least, most) refl

pub issue-again : (row : IssueRow) → length row.cusip ≡ 9 → length row.name.items ≤ 60 → row.coupon ≤ 300_000_000 → length row.calls.items ≤ 40 → Check.fault_of row ≡ None → issue_of (columns_of row) ≡ Some row
unfolding issue_of columns_of Check.fault_of
issue-again row nine few coupon calls none =
    let both = neither (Check.early_fault row) _ none in
    let early = early-passed row both.0 in
    let passed_calls = (neither (Check.calls_fault row None row.calls.items) (Check.certain_fault row.calls.items) both.1).0 in
    rw (
      cusip-again row.cusip nine early.0,
      issue_name-again row.name few early.1,
      kind-again row.kind,
      basis-again row.basis,
      day_again row.dated,
      day_again row.maturity,
      coupon-again row.coupon coupon,
      calls-read-again row.calls.items (calls-priced row None row.calls.items passed_calls) calls,
      none,
    ) refl
