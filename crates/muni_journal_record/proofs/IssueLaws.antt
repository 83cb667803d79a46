-- An issue that was written is read.
use Rattle.std.proofs.Common.{◌≡◌, ◌==◌, ◌||◌, Bool, true, false, not, ℕ, ◌+◌, ◌≤◌, Some, sym, ap, List, [], ◌∷◌, ◌++◌, length, refl, arith, length-append, append_assoc}
use Rattle.std.specs.Prelude.{nat_le}
use Rattle.std.specs.List.{flat_map, list_any, All, AllByRecursion}
use Rattle.std.proofs.lemmas.Bool.Decides.{nat_tests}
use Rattle.std.proofs.lemmas.List.{take_at, drop_at}
use Rattle.std.proofs.lemmas.List.Elements.{recursion_from_All}
use Rattle.muni_rule.specs.declared.call_term.CallTerm.{CallTerm}
use Rattle.muni_rule.specs.declared.call_term.CallTerm.TheVariants.{OnDay, OnOrAfter, Called}
use Rattle.muni_terms.specs.declared.row.Call.{Call}
use Rattle.muni_terms.specs.declared.row.Kind.{Kind}
use Rattle.muni_terms.specs.declared.row.Kind.TheVariants.{Periodic, Zero, AtRedemption, Discount}
use Rattle.muni_terms.specs.declared.row.IssueRow.{IssueRow}
use Rattle.muni_msg.specs.Codes.{basis_code, kind_code}
use Rattle.muni_journal_record.specs.Words.{four, front}
use Rattle.muni_journal_record.specs.Fields.{day_bytes, text_bytes}
use Rattle.muni_journal_record.specs.IssueBody.{first_bytes, first_size, kind_of, term_code, term_of_code, is_marked, has_mark, mark_bytes, term_of, call_bytes, call_size, call_of, calls_of, name_of, few_calls_of, row_bytes, row_of, issue_of, CallFits, IssueFits}
use Rattle.muni_journal_record.proofs.WordLaws.{front_back, length-four, four_is, length-day, four_back, amount_back, basis_back, day_is, day_back, text_back}

-- marks
term_back : (term : CallTerm) → term_of_code (term_code term) ≡ Some term
term_back OnDay = refl
term_back OnOrAfter = refl
term_back Called = refl

term-plain : (term : CallTerm) → not (term_code term == 0) ≡ false → term ≡ OnDay
term-plain OnDay plain = refl
term-plain OnOrAfter plain = absurd (cc)
term-plain Called plain = absurd (cc)

-- the term of a call can be read again
abbrev IsWritten : Bool → Call → Type 0
IsWritten marked call = term_of (mark_bytes marked call.term) ≡ Some call.term

written : (marked : Bool) (call : Call) → (marked ≡ false → is_marked call ≡ false) → IsWritten marked call
written true call plain = term_back call.term
written false call plain = ap Some (sym (term-plain call.term (plain refl)))

-- calls
call_is : (marked : Bool) (call : Call) → CallFits call → IsWritten marked call → call_of (call_bytes marked call) ≡ Some call
unfolding call_of
call_is marked call fits is =
    let day = day_bytes call.date in
    let mark = mark_bytes marked call.term in
    rw (
      take_at day (four call.price ++ mark) 4 (length-day call.date),
      drop_at day (four call.price ++ mark) 4 (length-day call.date),
      day_is call.date,
      take_at (four call.price) mark 4 (length-four call.price),
      drop_at (four call.price) mark 4 (length-four call.price),
      four_is call.price (omega (arith, fits.price.1)),
      amount_back 0 999_999_999 call.price fits.price,
      is,
    ) refl

length-mark : (marked : Bool) (term : CallTerm) → 8 + length (mark_bytes marked term) ≡ call_size marked
length-mark true term = refl
length-mark false term = refl

length-call : (marked : Bool) (call : Call) → length (call_bytes marked call) ≡ call_size marked
length-call marked call =
    let mark = mark_bytes marked call.term in
    omega (arith, length-append (day_bytes call.date) (four call.price ++ mark), length-append (four call.price) mark, length-day call.date, length-four call.price, length-mark marked call.term)

calls_back : (marked : Bool) (calls : List Call) → AllByRecursion CallFits calls → AllByRecursion (IsWritten marked) calls → calls_of marked (length calls) (flat_map (call_bytes marked) calls) ≡ Some calls
calls_back marked [] fit are = refl
calls_back marked (call ∷ calls) fit are =
    let piece = call_bytes marked call in
    let rest = flat_map (call_bytes marked) calls in
    let there : front (call_size marked) (piece ++ rest) ≡ Some (piece, rest) = front_back (call_size marked) piece rest (length-call marked call) in
    rw (there, call_is marked call fit.0 are.0, calls_back marked calls fit.1 are.1) refl

-- the marks are written, or left out if no call has one
all-marked : (calls : List Call) → AllByRecursion (IsWritten true) calls
all-marked [] = tt
all-marked (call ∷ calls) = (term_back call.term, all-marked calls)

neither-true : (test other : Bool) → test || other ≡ false → (test ≡ false) × (other ≡ false)
neither-true true other is = absurd (cc)
neither-true false other is = (refl, is)

all-written : (marked : Bool) (calls : List Call) → list_any is_marked calls ≡ marked → AllByRecursion (IsWritten marked) calls
all-written marked [] is = tt
all-written true (call ∷ calls) is = all-marked (call ∷ calls)
all-written false (call ∷ calls) is =
    let parts = neither-true (is_marked call) (list_any is_marked calls) is in
    (written false call (λ same. parts.0), all-written false calls parts.1)

few_calls_back : (marked : Bool) (calls : List Call) → length calls ≤ 40 → All CallFits calls → AllByRecursion (IsWritten marked) calls → few_calls_of marked (length calls) (flat_map (call_bytes marked) calls) ≡ Some calls
few_calls_back marked calls few fit are =
    let test : nat_le (length calls) 40 ≡ true = grind (arith, nat_tests, few) in
    rw (test, calls_back marked calls (recursion_from_All CallFits calls fit) are) refl

-- the kind, with the first interest date of a periodic issue
first_back : (kind : Kind) (rest : List ℕ) → front (first_size (kind_code kind)) (first_bytes kind ++ rest) ≡ Some (first_bytes kind, rest)
first_back (Periodic first) rest = day_back first rest
first_back Zero rest = front_back 0 [] rest refl
first_back AtRedemption rest = front_back 0 [] rest refl
first_back Discount rest = front_back 0 [] rest refl

kind_back : (kind : Kind) → kind_of (kind_code kind) (first_bytes kind) ≡ Some kind
kind_back (Periodic first) = rw (day_is first) refl
kind_back Zero = refl
kind_back AtRedemption = refl
kind_back Discount = refl

-- the terms
name_back : (name : List ℕ) → length name ≤ 60 → name_of name ≡ Some name
name_back name short = let test : nat_le (length name) 60 ≡ true = grind (arith, nat_tests, short) in rw test refl

row_back : (marked : Bool) (row : IssueRow) → IssueFits row → AllByRecursion (IsWritten marked) row.calls.items → row_of marked (row_bytes marked row) ≡ Some row
unfolding row_of
row_back marked row fits are =
    let calls = flat_map (call_bytes marked) row.calls.items in
    let count = length row.calls.items ∷ calls in
    let coupon = four row.coupon ++ count in
    let maturity = day_bytes row.maturity ++ coupon in
    let first = first_bytes row.kind ++ maturity in
    let dated = day_bytes row.dated ++ first in
    let codes = kind_code row.kind ∷ (basis_code row.basis ∷ dated) in
    let grouped : row_bytes marked row ≡ row.cusip ++ (text_bytes row.name.items ++ codes) = simp append_assoc in
    rw (
      grouped,
      front_back 9 row.cusip (text_bytes row.name.items ++ codes) fits.cusip,
      text_back row.name.items codes,
      name_back row.name.items fits.name,
      basis_back row.basis,
      day_back row.dated first,
      day_is row.dated,
      first_back row.kind maturity,
      kind_back row.kind,
      day_back row.maturity coupon,
      day_is row.maturity,
      four_back row.coupon count (omega (arith, fits.coupon.1)),
      amount_back 0 300_000_000 row.coupon fits.coupon,
      few_calls_back marked row.calls.items fits.few fits.calls are,
    ) refl

pub issue_back : (row : IssueRow) → IssueFits row → issue_of (has_mark row) (row_bytes (has_mark row) row) ≡ Some row
issue_back row fits =
    rw (row_back (has_mark row) row fits (all-written (has_mark row) row.calls.items refl), fits.passed) refl

-- the same with all marks
pub marked_back : (row : IssueRow) → IssueFits row → issue_of true (row_bytes true row) ≡ Some row
marked_back row fits = rw (row_back true row fits (all-marked row.calls.items), fits.passed) refl
