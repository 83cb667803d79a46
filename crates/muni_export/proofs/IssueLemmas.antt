-- The row of an issue, read again.
use Rattle.std.proofs.Common.{◌≡◌, ◌≤◌, ◌∙◌, ℕ, zero, suc, Bool, true, false, List, [], ◌∷◌, length, take, decimal, Option, Some, None, Ok, refl, ap, arith, pos}
use Rattle.std.specs.Prelude.{◌==◌, ◌+◌, nat_le, codes, slice_index, if◌then◌else◌}
use Rattle.std.specs.List.{list_all}
use Rattle.std.specs.Result.{result_ok}
use Rattle.std.specs.Str.{bytes_eq}
use Rattle.std.proofs.lemmas.Bool.{and_parts}
use Rattle.std.proofs.lemmas.Bool.Decides.{nat_tests}
use Rattle.csv.specs.Records.{field_at}
use Rattle.muni_rule.specs.Cusip.{is_cusip, is_cusip_character, check_digit}
use Rattle.muni_rule.specs.declared.basis.Basis.{Basis}
use Rattle.muni_rule.specs.declared.basis.Basis.TheVariants.{Thirty360, Actual365}
use Rattle.muni_dec.specs.Values.{amount_reading, coupon_reading, coupon_text}
use Rattle.muni_dec.proofs.RoundTripLemmas.{read-again}
use Rattle.muni_days.specs.Day.{civil, day_text}
use Rattle.muni_days.specs.declared.day.Day.{Day}
use Rattle.muni_terms.specs.Check as Check
use Rattle.muni_terms.specs.declared.row.Call.{Call}
use Rattle.muni_terms.specs.declared.row.IssueRow.{IssueRow}
use Rattle.muni_terms.specs.declared.row.Kind.{Kind}
use Rattle.muni_terms.specs.declared.row.Kind.TheVariants.{Periodic, Zero, AtRedemption, Discount}
use Rattle.muni_terms.specs.declared.row.TermsFault.{TermsFault}
use Rattle.muni_import.specs.Row.{calendar_in, command_in, issue_in, row_of}
use Rattle.muni_msg.specs.Calls.{calls_field}
use Rattle.muni_msg.specs.Codes.{basis_code, kind_code}
use Rattle.muni_msg.specs.Fields.{basis_field, day_in}
use Rattle.muni_msg.specs.IssueFields.{coupon_by, cusip_reading, issue_name_reading}
use Rattle.muni_msg.specs.declared.command.Command.TheVariants.{AddIssue, Amend}
use Rattle.muni_store_rows.specs.Calls.{calls_of, calls_text, if_written}
use Rattle.muni_store_rows.specs.Codes.{basis_of, coupon_of}
use Rattle.muni_store_rows.specs.Issue.{columns_of, first_text, issue_of, kind_of}
use Rattle.muni_store_rows.proofs.IssueLemmas.{issue-again}
use Rattle.muni_store_rows.proofs.TextLemmas.{day_again}
use Rattle.muni_store_rows.proofs.WrittenLemmas.{bound, tested}
use Rattle.muni_export.specs.Laws.{issue_command}
use Rattle.muni_export.specs.Rows.{amendment_fields, first_terms_fields, issue_fields, issue_terms_fields}
use Rattle.muni_export.specs.Words.{days_word, kind_word}
use Rattle.muni_export.proofs.VersionLemmas.{not_empty, number-again}

-- ---- what the store reads from the same texts
-- the CUSIP, the name and the calls of an issue are read from their texts
record AreRead (row : IssueRow) : Type 0 where
  cusip : cusip_reading row.cusip ≡ Some row.cusip
  name : issue_name_reading row.name.items ≡ Some row.name
  calls : calls_field (calls_text row.calls.items) ≡ Some row.calls.items

passed-is : (row issue : IssueRow) (fault : Option TermsFault) → result_ok (Check.unless_fault row fault) ≡ Some issue → row ≡ issue
passed-is row issue None h = cc
passed-is row issue (Some fault) h = absurd cc

written-calls : (text : List ℕ) (found : Option (List Call)) (calls : List Call) → if_written text found ≡ Some calls → found ≡ Some calls
written-calls text None calls h = absurd (cc h)
written-calls text (Some some) calls h = ap (λ c. Some c) (tested (bytes_eq (calls_text some) text) some calls h)

stored-read : (row : IssueRow) → issue_of (columns_of row) ≡ Some row → AreRead row
unfolding issue_of columns_of
stored-read row h =
    let cusip = bound (cusip_reading row.cusip) _ row h in
    let name = bound (issue_name_reading row.name.items) _ row cusip.2 in
    let kind = bound (kind_of (pos (kind_code row.kind)) (first_text row.kind)) _ row name.2 in
    let basis = bound (basis_of (pos (basis_code row.basis))) _ row kind.2 in
    let dated = bound (day_in (day_text (civil row.dated))) _ row basis.2 in
    let maturity = bound (day_in (day_text (civil row.maturity))) _ row dated.2 in
    let coupon = bound (coupon_of (pos row.coupon)) _ row maturity.2 in
    let calls = bound (calls_of (calls_text row.calls.items)) _ row coupon.2 in
    let made : IssueRow = record { cusip = cusip.0; name = name.0; kind = kind.0; basis = basis.0; dated = dated.0; maturity = maturity.0; coupon = coupon.0; calls = record { items = calls.0 } } in
    let same : made ≡ row = passed-is made row (Check.fault_of made) calls.2 in
    record {
      cusip = cusip.1 ∙ ap (λ (r : IssueRow). Some r.cusip) same;
      name = name.1 ∙ ap (λ (r : IssueRow). Some r.name) same;
      calls = written-calls (calls_text row.calls.items) (calls_field (calls_text row.calls.items)) row.calls.items (calls.1 ∙ ap (λ (r : IssueRow). Some r.calls.items) same);
    }

-- ---- the other columns
abbrev calendar_fields : Kind → Day → Day → List (List ℕ) → List (List ℕ)
calendar_fields kind dated maturity rest = kind_word kind ∷ day_text (civil dated) ∷ first_text kind ∷ day_text (civil maturity) ∷ rest

first-calendar : (a b c : List ℕ) (kind : Kind) (dated maturity : Day) (rest : List (List ℕ)) → calendar_in 3 (a ∷ b ∷ c ∷ calendar_fields kind dated maturity rest) ≡ Ok (kind, dated, maturity)
unfolding calendar_in field_at
first-calendar a b c (Periodic first) dated maturity rest = rw (day_again dated, day_again first, day_again maturity) refl
first-calendar a b c Zero dated maturity rest = rw (day_again dated, day_again maturity) refl
first-calendar a b c AtRedemption dated maturity rest = rw (day_again dated, day_again maturity) refl
first-calendar a b c Discount dated maturity rest = rw (day_again dated, day_again maturity) refl

amended-calendar : (a b c d : List ℕ) (kind : Kind) (dated maturity : Day) (rest : List (List ℕ)) → calendar_in 4 (a ∷ b ∷ c ∷ d ∷ calendar_fields kind dated maturity rest) ≡ Ok (kind, dated, maturity)
unfolding calendar_in field_at
amended-calendar a b c d (Periodic first) dated maturity rest = rw (day_again dated, day_again first, day_again maturity) refl
amended-calendar a b c d Zero dated maturity rest = rw (day_again dated, day_again maturity) refl
amended-calendar a b c d AtRedemption dated maturity rest = rw (day_again dated, day_again maturity) refl
amended-calendar a b c d Discount dated maturity rest = rw (day_again dated, day_again maturity) refl

coupon-again : (pays : Bool) (coupon : ℕ) → coupon ≤ 300_000_000 → coupon_by pays (coupon_text coupon) ≡ Some coupon
unfolding coupon_reading amount_reading
coupon-again pays coupon few =
    let least : nat_le 0 coupon ≡ true = grind (arith, nat_tests) in
    let most : nat_le coupon 300_000_000 ≡ true = grind (arith, nat_tests, few) in
    by pays (rw (read-again 7 coupon (omega arith) (omega (arith, few)), least, most) refl)
  where
    by : (pays : Bool) → result_ok (coupon_reading (coupon_text coupon)) ≡ Some coupon → coupon_by pays (coupon_text coupon) ≡ Some coupon
    by true is = is
    by false is = rw (not_empty 7 coupon) is

basis-again : (basis : Basis) → basis_field (days_word basis) ≡ Some basis
basis-again Thirty360 = refl
basis-again Actual365 = refl

-- ---- the rows
first-again : (row : IssueRow) → row.coupon ≤ 300_000_000 → AreRead row → row_of (first_terms_fields row) ≡ Ok (AddIssue row)
unfolding row_of command_in issue_in issue_terms_fields field_at
first-again row coupon are =
    rw (
      are.cusip,
      are.name,
      first-calendar (codes "issue") row.cusip row.name.items row.kind row.dated row.maturity _,
      coupon-again (Check.pays_interest row.kind) row.coupon coupon,
      are.calls,
      basis-again row.basis,
    ) refl

amendment-again : (number : ℕ) (row : IssueRow) → number ≤ 999_999_999 → row.coupon ≤ 300_000_000 → AreRead row → row_of (amendment_fields number row) ≡ Ok (Amend number row)
unfolding row_of command_in issue_in issue_terms_fields field_at
amendment-again number row few coupon are =
    rw (
      are.cusip,
      number-again number few,
      are.name,
      amended-calendar (codes "amend") row.cusip (decimal number) row.name.items row.kind row.dated row.maturity _,
      coupon-again (Check.pays_interest row.kind) row.coupon coupon,
      are.calls,
      basis-again row.basis,
    ) refl

row-again : (number : ℕ) (first : Bool) (row : IssueRow) → number ≤ 999_999_999 → row.coupon ≤ 300_000_000 → AreRead row
    → row_of (if first then first_terms_fields row else amendment_fields number row) ≡ Ok (if first then AddIssue row else Amend number row)
row-again number true row few coupon are = first-again row coupon are
row-again number false row few coupon are = amendment-again number row few coupon are

pub issue-row-again : (number : ℕ) (row : IssueRow) → number ≤ 999_999_999 → length row.cusip ≡ 9 → length row.name.items ≤ 60 → row.coupon ≤ 300_000_000 → length row.calls.items ≤ 40 → Check.fault_of row ≡ None
    → row_of (issue_fields number row) ≡ Ok (issue_command number row)
issue-row-again number row fits nine few coupon calls none =
    row-again number (number == 1) row fits coupon (stored-read row (issue-again row nine few coupon calls none))

-- ---- the characters of a CUSIP
all-last : (p : ℕ → Bool) (n : ℕ) (text : List ℕ) → length text ≡ suc n → list_all p (take n text) ≡ true → p (slice_index text n) ≡ true → list_all p text ≡ true
all-last p n [] full front last = absurd (omega (arith, full))
all-last p zero (byte ∷ []) full front last = rw last refl
all-last p zero (byte ∷ other ∷ text) full front last = absurd (omega (arith, full))
all-last p (suc n) (byte ∷ text) full front last =
    let parts = and_parts (p byte) (list_all p (take n text)) front in
    rw (parts.0, all-last p n text (omega (arith, full)) parts.1 last) refl

-- the CUSIP of an issue can be read in a row
pub cusip-characters : (text : List ℕ) → length text ≡ 9 → is_cusip text ≡ true → list_all is_cusip_character text ≡ true
cusip-characters text full is =
    let parts = and_parts (list_all is_cusip_character (take 8 text)) (slice_index text 8 == 48 + check_digit (take 8 text)) is in
    let last : is_cusip_character (slice_index text 8) ≡ true = grind (arith, nat_tests, parts.1) in
    all-last is_cusip_character 8 text full parts.0 last
