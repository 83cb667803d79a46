-- The row of a version, read again.
use Rattle.std.proofs.Common.{◌≡◌, ◌≤◌, ◌<◌, ◌/◌, ◌^◌, ℕ, suc, Bool, true, false, List, [], ◌∷◌, ◌++◌, length, decimal, Option, Some, None, Ok, refl, arith, ℤ, pos, negsuc}
use Rattle.std.specs.Prelude.{◌==◌, nat_lt, nat_le, codes, if◌then◌else◌, unsigned_abs, IfSome}
use Rattle.std.specs.Char.{is_ascii_alphanumeric}
use Rattle.std.specs.List.{list_all}
use Rattle.std.proofs.lemmas.Bool.Decides.{nat_tests}
use Rattle.std.proofs.lemmas.Fmt.{decimal_nonempty, length-decimal-le}
use Rattle.std.proofs.lemmas.List.{length-append}
use Rattle.csv.specs.Records.{field_at}
use Rattle.muni_rule.specs.Cusip.{is_cusip_character}
use Rattle.muni_dec.specs.Decimal.{decimal_text}
use Rattle.muni_dec.specs.Digits.{last_digits}
use Rattle.muni_dec.specs.Values.{amount_reading, fee_reading, fee_text, if_yield, par_reading, percent_reading, price_reading, price_text, yield_reading, yield_text}
use Rattle.muni_dec.proofs.NumberLemmas.{number-reading}
use Rattle.muni_dec.proofs.RoundTripLemmas.{digits-read-again, read-again, signed-read-again}
use Rattle.muni_import.specs.Row.{command_in, given_in, issue_number_field, row_of, terms_in}
use Rattle.muni_msg.specs.Fields.{fee_field, given_reading, side_reading, version_number}
use Rattle.muni_msg.specs.IssueFields.{cusip_reading}
use Rattle.muni_msg.specs.Names.{is_desk_letter, IsName}
use Rattle.muni_msg.specs.declared.asked.Asked.{Asked}
use Rattle.muni_msg.specs.declared.asked.Given.{Given}
use Rattle.muni_msg.specs.declared.asked.Given.TheVariants.{AtYield, AtPrice, AtRate}
use Rattle.muni_msg.specs.declared.asked.Side.{Side}
use Rattle.muni_msg.specs.declared.asked.Side.TheVariants.{Buy, Sell}
use Rattle.muni_msg.specs.declared.asked.Terms.{Terms}
use Rattle.muni_msg.specs.declared.command.Key.{Key}
use Rattle.muni_msg.specs.declared.version.Act.{Act}
use Rattle.muni_msg.specs.declared.version.Act.TheVariants.{Entered, Corrected, Canceled}
use Rattle.muni_store_rows.proofs.NameLemmas.{name_again}
use Rattle.muni_store_rows.proofs.TextLemmas.{day_again}
use Rattle.muni_export.specs.Laws.{command_by}
use Rattle.muni_export.specs.Rows.{fields_by, terms_fields}
use Rattle.muni_export.specs.Words.{basis_word, side_word, value_text}

-- ---- the texts of numbers
pub par_again : (par : ℕ) → 1 ≤ par → par ≤ 1_000_000_000 → par_reading (decimal par) ≡ Ok par
unfolding par_reading
par_again par some few =
    let least : nat_le 1 par ≡ true = grind (arith, nat_tests, some) in
    let most : nat_le par 1_000_000_000 ≡ true = grind (arith, nat_tests, few) in
    rw (digits-read-again par (omega (arith, few)), least, most) refl

pub price_again : (price : ℕ) → price ≤ 999_999_999 → price_reading (price_text price) ≡ Ok price
unfolding price_reading amount_reading
price_again price few =
    let least : nat_le 0 price ≡ true = grind (arith, nat_tests) in
    let most : nat_le price 999_999_999 ≡ true = grind (arith, nat_tests, few) in
    rw (read-again 6 price (omega arith) (omega (arith, few)), least, most) refl

-- a decimal has a byte
pub not_empty : (places units : ℕ) → (length (decimal_text places units) == 0) ≡ false
not_empty places units =
    grind (arith, nat_tests, length-append (decimal (units / 10 ^ places)) (46 ∷ last_digits places units))

pub fee_again : (fee : ℕ) → fee ≤ 10_000 → fee_field (fee_text fee) ≡ Some fee
unfolding fee_reading amount_reading
fee_again fee few =
    let least : nat_le 0 fee ≡ true = grind (arith, nat_tests) in
    let most : nat_le fee 10_000 ≡ true = grind (arith, nat_tests, few) in
    rw (not_empty 3 fee, read-again 3 fee (omega arith) (omega (arith, few)), least, most) refl

small-percent : (units : ℤ) → if_yield units ≡ Some units → unsigned_abs units < 2 ^ 64
small-percent (pos units) inside = small (nat_le units 9_999_999) refl inside
  where
    small : (test : Bool) → nat_le units 9_999_999 ≡ test → (if test then Some (pos units) else None) ≡ Some (pos units) → units < 2 ^ 64
    small true is inside = grind (arith, nat_tests, is)
    small false is inside = absurd (cc inside)
small-percent (negsuc less) inside = small (nat_lt less 999_999) refl inside
  where
    small : (test : Bool) → nat_lt less 999_999 ≡ test → (if test then Some (negsuc less) else None) ≡ Some (negsuc less) → suc less < 2 ^ 64
    small true is inside = grind (arith, nat_tests, is)
    small false is inside = absurd (cc inside)

pub percent_again : (units : ℤ) → if_yield units ≡ Some units → yield_reading (yield_text units) ≡ Ok units
unfolding yield_reading percent_reading
percent_again units inside =
    rw (signed-read-again 4 units (omega arith) (small-percent units inside), inside) refl

pub number-again : (number : ℕ) → number ≤ 999_999_999 → version_number (decimal number) ≡ Some number
number-again number few =
    let short : length (decimal number) ≤ 9 = length-decimal-le 9 number (omega arith) (omega (arith, few)) (omega (arith, few)) in
    number-reading 9 0 999_999_999 (omega arith) (decimal number) number
    (record { zeros = 0; bytes = refl; few = short }, (omega arith, few))

-- ---- the terms
side-again : (side : Side) → side_reading (side_word side) ≡ Some side
side-again Buy = refl
side-again Sell = refl

cusip-again : (text : List ℕ) → length text ≡ 9 → list_all is_cusip_character text ≡ true → cusip_reading text ≡ Some text
cusip-again text full characters =
    let nine : (length text == 9) ≡ true = grind (arith, nat_tests, full) in
    rw (nine, characters) refl

-- each column of the terms reads
pub record AreRead (asked : Asked) : Type 0 where
  pub nine : length asked.cusip ≡ 9
  pub characters : list_all is_cusip_character asked.cusip ≡ true
  pub par : par_reading (decimal asked.par) ≡ Ok asked.par
  pub given : given_reading (basis_word asked.given) (value_text asked.given) ≡ Some asked.given
  pub fee : fee_field (fee_text asked.fee) ≡ Some asked.fee

trade-given : (a b c d e f g : List ℕ) (given : Given) (rest : List (List ℕ)) → given_reading (basis_word given) (value_text given) ≡ Some given
    → given_in 8 (a ∷ b ∷ c ∷ d ∷ e ∷ f ∷ g ∷ basis_word given ∷ value_text given ∷ rest) ≡ Ok given
unfolding field_at
trade-given a b c d e f g (AtYield y) rest is = rw is refl
trade-given a b c d e f g (AtPrice price) rest is = rw is refl
trade-given a b c d e f g (AtRate rate) rest is = rw is refl

correction-given : (a b c d e f g h : List ℕ) (given : Given) (rest : List (List ℕ)) → given_reading (basis_word given) (value_text given) ≡ Some given
    → given_in 9 (a ∷ b ∷ c ∷ d ∷ e ∷ f ∷ g ∷ h ∷ basis_word given ∷ value_text given ∷ rest) ≡ Ok given
unfolding field_at
correction-given a b c d e f g h (AtYield y) rest is = rw is refl
correction-given a b c d e f g h (AtPrice price) rest is = rw is refl
correction-given a b c d e f g h (AtRate rate) rest is = rw is refl

trade-terms : (a b c : List ℕ) (asked : Asked) (rest : List (List ℕ)) → AreRead asked → terms_in 4 (a ∷ b ∷ c ∷ terms_fields asked ++ rest) ≡ Ok (record { asked = asked })
unfolding terms_in terms_fields field_at
trade-terms a b c asked rest are =
    rw (
      cusip-again asked.cusip are.nine are.characters,
      side-again asked.side,
      are.par,
      day_again asked.settle,
      trade-given a b c asked.cusip (side_word asked.side) (decimal asked.par) _ asked.given _ are.given,
      are.fee,
    ) refl

correction-terms : (a b c d : List ℕ) (asked : Asked) (rest : List (List ℕ)) → AreRead asked → terms_in 5 (a ∷ b ∷ c ∷ d ∷ terms_fields asked ++ rest) ≡ Ok (record { asked = asked })
unfolding terms_in terms_fields field_at
correction-terms a b c d asked rest are =
    rw (
      cusip-again asked.cusip are.nine are.characters,
      side-again asked.side,
      are.par,
      day_again asked.settle,
      correction-given a b c d asked.cusip (side_word asked.side) (decimal asked.par) _ asked.given _ are.given,
      are.fee,
    ) refl

-- ---- the number of the terms of the issue
numbered-again : (number : ℕ) → number ≤ 999_999_999 → issue_number_field (decimal number) ≡ Some (Some number)
numbered-again number few =
    let some : (length (decimal number) == 0) ≡ false = grind (arith, nat_tests, decimal_nonempty number (omega (arith, few))) in
    rw (some, number-again number few) refl

-- ---- the rows
pub version-again : (act : Act) (key : Key) (number : ℕ) (terms : Terms) (issue : Option ℕ) → IsName is_desk_letter 16 key.desk → IsName is_ascii_alphanumeric 20 key.reference → number ≤ 999_999_999 → IfSome issue (λ n. n ≤ 999_999_999) → AreRead terms.asked
    → row_of (fields_by act key number terms.asked issue) ≡ Ok (command_by act key number terms issue)
unfolding row_of command_in terms_fields field_at
version-again Entered key number terms None desk reference few issue_few are =
    let terms_again = trade-terms (codes "trade") key.desk key.reference terms.asked [] are in
    rw (name_again is_desk_letter 16 key.desk desk, name_again is_ascii_alphanumeric 20 key.reference reference, terms_again) refl
version-again Entered key number terms (Some issue) desk reference few issue_few are =
    let terms_again = trade-terms (codes "trade") key.desk key.reference terms.asked (decimal issue ∷ []) are in
    rw (name_again is_desk_letter 16 key.desk desk, name_again is_ascii_alphanumeric 20 key.reference reference, terms_again, numbered-again issue issue_few) refl
version-again Corrected key number terms None desk reference few issue_few are =
    let terms_again = correction-terms (codes "correct") key.desk key.reference (decimal number) terms.asked [] are in
    rw (name_again is_desk_letter 16 key.desk desk, name_again is_ascii_alphanumeric 20 key.reference reference, number-again number few, terms_again) refl
version-again Corrected key number terms (Some issue) desk reference few issue_few are =
    let terms_again = correction-terms (codes "correct") key.desk key.reference (decimal number) terms.asked (decimal issue ∷ []) are in
    rw (name_again is_desk_letter 16 key.desk desk, name_again is_ascii_alphanumeric 20 key.reference reference, number-again number few, terms_again, numbered-again issue issue_few) refl
version-again Canceled key number terms issue desk reference few issue_few are =
    rw (name_again is_desk_letter 16 key.desk desk, name_again is_ascii_alphanumeric 20 key.reference reference, number-again number few) refl
