-- Numbers, codes and days that were written are read.
use Rattle.std.proofs.Common.{◌≡◌, ◌==◌, true, false, ℕ, ◌<◌, ◌^◌, Some, List, [], ◌∷◌, ◌++◌, length, refl, sym, ◌∙◌, ap, arith, length-append, append-nil}
use Rattle.std.specs.Prelude.{ℤ, pos, negsuc, nat_le, nat_lt, FitsSigned}
use Rattle.std.specs.Int.{w32, cast_signed, cast_unsigned}
use Rattle.std.proofs.lemmas.Bool.Decides.{nat_tests}
use Rattle.std.proofs.lemmas.Int.{ints, to_z-of_z}
use Rattle.std.proofs.lemmas.List.{take_at, drop_at}
use Rattle.std.proofs.lemmas.Nat.{from_be_bytes-to_be_bytes_2, from_be_bytes-to_be_bytes_4, from_be_bytes-to_be_bytes_8}
use Rattle.muni_rule.specs.declared.basis.Basis.{Basis}
use Rattle.muni_rule.specs.declared.basis.Basis.TheVariants.{Thirty360, Actual365}
use Rattle.muni_dec.specs.Ranges.{IsAmount, IsPercent}
use Rattle.muni_dec.specs.Values.{if_amount, if_percent, if_printed_yield}
use Rattle.muni_days.specs.Day.{civil, if_day}
use Rattle.muni_days.specs.declared.day.Day.{Day}
use Rattle.muni_days.proofs.DayLemmas.{day_found}
use Rattle.muni_rule.specs.declared.label.Label.{Label}
use Rattle.muni_rule.specs.declared.label.Label.TheVariants.{Maturity, ParOption, Call, Called}
use Rattle.muni_msg.specs.declared.asked.Side.{Side}
use Rattle.muni_msg.specs.declared.asked.Side.TheVariants.{Buy, Sell}
use Rattle.muni_msg.specs.declared.version.Act.{Act}
use Rattle.muni_msg.specs.declared.version.Act.TheVariants.{Entered, Corrected, Canceled}
use Rattle.muni_msg.specs.Codes.{act_code, act_of_code, side_code, side_of_code, label_code, label_of_code, basis_code, basis_of_code}
use Rattle.muni_journal_record.specs.Words.{two, four, eight, signed, number_of_2, number_of_4, number_of_8, signed_of, front, four_front, later_front, eight_front, signed_front}
use Rattle.muni_journal_record.specs.Fields.{day_bytes, date_of, day_of, text_bytes, text_front}

-- a piece from the front
pub front_back : (size : ℕ) (piece rest : List ℕ) → length piece ≡ size → front size (piece ++ rest) ≡ Some (piece, rest)
front_back size piece rest long =
    let test : nat_le size (length (piece ++ rest)) ≡ true = grind (arith, nat_tests, length-append piece rest, long) in
    rw (test, take_at piece rest size long, drop_at piece rest size long) refl

-- numbers
pub length-two : (n : ℕ) → length (two n) ≡ 2
unfolding two
length-two n = refl

pub length-four : (n : ℕ) → length (four n) ≡ 4
unfolding four
length-four n = refl

pub length-eight : (n : ℕ) → length (eight n) ≡ 8
unfolding eight
length-eight n = refl

pub length-signed : (z : ℤ) → length (signed z) ≡ 4
unfolding signed
length-signed z = refl

pub four_is : (n : ℕ) → n < 2 ^ 32 → number_of_4 (four n) ≡ n
unfolding four number_of_4
four_is n fits = from_be_bytes-to_be_bytes_4 n fits

eight_is : (n : ℕ) → n < 2 ^ 64 → number_of_8 (eight n) ≡ n
unfolding eight number_of_8
eight_is n fits = from_be_bytes-to_be_bytes_8 n fits

signed_is : (z : ℤ) → FitsSigned w32 z → signed_of (signed z) ≡ z
unfolding signed signed_of
signed_is z fits =
    let small : cast_unsigned w32 z < 2 ^ 32 = omega (arith, ints) in
    ap (cast_signed w32) (from_be_bytes-to_be_bytes_4 (cast_unsigned w32 z) small) ∙ to_z-of_z w32 z fits

pub four_back : (n : ℕ) (rest : List ℕ) → n < 2 ^ 32 → four_front (four n ++ rest) ≡ Some (n, rest)
four_back n rest fits = rw (front_back 4 (four n) rest (length-four n), four_is n fits) refl

pub later_back : (n : ℕ) (rest : List ℕ) → n < 2 ^ 32 → (n == 1) ≡ false → later_front (four n ++ rest) ≡ Some (n, rest)
later_back n rest fits later = rw (four_back n rest fits, later) refl

pub eight_back : (n : ℕ) (rest : List ℕ) → n < 2 ^ 64 → eight_front (eight n ++ rest) ≡ Some (n, rest)
eight_back n rest fits = rw (front_back 8 (eight n) rest (length-eight n), eight_is n fits) refl

pub signed_back : (z : ℤ) (rest : List ℕ) → FitsSigned w32 z → signed_front (signed z ++ rest) ≡ Some (z, rest)
signed_back z rest fits = rw (front_back 4 (signed z) rest (length-signed z), signed_is z fits) refl

-- the same at the end of the bytes
pub four_last : (n : ℕ) → n < 2 ^ 32 → four_front (four n) ≡ Some (n, [])
four_last n fits = ap four_front (sym (append-nil (four n))) ∙ four_back n [] fits

pub eight_last : (n : ℕ) → n < 2 ^ 64 → eight_front (eight n) ≡ Some (n, [])
eight_last n fits = ap eight_front (sym (append-nil (eight n))) ∙ eight_back n [] fits

-- ranges
pub amount_back : (least greatest n : ℕ) → IsAmount least greatest n → if_amount least greatest n ≡ Some n
amount_back least greatest n range =
    let low : nat_le least n ≡ true = grind (arith, nat_tests, range.0) in
    let high : nat_le n greatest ≡ true = grind (arith, nat_tests, range.1) in
    rw (low, high) refl

pub percent_back : (below greatest : ℕ) (z : ℤ) → IsPercent below greatest z → if_percent below greatest z ≡ Some z
percent_back below greatest (pos n) range = let high : nat_le n greatest ≡ true = grind (arith, nat_tests, ints, range.1) in rw high refl
percent_back below greatest (negsuc n) range = let low : nat_lt n below ≡ true = grind (arith, nat_tests, ints, range.0) in rw low refl

-- codes
pub act_back : (act : Act) → act_of_code (act_code act) ≡ Some act
act_back Entered = refl
act_back Corrected = refl
act_back Canceled = refl

pub side_back : (side : Side) → side_of_code (side_code side) ≡ Some side
side_back Buy = refl
side_back Sell = refl

pub label_back : (label : Label) → label_of_code (label_code label) ≡ Some label
label_back Maturity = refl
label_back ParOption = refl
label_back Call = refl
label_back Called = refl

pub basis_back : (basis : Basis) → basis_of_code (basis_code basis) ≡ Some basis
basis_back Thirty360 = refl
basis_back Actual365 = refl

-- days and texts
pub length-day : (day : Day) → length (day_bytes day) ≡ 4
length-day day = omega (arith, length-append (two day.year) (day.month ∷ day.day ∷ []), length-two day.year)

year_below : (day : Day) → day.year < 2 ^ 16
year_below day = grind (arith, nat_tests, day.real)

date_is : (year month day : ℕ) → year < 2 ^ 16 → date_of (two year ++ month ∷ day ∷ []) ≡ record { year = year; month = month; day = day }
unfolding two number_of_2
date_is year month day small = rw (from_be_bytes-to_be_bytes_2 year small) refl

pub day_is : (day : Day) → day_of (day_bytes day) ≡ Some day
day_is day = ap if_day (date_is day.year day.month day.day (year_below day)) ∙ sym (day_found (civil day) day.real)

pub day_back : (day : Day) (rest : List ℕ) → front 4 (day_bytes day ++ rest) ≡ Some (day_bytes day, rest)
day_back day rest = front_back 4 (day_bytes day) rest (length-day day)

pub text_back : (text rest : List ℕ) → text_front (text_bytes text ++ rest) ≡ Some (text, rest)
text_back text rest = front_back (length text) text rest refl

-- a printed yield
pub printed_yield_back : (z : ℤ) → IsPercent 90_000 999_999 z → if_printed_yield z ≡ Some z
printed_yield_back z range = grind (arith, ints, range.0, range.1)
