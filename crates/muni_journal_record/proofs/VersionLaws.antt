-- A version that was written is read.
use Rattle.std.proofs.Common.{◌≡◌, ◌==◌, Bool, false, ℕ, ◌<◌, ◌^◌, Some, List, ◌∷◌, ◌++◌, length, refl, arith, length-append, append_assoc, Ok}
use Rattle.std.specs.Prelude.{ℤ, nat_lt, FitsSigned}
use Rattle.std.specs.Int.{w32}
use Rattle.std.specs.Char.{is_ascii_alphanumeric}
use Rattle.std.proofs.lemmas.Bool.Decides.{nat_tests}
use Rattle.std.proofs.lemmas.Int.{ints}
use Rattle.muni_dec.specs.Ranges.{IsPercent}
use Rattle.muni_msg.specs.Names.{is_desk_letter, IsName}
use Rattle.muni_msg.specs.NameReading.{name_reading}
use Rattle.muni_msg.specs.Codes.{act_code, side_code, label_code, given_code, given_units, given_of_code}
use Rattle.muni_msg.specs.declared.asked.Asked.{Asked}
use Rattle.muni_msg.specs.declared.asked.Given.{Given}
use Rattle.muni_msg.specs.declared.asked.Given.TheVariants.{AtYield, AtPrice, AtRate}
use Rattle.muni_msg.specs.declared.command.Key.{Key}
use Rattle.muni_msg.specs.declared.figures.Figures.{Figures}
use Rattle.muni_msg.specs.declared.version.Version.{Version}
use Rattle.muni_journal_record.specs.Words.{four, eight, signed}
use Rattle.muni_journal_record.specs.Fields.{day_bytes, text_bytes}
use Rattle.muni_journal_record.specs.VersionBody.{money_bytes, figures_bytes, money_of, figures_of, asked_bytes, asked_of, version_bytes, version_of, MoneyFits, FiguresFit, GivenFits, AskedFits, VersionFits}
use Rattle.muni_journal_record.specs.declared.version_body.Money.{Money}
use Rattle.muni_journal_record.proofs.WordLaws.{front_back, length-four, length-signed, length-day, four_back, four_last, eight_back, eight_last, signed_back, amount_back, percent_back, printed_yield_back, act_back, side_back, label_back, day_is, day_back, text_back}

-- the money of figures
abbrev money_in : Figures → Money
money_in f = record { principal = f.principal; accrued = f.accrued; commission = f.commission; total = f.total }

money_back : (f : Figures) → MoneyFits f → money_of (money_bytes f) ≡ Some (money_in f)
unfolding money_of
money_back f fits =
    rw (
      eight_back f.principal (eight f.accrued ++ (eight f.commission ++ eight f.total)) (omega (arith, fits.principal.1)),
      amount_back 0 9_223_372_036_854_775_807 f.principal fits.principal,
      eight_back f.accrued (eight f.commission ++ eight f.total) (omega (arith, fits.accrued.1)),
      amount_back 0 9_223_372_036_854_775_807 f.accrued fits.accrued,
      eight_back f.commission (eight f.total) (omega (arith, fits.commission.1)),
      amount_back 0 9_223_372_036_854_775_807 f.commission fits.commission,
      eight_last f.total (omega (arith, fits.total.1)),
      amount_back 0 9_223_372_036_854_775_807 f.total fits.total,
    ) refl

-- figures
percent_fits : (below greatest : ℕ) (z : ℤ) → below < 2 ^ 31 → greatest < 2 ^ 31 → IsPercent below greatest z → FitsSigned w32 z
percent_fits below greatest z low high range = omega (arith, ints, low, high, range.0, range.1)

figures_back : (f : Figures) → FiguresFit f → figures_of (figures_bytes f) ≡ Some f
unfolding figures_of
figures_back f fits =
    let tail = label_code f.label ∷ (signed f.days ++ money_bytes f) in
    let grouped : figures_bytes f ≡ eight f.price ++ (signed f.yld ++ (day_bytes f.redemption ++ (four f.at ++ tail))) = simp append_assoc in
    rw (
      grouped,
      eight_back f.price (signed f.yld ++ (day_bytes f.redemption ++ (four f.at ++ tail))) (omega (arith, fits.prices.price.1)),
      amount_back 0 9_223_372_036_854_775_807 f.price fits.prices.price,
      signed_back f.yld (day_bytes f.redemption ++ (four f.at ++ tail)) (percent_fits 90_000 999_999 f.yld (omega arith) (omega arith) fits.prices.yld),
      printed_yield_back f.yld fits.prices.yld,
      day_back f.redemption (four f.at ++ tail),
      day_is f.redemption,
      four_back f.at tail (omega (arith, fits.prices.at.1)),
      amount_back 0 999_999_999 f.at fits.prices.at,
      label_back f.label,
      signed_back f.days (money_bytes f) fits.days,
      money_back f fits.money,
    ) refl

-- what is given
given_back : (given : Given) → GivenFits given → given_of_code (given_code given) (given_units given) ≡ Some given
given_back (AtYield yld) fits = rw (percent_back 999_999 9_999_999 yld fits) refl
given_back (AtPrice price) fits = rw (amount_back 0 999_999_999 price fits) refl
given_back (AtRate rate) fits = rw (percent_back 999_999 9_999_999 rate fits) refl

given_fits : (given : Given) → GivenFits given → FitsSigned w32 (given_units given)
given_fits (AtYield yld) fits = percent_fits 999_999 9_999_999 yld (omega arith) (omega arith) fits
given_fits (AtPrice price) fits = omega (arith, ints, fits.1)
given_fits (AtRate rate) fits = percent_fits 999_999 9_999_999 rate (omega arith) (omega arith) fits

-- what is asked
asked_back : (a : Asked) → AskedFits a → asked_of (asked_bytes a) ≡ Some a
unfolding asked_of
asked_back a fits =
    let value = signed (given_units a.given) ++ four a.fee in
    let day = day_bytes a.settle ++ (given_code a.given ∷ value) in
    rw (
      front_back 9 a.cusip (side_code a.side ∷ (four a.par ++ day)) fits.cusip,
      side_back a.side,
      four_back a.par day (omega (arith, fits.par.1)),
      amount_back 1 1_000_000_000 a.par fits.par,
      day_back a.settle (given_code a.given ∷ value),
      day_is a.settle,
      signed_back (given_units a.given) (four a.fee) (given_fits a.given fits.given),
      given_back a.given fits.given,
      four_last a.fee (omega (arith, fits.fee.1)),
      amount_back 0 10_000 a.fee fits.fee,
    ) refl

length-asked : (a : Asked) → AskedFits a → length (asked_bytes a) ≡ 27
length-asked a fits =
    let value = signed (given_units a.given) ++ four a.fee in
    let day = day_bytes a.settle ++ (given_code a.given ∷ value) in
    omega (
      arith,
      fits.cusip,
      length-append a.cusip (side_code a.side ∷ (four a.par ++ day)),
      length-append (four a.par) day,
      length-four a.par,
      length-append (day_bytes a.settle) (given_code a.given ∷ value),
      length-day a.settle,
      length-append (signed (given_units a.given)) (four a.fee),
      length-signed (given_units a.given),
      length-four a.fee,
    )

-- names
name_back : (is_letter : ℕ → Bool) (most : ℕ) (name : List ℕ) → IsName is_letter most name → name_reading is_letter most name ≡ Ok name
name_back is_letter most name is =
    let some : (length name == 0) ≡ false = grind (arith, nat_tests, is.some) in
    let few : nat_lt most (length name) ≡ false = grind (arith, nat_tests, is.few) in
    rw (some, few, is.letters) refl

-- versions
pub version_back : (key : Key) (number : ℕ) (v : Version) → VersionFits key number v → version_of v.issue_number (version_bytes key number v) ≡ Some (key, number, v)
unfolding version_of
version_back key number v fits =
    let tail = asked_bytes v.terms.asked ++ figures_bytes v.figures in
    let behind = four number ++ (act_code v.act ∷ tail) in
    rw (
      text_back key.desk (text_bytes key.reference ++ behind),
      name_back is_desk_letter 16 key.desk fits.desk,
      text_back key.reference behind,
      name_back is_ascii_alphanumeric 20 key.reference fits.reference,
      four_back number (act_code v.act ∷ tail) fits.numbered,
      act_back v.act,
      front_back 27 (asked_bytes v.terms.asked) (figures_bytes v.figures) (length-asked v.terms.asked fits.asked),
      asked_back v.terms.asked fits.asked,
      figures_back v.figures fits.figures,
    ) refl
