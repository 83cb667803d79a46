-- The body of a version.
use Rattle.std.specs.Prelude.{◌≡◌, ℕ, ◌<◌, ◌^◌, List, ◌∷◌, ◌++◌, length, Option, FitsSigned}
use Rattle.std.specs.Int.{w32}
use Rattle.std.specs.Option.{option_map, option_and_then}
use Rattle.std.specs.Result.{result_ok}
use Rattle.std.specs.Char.{is_ascii_alphanumeric}
use Rattle.muni_dec.specs.Ranges.{IsAmount, IsPercent}
use Rattle.muni_dec.specs.Values.{if_printed_price, if_price, if_printed_yield, if_money, if_par, if_fee}
use Rattle.muni_msg.specs.Names.{is_desk_letter, IsName}
use Rattle.muni_msg.specs.NameReading.{name_reading}
use Rattle.muni_msg.specs.Codes.{act_code, act_of_code, side_code, side_of_code, label_code, label_of_code, given_code, given_units, given_of_code}
use Rattle.muni_msg.specs.declared.asked.Asked.{Asked}
use Rattle.muni_msg.specs.declared.asked.Given.{Given}
use Rattle.muni_msg.specs.declared.asked.Given.TheVariants.{AtYield, AtPrice, AtRate}
use Rattle.muni_msg.specs.declared.command.Key.{Key}
use Rattle.muni_msg.specs.declared.figures.Figures.{Figures}
use Rattle.muni_msg.specs.declared.version.Version.{Version}
use Rattle.muni_journal_record.specs.Words.{four, eight, signed, front, byte_front, four_front, eight_front, signed_front}
use Rattle.muni_journal_record.specs.Fields.{day_bytes, day_of, text_bytes, text_front}
use Rattle.muni_journal_record.specs.declared.version_body.Money.{Money}

-- the figures of a trade: prices, then label and days, then the amounts of money; and what is read as
-- such
abbrev pub amounts_bytes : Money → List ℕ
amounts_bytes m = eight m.principal ++ (eight m.accrued ++ (eight m.commission ++ eight m.total))

abbrev pub money_bytes : Figures → List ℕ
money_bytes f = eight f.principal ++ (eight f.accrued ++ (eight f.commission ++ eight f.total))

abbrev pub prices_bytes : Figures → List ℕ
prices_bytes f = eight f.price ++ (signed f.yld ++ (day_bytes f.redemption ++ four f.at))

abbrev pub figures_bytes : Figures → List ℕ
figures_bytes f = prices_bytes f ++ (label_code f.label ∷ (signed f.days ++ money_bytes f))

unfoldable pub money_of : List ℕ → Option Money
money_of bytes =
    option_and_then (λ first. option_and_then (λ principal. option_and_then (λ second. option_and_then (λ accrued.
    option_and_then (λ third. option_and_then (λ commission. option_and_then (λ fourth. option_map (λ total. record {
      principal = principal;
      accrued = accrued;
      commission = commission;
      total = total;
    }) (if_money fourth.0)) (eight_front third.1)) (if_money third.0)) (eight_front second.1)) (if_money second.0))
    (eight_front first.1)) (if_money first.0)) (eight_front bytes)

unfoldable pub figures_of : List ℕ → Option Figures
figures_of bytes =
    option_and_then (λ price_units. option_and_then (λ price. option_and_then (λ yield_units. option_and_then (λ yld.
    option_and_then (λ day. option_and_then (λ redemption. option_and_then (λ at_units. option_and_then (λ at.
    option_and_then (λ code. option_and_then (λ label. option_and_then (λ days. option_map (λ money. record {
      price = price;
      yld = yld;
      redemption = redemption;
      at = at;
      label = label;
      days = days.0;
      principal = money.principal;
      accrued = money.accrued;
      commission = money.commission;
      total = money.total;
    }) (money_of days.1)) (signed_front code.1)) (label_of_code code.0)) (byte_front at_units.1)) (if_price at_units.0)) (four_front day.1))
    (day_of day.0)) (front 4 yield_units.1)) (if_printed_yield yield_units.0)) (signed_front price_units.1))
    (if_printed_price price_units.0)) (eight_front bytes)

-- what a trade asks for, in 27 bytes, and what is read as such
abbrev pub asked_bytes : Asked → List ℕ
asked_bytes a =
    a.cusip ++ (side_code a.side ∷ (four a.par ++ (day_bytes a.settle ++ (given_code a.given ∷ (signed (given_units a.given)
    ++ four a.fee)))))

unfoldable pub asked_of : List ℕ → Option Asked
asked_of bytes =
    option_and_then (λ cusip. option_and_then (λ code. option_and_then (λ side. option_and_then (λ units.
    option_and_then (λ par. option_and_then (λ day. option_and_then (λ settle. option_and_then (λ basis.
    option_and_then (λ value. option_and_then (λ given. option_and_then (λ cost. option_map (λ fee. record {
      cusip = cusip.0;
      par = par;
      settle = settle;
      given = given;
      side = side;
      fee = fee;
    }) (if_fee cost.0)) (four_front value.1)) (given_of_code basis.0 value.0)) (signed_front basis.1)) (byte_front day.1))
    (day_of day.0)) (front 4 units.1)) (if_par units.0)) (four_front code.1)) (side_of_code code.0)) (byte_front cusip.1)) (front 9 bytes)

-- a version with its trade and its number, but without the number of the terms of its issue; and what is read
-- as such, with that number
abbrev pub version_bytes : Key → ℕ → Version → List ℕ
version_bytes key number v =
    text_bytes key.desk ++ (text_bytes key.reference ++ (four number ++ (act_code v.act ∷ (asked_bytes v.terms.asked
    ++ figures_bytes v.figures))))

unfoldable pub version_of : ℕ → List ℕ → Option (Key × ℕ × Version)
version_of issue_number bytes =
    option_and_then (λ desk_text. option_and_then (λ desk. option_and_then (λ reference_text. option_and_then (λ reference.
    option_and_then (λ number. option_and_then (λ code. option_and_then (λ act. option_and_then (λ piece.
    option_and_then (λ asked. option_map (λ figures. (
      record { desk = desk; reference = reference },
      number.0,
      record { act = act; terms = record { asked = asked }; issue_number = issue_number; figures = figures },
    ))
    (figures_of piece.1)) (asked_of piece.0)) (front 27 code.1)) (act_of_code code.0)) (byte_front number.1))
    (four_front reference_text.1)) (result_ok (name_reading is_ascii_alphanumeric 20 reference_text.0))) (text_front desk_text.1))
    (result_ok (name_reading is_desk_letter 16 desk_text.0))) (text_front bytes)

-- the values that are written, each in the range of its type
pub record MoneyFits (f : Figures) : Type 0 where
  pub principal : IsAmount 0 9_223_372_036_854_775_807 f.principal
  pub accrued : IsAmount 0 9_223_372_036_854_775_807 f.accrued
  pub commission : IsAmount 0 9_223_372_036_854_775_807 f.commission
  pub total : IsAmount 0 9_223_372_036_854_775_807 f.total

pub record PricesFit (f : Figures) : Type 0 where
  pub price : IsAmount 0 9_223_372_036_854_775_807 f.price
  pub yld : IsPercent 90_000 999_999 f.yld
  pub at : IsAmount 0 999_999_999 f.at

pub record FiguresFit (f : Figures) : Type 0 where
  pub prices : PricesFit f
  pub days : FitsSigned w32 f.days
  pub money : MoneyFits f

abbrev pub GivenFits : Given → Type 0
GivenFits (AtYield yld) = IsPercent 999_999 9_999_999 yld
GivenFits (AtPrice price) = IsAmount 0 999_999_999 price
GivenFits (AtRate rate) = IsPercent 999_999 9_999_999 rate

pub record AskedFits (a : Asked) : Type 0 where
  pub cusip : length a.cusip ≡ 9
  pub par : IsAmount 1 1_000_000_000 a.par
  pub given : GivenFits a.given
  pub fee : IsAmount 0 10_000 a.fee

pub record VersionFits (key : Key) (number : ℕ) (v : Version) : Type 0 where
  pub desk : IsName is_desk_letter 16 key.desk
  pub reference : IsName is_ascii_alphanumeric 20 key.reference
  pub numbered : number < 2 ^ 32
  pub issue_numbered : v.issue_number < 2 ^ 32
  pub asked : AskedFits v.terms.asked
  pub figures : FiguresFit v.figures
