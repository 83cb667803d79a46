-- The columns of versions of trades.
use Rattle.std.specs.Prelude.{ℕ, ℤ, pos, List, Option, Some}
use Rattle.std.specs.Char.{is_ascii_alphanumeric}
use Rattle.std.specs.Result.{result_ok}
use Rattle.muni_dec.specs.Values.{if_printed_yield}
use Rattle.muni_days.specs.Day.{civil, day_text}
use Rattle.muni_msg.specs.Codes.{act_code, given_code, given_units, label_code, side_code}
use Rattle.muni_msg.specs.Fields.{day_in, ◌>>=◌}
use Rattle.muni_msg.specs.Names.{is_desk_letter}
use Rattle.muni_msg.specs.NameReading.{name_reading}
use Rattle.muni_msg.specs.declared.asked.Asked.{Asked}
use Rattle.muni_msg.specs.declared.command.Key.{Key}
use Rattle.muni_msg.specs.declared.figures.Figures.{Figures}
use Rattle.muni_msg.specs.declared.version.Version.{Version}
use Rattle.muni_store_rows.specs.Codes.{count, signed_count, printed_price_of, price_of, par_of, fee_of, money_of, cusip_of, act_of, side_of, label_of, given_of}

-- the columns of what is asked for: texts as their bytes, and numbers
pub record AskedColumns : Type 0 where
  pub cusip : List ℕ
  pub side : ℤ
  pub par : ℤ
  pub settle : List ℕ
  pub basis : ℤ
  pub value : ℤ
  pub fee : ℤ

-- the columns of the figures
pub record FigureColumns : Type 0 where
  pub price : ℤ
  pub yld : ℤ
  pub redemption : List ℕ
  pub at_price : ℤ
  pub label : ℤ
  pub days : ℤ
  pub principal : ℤ
  pub accrued : ℤ
  pub total : ℤ
  pub commission : ℤ

-- the columns of a version of a trade with its number
pub record Columns : Type 0 where
  pub desk : List ℕ
  pub reference : List ℕ
  pub number : ℤ
  pub act : ℤ
  pub asked : AskedColumns
  pub figures : FigureColumns
  -- the number of the terms of its issue
  pub issue : ℤ

-- the columns one by one
abbrev pub columns_3 : (desk reference : List ℕ) (number act : ℤ) (cusip : List ℕ) (side par : ℤ) (settle : List ℕ) (basis value price yld : ℤ) (redemption : List ℕ) (at_price label days principal accrued total fee commission issue : ℤ) → Columns
columns_3 desk reference number act cusip side par settle basis value price yld redemption at_price label days principal accrued total fee commission issue = record {
  desk = desk;
  reference = reference;
  number = number;
  act = act;
  asked = record {
    cusip = cusip;
    side = side;
    par = par;
    settle = settle;
    basis = basis;
    value = value;
    fee = fee;
  };
  figures = record {
    price = price;
    yld = yld;
    redemption = redemption;
    at_price = at_price;
    label = label;
    days = days;
    principal = principal;
    accrued = accrued;
    total = total;
    commission = commission;
  };
  issue = issue;
}

-- those without a number of the issue, which is 1 then
abbrev pub columns_2 : (desk reference : List ℕ) (number act : ℤ) (cusip : List ℕ) (side par : ℤ) (settle : List ℕ) (basis value price yld : ℤ) (redemption : List ℕ) (at_price label days principal accrued total fee commission : ℤ) → Columns
columns_2 desk reference number act cusip side par settle basis value price yld redemption at_price label days principal accrued total fee commission =
    columns_3 desk reference number act cusip side par settle basis value price yld redemption at_price label days principal accrued total fee commission (pos 1)

-- those without a fee and a commission too, which are 0 then
abbrev pub columns_1 : (desk reference : List ℕ) (number act : ℤ) (cusip : List ℕ) (side par : ℤ) (settle : List ℕ) (basis value price yld : ℤ) (redemption : List ℕ) (at_price label days principal accrued total : ℤ) → Columns
columns_1 desk reference number act cusip side par settle basis value price yld redemption at_price label days principal accrued total =
    columns_2 desk reference number act cusip side par settle basis value price yld redemption at_price label days principal accrued total (pos 0) (pos 0)

-- the columns of a version
unfoldable pub asked_columns : Asked → AskedColumns
asked_columns asked = record {
  cusip = asked.cusip;
  side = pos (side_code asked.side);
  par = pos asked.par;
  settle = day_text (civil asked.settle);
  basis = pos (given_code asked.given);
  value = given_units asked.given;
  fee = pos asked.fee;
}

unfoldable pub figure_columns : Figures → FigureColumns
figure_columns figures = record {
  price = pos figures.price;
  yld = figures.yld;
  redemption = day_text (civil figures.redemption);
  at_price = pos figures.at;
  label = pos (label_code figures.label);
  days = figures.days;
  principal = pos figures.principal;
  accrued = pos figures.accrued;
  total = pos figures.total;
  commission = pos figures.commission;
}

unfoldable pub columns_of : Key → ℕ → Version → Columns
columns_of key number version = record {
  desk = key.desk;
  reference = key.reference;
  number = pos number;
  act = pos (act_code version.act);
  asked = asked_columns version.terms.asked;
  figures = figure_columns version.figures;
  issue = pos version.issue_number;
}

-- which trade of which desk
unfoldable pub key_of : List ℕ → List ℕ → Option Key
key_of desk reference = do
  name ← result_ok (name_reading is_desk_letter 16 desk)
  trade ← result_ok (name_reading is_ascii_alphanumeric 20 reference)
  Some (record { desk = name; reference = trade })

-- what is asked for
unfoldable pub asked_of : AskedColumns → Option Asked
asked_of columns = do
  given ← given_of columns.basis columns.value
  cusip ← cusip_of columns.cusip
  par ← par_of columns.par
  settle ← day_in columns.settle
  side ← side_of columns.side
  fee ← fee_of columns.fee
  Some (record { cusip = cusip; par = par; settle = settle; given = given; side = side; fee = fee })

-- the figures, of which each is printed
unfoldable pub figures_of : FigureColumns → Option Figures
figures_of columns = do
  price ← printed_price_of columns.price
  yld ← if_printed_yield columns.yld
  redemption ← day_in columns.redemption
  redeemed ← price_of columns.at_price
  label ← label_of columns.label
  days ← signed_count columns.days
  principal ← money_of columns.principal
  accrued ← money_of columns.accrued
  commission ← money_of columns.commission
  total ← money_of columns.total
  Some (record { price = price; yld = yld; redemption = redemption; at = redeemed; label = label; days = days; principal = principal; accrued = accrued; commission = commission; total = total })

-- the trade, the number and the version with these columns, if there are such
unfoldable pub trade_of : Columns → Option (Key × ℕ × Version)
trade_of columns = do
  key ← key_of columns.desk columns.reference
  number ← count columns.number
  act ← act_of columns.act
  asked ← asked_of columns.asked
  figures ← figures_of columns.figures
  issue_number ← count columns.issue
  Some (key, number, record { act = act; terms = record { asked = asked }; issue_number = issue_number; figures = figures })
