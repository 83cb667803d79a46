-- The columns of issues.
use Rattle.std.specs.Prelude.{ℕ, ◌==◌, if◌then◌else◌, ℤ, pos, List, [], length, Option, Some, None, option_map}
use Rattle.std.specs.Result.{result_ok}
use Rattle.muni_days.specs.Day.{civil, day_text}
use Rattle.muni_terms.specs.Check.{checked}
use Rattle.muni_terms.specs.declared.row.IssueRow.{IssueRow}
use Rattle.muni_terms.specs.declared.row.Kind.{Kind}
use Rattle.muni_terms.specs.declared.row.Kind.TheVariants.{Periodic, Zero, AtRedemption, Discount}
use Rattle.muni_msg.specs.Codes.{basis_code, kind_code}
use Rattle.muni_msg.specs.Fields.{day_in, ◌>>=◌}
use Rattle.muni_msg.specs.IssueFields.{cusip_reading, issue_name_reading}
use Rattle.muni_store_rows.specs.Calls.{calls_text, calls_of}
use Rattle.muni_store_rows.specs.Codes.{natural, count, coupon_of, basis_of}

-- the columns: texts as their bytes, and numbers
pub record Columns : Type 0 where
  pub cusip : List ℕ
  pub name : List ℕ
  pub kind : ℤ
  pub dated : List ℕ
  pub first : List ℕ
  pub maturity : List ℕ
  pub coupon : ℤ
  pub calls : List ℕ
  pub basis : ℤ

-- the columns of numbered terms
pub record NumberedColumns : Type 0 where
  pub number : ℤ
  pub terms : Columns

-- the columns one by one
abbrev pub columns_3 : (cusip : List ℕ) (number : ℤ) (name : List ℕ) (kind : ℤ) (dated first maturity : List ℕ) (coupon : ℤ) (calls : List ℕ) (basis : ℤ) → NumberedColumns
columns_3 cusip number name kind dated first maturity coupon calls basis = record {
  number = number;
  terms = record {
    cusip = cusip;
    name = name;
    kind = kind;
    dated = dated;
    first = first;
    maturity = maturity;
    coupon = coupon;
    calls = calls;
    basis = basis;
  };
}

-- those without a number
abbrev pub columns_2 : (cusip name : List ℕ) (kind : ℤ) (dated first maturity : List ℕ) (coupon : ℤ) (calls : List ℕ) (basis : ℤ) → Columns
columns_2 cusip name kind dated first maturity coupon calls basis = record {
  cusip = cusip;
  name = name;
  kind = kind;
  dated = dated;
  first = first;
  maturity = maturity;
  coupon = coupon;
  calls = calls;
  basis = basis;
}

-- those without a basis too, which is 30/360 then
abbrev pub columns_1 : (cusip name : List ℕ) (kind : ℤ) (dated first maturity : List ℕ) (coupon : ℤ) (calls : List ℕ) → Columns
columns_1 cusip name kind dated first maturity coupon calls =
    columns_2 cusip name kind dated first maturity coupon calls (pos 0)

-- the first interest date, or nothing if there is none
abbrev pub first_text : Kind → List ℕ
first_text (Periodic first) = day_text (civil first)
first_text Zero = []
first_text AtRedemption = []
first_text Discount = []

-- the columns of an issue
unfoldable pub columns_of : IssueRow → Columns
columns_of row = record {
  cusip = row.cusip;
  name = row.name.items;
  kind = pos (kind_code row.kind);
  dated = day_text (civil row.dated);
  first = first_text row.kind;
  maturity = day_text (civil row.maturity);
  coupon = pos row.coupon;
  calls = calls_text row.calls.items;
  basis = pos (basis_code row.basis);
}

-- the kind of a number, which has a first interest date exactly if it is periodic
abbrev pub plain_kind : ℕ → Option Kind
plain_kind code =
    if code == 1 then Some Zero
    else (if code == 2 then Some AtRedemption else (if code == 3 then Some Discount else None))

abbrev pub kind_coded : ℕ → List ℕ → Option Kind
kind_coded code first =
    if code == 0 then option_map (λ date. Periodic date) (day_in first)
    else (if length first == 0 then plain_kind code else None)

abbrev pub kind_of : ℤ → List ℕ → Option Kind
kind_of column first = natural column >>= λ code. kind_coded code first

-- the issue with these columns, if there is one
unfoldable pub issue_of : Columns → Option IssueRow
issue_of columns = do
  cusip ← cusip_reading columns.cusip
  name ← issue_name_reading columns.name
  kind ← kind_of columns.kind columns.first
  basis ← basis_of columns.basis
  dated ← day_in columns.dated
  maturity ← day_in columns.maturity
  coupon ← coupon_of columns.coupon
  calls ← calls_of columns.calls
  result_ok (checked (record { cusip = cusip; name = name; kind = kind; basis = basis; dated = dated; maturity = maturity; coupon = coupon; calls = record { items = calls } }))

-- the columns of numbered terms of an issue
unfoldable pub numbered_columns : ℕ → IssueRow → NumberedColumns
numbered_columns number row = record { number = pos number; terms = columns_of row }

-- the number and the terms with these columns, if there are such
unfoldable pub numbered_of : NumberedColumns → Option (ℕ × IssueRow)
numbered_of columns = do
  number ← count columns.number
  issue ← issue_of columns.terms
  Some (number, issue)
