-- The columns that rows of a check may have, and their names.
use Rattle.std.specs.Prelude.{ℕ, List, [], ◌∷◌, codes, find, Option}
use Rattle.std.specs.Str.{bytes_eq}
use Rattle.muni_msg.specs.declared.column.Column.{Column}
use Rattle.muni_msg.specs.declared.column.Column.TheVariants as column

-- the name of a column
abbrev pub name_of : Column → List ℕ
name_of column.Reference = codes "reference"
name_of column.Cusip = codes "cusip"
name_of column.Side = codes "side"
name_of column.Par = codes "par"
name_of column.Settle = codes "settle"
name_of column.Basis = codes "basis"
name_of column.Value = codes "value"
name_of column.Fee = codes "fee"
name_of column.Price = codes "price"
name_of column.Yield = codes "yield"
name_of column.Redemption = codes "redemption"
name_of column.Days = codes "days"
name_of column.Principal = codes "principal"
name_of column.Accrued = codes "accrued"
name_of column.Total = codes "total"
name_of column.Kind = codes "kind"
name_of column.Dated = codes "dated"
name_of column.First = codes "first"
name_of column.Maturity = codes "maturity"
name_of column.Coupon = codes "coupon"
name_of column.Calls = codes "calls"
name_of column.DayCount = codes "day_count"

-- all columns
abbrev pub all_columns : List Column
all_columns =
    column.Reference ∷ column.Cusip ∷ column.Side ∷ column.Par ∷ column.Settle ∷ column.Basis ∷ column.Value
    ∷ column.Fee ∷ column.Price ∷ column.Yield ∷ column.Redemption ∷ column.Days ∷ column.Principal
    ∷ column.Accrued ∷ column.Total ∷ column.Kind ∷ column.Dated ∷ column.First ∷ column.Maturity
    ∷ column.Coupon ∷ column.Calls ∷ column.DayCount ∷ []

-- the column of a name
abbrev pub column_named : List ℕ → Option Column
column_named name = find (λ column. bytes_eq (name_of column) name) all_columns
