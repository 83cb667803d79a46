-- The lines of a check.
use Rattle.std.specs.Prelude.{◌≤◌, ⊤, ℕ, ◌+◌, List, [], ◌∷◌, ◌++◌, codes, decimal, Option, Some, None}
use Rattle.std.specs.Fmt.{signed_decimal}
use Rattle.std.specs.List.{flat_map}
use Rattle.muni_dec.specs.Values.{money_text, printed_price_text, printed_yield_text}
use Rattle.muni_days.specs.Day.{civil, day_text}
use Rattle.muni_msg.specs.declared.figures.Figures.{Figures}
use Rattle.muni_import.specs.Line.{bad_fields, behind_commas, refused_fields}
use Rattle.muni_import.specs.declared.row.RowFault.{RowFault}
use Rattle.muni_readings.specs.declared.stated.Field.{Field}
use Rattle.muni_readings.specs.declared.stated.Field.TheVariants as field
use Rattle.muni_readings.specs.declared.reading.Reading.{Reading}
use Rattle.muni_readings.specs.declared.reading.Reading.TheVariants as reading
use Rattle.muni_readings.specs.declared.stated.Stated.{Stated}
use Rattle.muni_msg.specs.Columns.{name_of}
use Rattle.muni_msg.specs.declared.column.Column.TheVariants as column
use Rattle.muni_check_rows.specs.Other.{OtherTerm}
use Rattle.muni_check_rows.specs.declared.said.CheckSaid.{CheckSaid}
use Rattle.muni_check_rows.specs.declared.said.CheckSaid.TheVariants as outcome
use Rattle.muni_check_rows.specs.declared.tally.Tally.{Tally}

-- a refusal has a number from 1 to 15
abbrev pub HasName : CheckSaid → Type 0
HasName outcome.Right = ⊤
HasName (outcome.Differs which figures stated reading) = ⊤
HasName (outcome.Undecided which) = ⊤
HasName (outcome.Refused number) = (1 ≤ number) × (number ≤ 15)
HasName (outcome.Missing reference) = ⊤
HasName (outcome.OtherTerm other) = ⊤
HasName (outcome.Again first) = ⊤
HasName outcome.Nothing = ⊤
HasName (outcome.Bad fault) = ⊤

-- all but two texts of any length
abbrev pub IsShort : CheckSaid → Type 0
IsShort outcome.Right = ⊤
IsShort (outcome.Differs which figures stated reading) = ⊤
IsShort (outcome.Undecided which) = ⊤
IsShort (outcome.Refused number) = ⊤
IsShort (outcome.Missing reference) = ⊤
IsShort (outcome.OtherTerm other) = ⊥
IsShort (outcome.Again first) = ⊤
IsShort outcome.Nothing = ⊤
IsShort (outcome.Bad fault) = ⊤

-- a figure is named as its column
abbrev pub field_name : Field → List ℕ
field_name field.Price = name_of column.Price
field_name field.Yield = name_of column.Yield
field_name field.Redemption = name_of column.Redemption
field_name field.Days = name_of column.Days
field_name field.Principal = name_of column.Principal
field_name field.Accrued = name_of column.Accrued
field_name field.Total = name_of column.Total

-- the other formula by which the other firm has its figure
abbrev pub reading_name : Reading → List ℕ
reading_name reading.Maturity = codes "MATURITY"
reading_name reading.FirstCall = codes "FIRST CALL"
reading_name reading.Rounded = codes "ROUNDED"
reading_name reading.Compounded = codes "COMPOUNDED"
reading_name reading.February = codes "FEBRUARY"
reading_name reading.Gross = codes "GROSS"
reading_name reading.Regular = codes "REGULAR"

-- a figure as a confirmation prints it
abbrev pub our_text : Field → Figures → List ℕ
our_text field.Price figures = printed_price_text figures.price
our_text field.Yield figures = printed_yield_text figures.yld
our_text field.Redemption figures = day_text (civil figures.redemption)
our_text field.Days figures = signed_decimal figures.days
our_text field.Principal figures = money_text figures.principal
our_text field.Accrued figures = money_text figures.accrued
our_text field.Total figures = money_text figures.total

-- the same of a stated figure, and nothing of one that is not stated
abbrev pub text_or_none : {T : Type 0} → (T → List ℕ) → Option T → List ℕ
text_or_none text None = []
text_or_none text (Some figure) = text figure

abbrev pub their_text : Field → Stated → List ℕ
their_text field.Price stated = text_or_none printed_price_text stated.price
their_text field.Yield stated = text_or_none printed_yield_text stated.yld
their_text field.Redemption stated = text_or_none (λ day. day_text (civil day)) stated.redemption
their_text field.Days stated = text_or_none signed_decimal stated.days
their_text field.Principal stated = text_or_none money_text stated.principal
their_text field.Accrued stated = text_or_none money_text stated.accrued
their_text field.Total stated = text_or_none money_text stated.total

-- the reading, if there is one
abbrev pub reading_fields : Option Reading → List ℕ
reading_fields None = []
reading_fields (Some reading) = behind_commas (reading_name reading ∷ [])

-- a figure that differs
unfoldable pub differs_fields : Field → Figures → Stated → Option Reading → List ℕ
differs_fields which figures stated reading =
    behind_commas (codes "differs" ∷ field_name which ∷ our_text which figures ∷ their_text which stated ∷ [])
    ++ reading_fields reading

-- a term that is another than the kept one
abbrev pub other_fields : OtherTerm → List ℕ
other_fields other =
    behind_commas (codes "differs" ∷ name_of other.column ∷ other.ours ∷ other.theirs ∷ [])

-- what is told of a row
unfoldable pub said_fields : CheckSaid → List ℕ
said_fields outcome.Right = behind_commas (codes "right" ∷ [])
said_fields (outcome.Differs which figures stated reading) = differs_fields which figures stated reading
said_fields (outcome.Undecided which) = behind_commas (codes "undecided" ∷ field_name which ∷ [])
said_fields (outcome.Refused number) = refused_fields number
said_fields (outcome.Missing reference) = behind_commas (codes "missing" ∷ reference ∷ [])
said_fields (outcome.OtherTerm other) = other_fields other
said_fields (outcome.Again first) = behind_commas (codes "again" ∷ decimal first ∷ [])
said_fields outcome.Nothing = behind_commas (codes "nothing" ∷ [])
said_fields (outcome.Bad fault) = bad_fields fault

-- the line of a row, which begins with its place
abbrev pub said_line : ℕ → CheckSaid → List ℕ
said_line place said = decimal place ++ said_fields said ++ 10 ∷ []

-- the lines of rows, whose places are counted on
abbrev pub said_lines : ℕ → List CheckSaid → List ℕ
said_lines place [] = []
said_lines place (said ∷ more) = said_line place said ++ said_lines (place + 1) more

-- the line of a trade for which no row came
abbrev pub unseen_line : List ℕ → List ℕ
unseen_line reference = said_line 0 (outcome.Missing reference)

abbrev pub unseen_lines : List (List ℕ) → List ℕ
unseen_lines references = flat_map unseen_line references

-- the last line
unfoldable pub total_line : Tally → List ℕ
total_line tally =
    codes "TOTAL"
    ++ behind_commas (decimal tally.rows ∷ decimal tally.right ∷ decimal tally.differ ∷ decimal tally.missing ∷ decimal tally.again ∷ decimal tally.nothing ∷ [])
    ++ 10 ∷ []

-- the line of names that are no columns
abbrev pub names_line : RowFault → List ℕ
names_line fault = said_line 0 (outcome.Bad fault)
