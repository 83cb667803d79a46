-- The figures that a row states, as another firm printed them.
use Rattle.std.specs.Prelude.{ℕ, ◌+◌, ◌*◌, ◌-◌, ◌^◌, ◌==◌, if◌then◌else◌, List, ℤ, pos, neg_ℤ, length, take, drop, slice_index, position, option_map, option_and_then, Option, Some, None, is_some, ok_or, Result, Ok, Bool, ◌||◌}
use Rattle.muni_dec.specs.Digits.{number_reading}
use Rattle.muni_dec.specs.Values.{if_printed_yield}
use Rattle.muni_msg.specs.Fields.{day_in}
use Rattle.muni_import.specs.Row.{◌>>=◌}
use Rattle.muni_import.specs.declared.row.RowFault.{RowFault}
use Rattle.muni_readings.specs.declared.stated.Stated.{Stated}
use Rattle.muni_check_rows.specs.Columns.{fault_in, text_in}
use Rattle.muni_msg.specs.declared.column.Column.{Column}
use Rattle.muni_msg.specs.declared.column.Column.TheVariants as column

-- what a column states, if it is not empty
abbrev pub figure_by : {T : Type 0} → RowFault → (List ℕ → Option T) → List ℕ → Result (Option T) RowFault
figure_by fault reading text =
    if length text == 0 then Ok None else ok_or (option_map (λ figure. Some figure) (reading text)) fault

abbrev pub figure_in : {T : Type 0} → List Column → List (List ℕ) → Column → (List ℕ → Option T) → Result (Option T) RowFault
figure_in columns fields column reading =
    figure_by (fault_in columns column) reading (text_in columns fields column)

-- digits before a point, at most fifteen
abbrev pub whole_in : List ℕ → Option ℕ
whole_in digits = number_reading 15 0 999_999_999_999_999 digits

-- digits after a point, in units of the last place
abbrev pub fraction_in : (places : ℕ) → List ℕ → Option ℕ
fraction_in places digits =
    option_map (λ n. n * 10 ^ (places - length digits)) (number_reading places 0 999 digits)

-- both together
abbrev pub sum_in : (places : ℕ) → (whole fraction : Option ℕ) → Option ℕ
sum_in places (Some whole) (Some fraction) = Some (whole * 10 ^ places + fraction)
sum_in places (Some whole) None = None
sum_in places None fraction = None

-- a decimal of at most so many places, with its point or without, in units of the last one
abbrev pub decimal_at : (places : ℕ) → List ℕ → Option ℕ → Option ℕ
decimal_at places text None = option_map (λ whole. whole * 10 ^ places) (whole_in text)
decimal_at places text (Some point) =
    sum_in places (whole_in (take point text)) (fraction_in places (drop (point + 1) text))

unfoldable pub decimal_in : (places : ℕ) → List ℕ → Option ℕ
decimal_in places text = decimal_at places text (position (λ b. b == 46) text)

-- a price has three places, and money has two
abbrev pub price_in : List ℕ → Option ℕ
price_in text = decimal_in 3 text

abbrev pub money_in : List ℕ → Option ℕ
money_in text = decimal_in 2 text

-- a yield has three places, and may be below zero
abbrev pub signed_in : List ℕ → Option ℤ
signed_in text =
    if slice_index text 0 == 45 then option_map (λ n. neg_ℤ (pos n)) (decimal_in 3 (drop 1 text))
    else option_map pos (decimal_in 3 text)

abbrev pub yield_in : List ℕ → Option ℤ
yield_in text = option_and_then if_printed_yield (signed_in text)

-- days of accrued interest
abbrev pub days_in : List ℕ → Option ℤ
days_in text = option_map pos (number_reading 3 0 999 text)

-- the figures that a row states
unfoldable pub stated_in : List Column → List (List ℕ) → Result Stated RowFault
stated_in columns fields = do
  price ← figure_in columns fields column.Price price_in
  yld ← figure_in columns fields column.Yield yield_in
  redemption ← figure_in columns fields column.Redemption day_in
  days ← figure_in columns fields column.Days days_in
  principal ← figure_in columns fields column.Principal money_in
  accrued ← figure_in columns fields column.Accrued money_in
  total ← figure_in columns fields column.Total money_in
  Ok (record { price = price; yld = yld; redemption = redemption; days = days; principal = principal; accrued = accrued; total = total })

-- whether there is one
abbrev pub has_figure : Stated → Bool
has_figure stated =
    is_some stated.price || is_some stated.yld || is_some stated.redemption || is_some stated.days
    || is_some stated.principal || is_some stated.accrued || is_some stated.total
