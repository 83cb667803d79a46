-- The keys of the indexes, and the columns of the tables.
use Rattle.std.specs.Prelude.{ℕ, pos, List, [], ◌∷◌, ◌++◌, Option, Some, None}
use Rattle.sqlite_value.specs.declared.value.Value.{Value}
use Rattle.sqlite_value.specs.declared.value.Value.TheVariants.{Int, Text}
use Rattle.muni_msg.specs.declared.command.Key.{Key}
use Rattle.muni_store_rows.specs.Issue as issues
use Rattle.muni_store_rows.specs.Version as versions

-- the key of an issue, whatever its terms, or of a desk
abbrev pub text_key : List ℕ → List Value
text_key text = Text text ∷ []

-- the key of the terms of an issue with a number
abbrev pub issue_key : List ℕ → ℕ → List Value
issue_key cusip number = Text cusip ∷ Int (pos number) ∷ []

abbrev pub trade_key : Key → List Value
trade_key key = Text key.desk ∷ Text key.reference ∷ []

abbrev pub version_key : Key → ℕ → List Value
version_key key number = Text key.desk ∷ Text key.reference ∷ Int (pos number) ∷ []

-- the least text after another, or the least of all
abbrev pub least_past : Option (List ℕ) → List ℕ
least_past None = []
least_past (Some text) = text ++ 0 ∷ []

-- the least key after those of a trade of a desk, or after none
abbrev pub trade_key_past : List ℕ → Option (List ℕ) → List Value
trade_key_past desk after = Text desk ∷ Text (least_past after) ∷ []

-- the columns of numbered terms of an issue, in this order
abbrev pub issue_values : issues.NumberedColumns → List Value
issue_values columns =
    Text columns.terms.cusip
    ∷ Int columns.number
    ∷ Text columns.terms.name
    ∷ Int columns.terms.kind
    ∷ Text columns.terms.dated
    ∷ Text columns.terms.first
    ∷ Text columns.terms.maturity
    ∷ Int columns.terms.coupon
    ∷ Text columns.terms.calls
    ∷ Int columns.terms.basis
    ∷ []

-- the columns of a version, in this order
abbrev pub version_values : versions.Columns → List Value
version_values columns =
    Text columns.desk
    ∷ Text columns.reference
    ∷ Int columns.number
    ∷ Int columns.act
    ∷ Text columns.asked.cusip
    ∷ Int columns.asked.side
    ∷ Int columns.asked.par
    ∷ Text columns.asked.settle
    ∷ Int columns.asked.basis
    ∷ Int columns.asked.value
    ∷ Int columns.figures.price
    ∷ Int columns.figures.yld
    ∷ Text columns.figures.redemption
    ∷ Int columns.figures.at_price
    ∷ Int columns.figures.label
    ∷ Int columns.figures.days
    ∷ Int columns.figures.principal
    ∷ Int columns.figures.accrued
    ∷ Int columns.figures.total
    ∷ Int columns.asked.fee
    ∷ Int columns.figures.commission
    ∷ Int columns.issue
    ∷ []
