-- What an import does with the positions of a desk after its report.
use Rattle.std.specs.Prelude.{◌⊎◌, ℕ, List, Option, IfSome}
use Rattle.muni_edge.specs.Sink.{HasWritten, HasWrittenPart}
use Rattle.muni_keep.specs.Tables.{Tables}
use Rattle.muni_book_step.specs.Step.{Rules}
use Rattle.muni_import.specs.Row.{Row}
use Rattle.muni_import.specs.Rows.{rows_of}
use Rattle.muni_desk_import.specs.Import.{Did, DidPart}
use Rattle.muni_position.specs.Listing.{positions_text}

-- so much of a text was appended to an output
abbrev pub Writing : Type 1
Writing = Option (List ℕ) → Option (List ℕ) → List ℕ → Type 0

-- These rows were done and the report on them was written, and so much of the positions of a desk over
-- the tables after them.
pub record DidListing (Writes : Writing) (rules : Rules) (desk : List ℕ) (rows : List Row) (old : Tables) (now : Option Tables) (had has : Option (List ℕ)) : Type 0 where
  pub reported : Option (List ℕ)
  pub did : Did rules rows old now had reported
  pub listed : IfSome now (λ tables. Writes reported has (positions_text desk tables))

-- the report on all rows of a text, and the positions
abbrev pub DidAll : Rules → (desk text : List ℕ) → Tables → Option Tables → Option (List ℕ) → Option (List ℕ) → Type 0
DidAll rules desk text old now had has =
    DidListing HasWritten rules desk (rows_of text) old now had has

-- a first part of both
abbrev pub DidSome : Rules → (desk text : List ℕ) → Tables → Option Tables → Option (List ℕ) → Option (List ℕ) → Type 0
DidSome rules desk text old now had has =
    DidPart rules text old now had has
    ⊎ DidListing HasWrittenPart rules desk (rows_of text) old now had has
