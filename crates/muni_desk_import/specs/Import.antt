-- What the rows of an import do, one after another.
use Rattle.std.specs.Prelude.{◌≡◌, ◌⊎◌, ℕ, ◌+◌, List, [], ◌∷◌, ◌++◌, take, length, Option, Some, Ok, Err, IfSome}
use Rattle.muni_edge.specs.Sink.{HasWritten}
use Rattle.muni_keep.specs.Tables.{Tables}
use Rattle.muni_book_step.specs.Runs.{StepsTo}
use Rattle.muni_book_step.specs.Step.{Rules}
use Rattle.muni_import.specs.Report.{Said, row_line}
use Rattle.muni_import.specs.Row.{Row}
use Rattle.muni_import.specs.Rows.{rows_of}

-- What comes of a row: one step of the book gives the reply to its command and the tables after it. A
-- row that is no command changes nothing.
abbrev pub Came : Rules → Tables → Row → Said → Option Tables → Type 0
Came rules old (Ok command) (Ok reply) now = StepsTo rules old command reply now
Came rules old (Err fault) (Err told) now = (told ≡ fault) × (now ≡ Some old)
Came rules old (Ok command) (Err fault) now = ⊥
Came rules old (Err fault) (Ok reply) now = ⊥

-- rows done one after another, what came of each, and the tables after them
abbrev pub Imports : Rules → Tables → List Row → List Said → Tables → Type 0
Imports rules old [] [] new = new ≡ old
Imports rules old (row ∷ rows) (said ∷ more) new =
    (next : Tables) × Came rules old row said (Some next) × Imports rules next rows more new
Imports rules old [] (said ∷ more) new = ⊥
Imports rules old (row ∷ rows) [] new = ⊥

-- the lines of a report on what came of rows, whose places are counted on from one
abbrev pub report : ℕ → List Said → List ℕ
report place [] = []
report place (said ∷ more) = row_line place said ++ report (place + 1) more

-- these rows were done, and the report on them was written, whose first line has this place
pub record DidAt (place : ℕ) (rules : Rules) (rows : List Row) (old : Tables) (now : Option Tables) (had has : Option (List ℕ)) : Type 0 where
  pub said : List Said
  pub new : Tables
  pub imports : Imports rules old rows said new
  pub told : now ≡ Some new
  pub written : HasWritten had has (report place said)

abbrev pub Did : Rules → List Row → Tables → Option Tables → (had has : Option (List ℕ)) → Type 0
Did rules rows old now had has = DidAt 1 rules rows old now had has

-- of the report on some rows and of a line more, all but an end of that line was written
pub record WroteToAt (place : ℕ) (said : List Said) (last : Said) (had has : Option (List ℕ)) : Type 0 where
  pub part : IfSome had (λ text. (count : ℕ) × (has ≡ Some ((text ++ report place said) ++ take count (row_line (place + length said) last))))

abbrev pub WroteTo : List Said → Said → (had has : Option (List ℕ)) → Type 0
WroteTo said last had has = WroteToAt 1 said last had has

-- these rows were done and one more, of whose line a part was written
pub record DidNextAt (place : ℕ) (rules : Rules) (rows : List Row) (row : Row) (old : Tables) (now : Option Tables) (had has : Option (List ℕ)) : Type 0 where
  pub said : List Said
  pub last : Said
  pub new : Tables
  pub imports : Imports rules old (rows ++ row ∷ []) (said ++ last ∷ []) new
  pub told : now ≡ Some new
  pub written : WroteToAt place said last had has

abbrev pub DidNext : Rules → List Row → Row → Tables → Option Tables → (had has : Option (List ℕ)) → Type 0
DidNext rules rows row old now had has = DidNextAt 1 rules rows row old now had has

-- the first rows of a text were done, and no more
pub record DidFirst (rules : Rules) (text : List ℕ) (old : Tables) (now : Option Tables) (had has : Option (List ℕ)) : Type 0 where
  pub rows : List Row
  pub left : List Row
  pub all : rows ++ left ≡ rows_of text
  pub did : Did rules rows old now had has

-- the first rows of a text were done, up to one at hand
pub record DidBefore (rules : Rules) (text : List ℕ) (old : Tables) (now : Option Tables) (had has : Option (List ℕ)) : Type 0 where
  pub rows : List Row
  pub row : Row
  pub left : List Row
  pub all : rows ++ row ∷ left ≡ rows_of text
  pub did : Did rules rows old now had has

-- they were, or nothing was done
abbrev pub DidBeforeOrNone : Rules → List ℕ → Tables → Option Tables → (had has : Option (List ℕ)) → Type 0
DidBeforeOrNone rules text old now had has =
    DidBefore rules text old now had has ⊎ ((now ≡ Some old) × (has ≡ had))

-- the first rows of a text were done and the one after them, of whose line a part was written
pub record DidPart (rules : Rules) (text : List ℕ) (old : Tables) (now : Option Tables) (had has : Option (List ℕ)) : Type 0 where
  pub rows : List Row
  pub row : Row
  pub left : List Row
  pub all : rows ++ row ∷ left ≡ rows_of text
  pub did : DidNext rules rows row old now had has
