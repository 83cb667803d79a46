-- What the rows of a block do, which are done after others.
use Rattle.std.specs.Prelude.{◌≡◌, ℕ, ◌+◌, List, [], ◌∷◌, ◌++◌, length, Option, Result, Ok, Err, IfSome}
use Rattle.std.specs.List.{AllZip}
use Rattle.muni_edge.specs.Faults.{Rose}
use Rattle.muni_edge.specs.declared.sink.Sink as Sink
use Rattle.muni_keep.specs.Tables.{Tables}
use Rattle.muni_keep.specs.declared.keeper.Keeper as Keeper
use Rattle.muni_book_step.specs.Step.{Rules}
use Rattle.muni_import.specs.Report.{Said}
use Rattle.muni_import.specs.Row.{Row}
use Rattle.muni_desk_io.specs.declared.fault.Fault.{Fault}
use Rattle.muni_desk_io.specs.declared.fault.Fault.TheVariants.{Read, Write, Store, NoMemory, TooLarge}
use Rattle.muni_desk_import.specs.Import.{DidAt, DidNextAt, WroteToAt}
use Rattle.muni_desk_import.specs.Reported.{IsSaidOf, ReportsRowsAt}

-- these rows were done if tables are exposed, and a line on each was written
pub record Done (place : ℕ) (rules : Rules) (rows : List Row) (old now : Option Tables) (had has : Option (List ℕ)) : Type 0 where
  pub reports : ReportsRowsAt place rows had has
  pub did : IfSome old (λ tables. DidAt place rules rows tables now had has)

-- these rows and one more, of whose line a part was written
pub record DoneNext (place : ℕ) (rules : Rules) (rows : List Row) (row : Row) (old now : Option Tables) (had has : Option (List ℕ)) : Type 0 where
  pub said : List Said
  pub last : Said
  pub each : AllZip IsSaidOf (rows ++ row ∷ []) (said ++ last ∷ [])
  pub written : WroteToAt place said last had has
  pub did : IfSome old (λ tables. DidNextAt place rules rows row tables now had has)

-- the first of all rows, and no more
pub record DoneFirst (place : ℕ) (rules : Rules) (all : List Row) (old now : Option Tables) (had has : Option (List ℕ)) : Type 0 where
  pub rows : List Row
  pub left : List Row
  pub split : rows ++ left ≡ all
  pub done : Done place rules rows old now had has

-- the first of them, up to one at hand
pub record DoneBefore (place : ℕ) (rules : Rules) (all : List Row) (old now : Option Tables) (had has : Option (List ℕ)) : Type 0 where
  pub rows : List Row
  pub row : Row
  pub left : List Row
  pub split : rows ++ row ∷ left ≡ all
  pub done : Done place rules rows old now had has

-- the first of them and the one after them, of whose line a part was written
pub record DonePart (place : ℕ) (rules : Rules) (all : List Row) (old now : Option Tables) (had has : Option (List ℕ)) : Type 0 where
  pub rows : List Row
  pub row : Row
  pub left : List Row
  pub split : rows ++ row ∷ left ≡ all
  pub done : DoneNext place rules rows row old now had has

-- no place is left for one more
pub record DoneMost (before : ℕ) (rules : Rules) (all : List Row) (old now : Option Tables) (had has : Option (List ℕ)) : Type 0 where
  pub first : DoneBefore (before + 1) rules all old now had has
  pub most : before + length first.rows ≡ 4_294_967_295

-- All rows of a block are applied to a keeper after so many others, or the first of them, as `Applied` has it.
abbrev pub AppliedAfter : {K O : Type 0} → Keeper.Ghosts K → Sink.Ghosts O → Rules → (before : ℕ) → (all : List Row) → Result ℕ Fault → (old new : K) (first last : O) → Type 0
AppliedAfter keeper sink rules before all (Ok count) old new first last =
    Done (before + 1) rules all (keeper.tables old) (keeper.tables new) (sink.bytes first) (sink.bytes last)
    × (count ≡ before + length all)
AppliedAfter keeper sink rules before all (Err Store) old new first last =
    DoneBefore (before + 1) rules all (keeper.tables old) (keeper.tables new) (sink.bytes first) (sink.bytes last)
AppliedAfter keeper sink rules before all (Err NoMemory) old new first last =
    DoneFirst (before + 1) rules all (keeper.tables old) (keeper.tables new) (sink.bytes first) (sink.bytes last)
AppliedAfter keeper sink rules before all (Err Write) old new first last =
    DonePart (before + 1) rules all (keeper.tables old) (keeper.tables new) (sink.bytes first) (sink.bytes last)
    × Rose (sink.faults first) (sink.faults last)
AppliedAfter keeper sink rules before all (Err TooLarge) old new first last =
    DoneMost before rules all (keeper.tables old) (keeper.tables new) (sink.bytes first) (sink.bytes last)
AppliedAfter keeper sink rules before all (Err Read) old new first last = ⊥
