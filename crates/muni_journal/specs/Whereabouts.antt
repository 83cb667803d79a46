-- What a stop leaves of the disks of a cabinet of journals. The disk of a name whose keeper is not out is that of
-- a keeper that is held, or stands on the shelf.
use Rattle.std.specs.Prelude.{◌≡◌, ◌≢◌, ℕ, List, nat_eq, if◌then◌else◌, Option, Some, None, Result, MatchBool, IfOk, OnErr}
use Rattle.std.specs.Cmp.Lexicographic.{pointwise}
use Rattle.muni_journal_disk.specs.Frames.{KeepsMoments}
use Rattle.muni_journal_disk.specs.declared.disk.Disk as disk
use Rattle.muni_journal_disk.specs.declared.shelf.Shelf as shelf
use Rattle.muni_journal.specs.Journal.{tables_of}
use Rattle.muni_journal.specs.Stops.{StandsFor}
use Rattle.muni_journal.specs.declared.cabinet.Held.{Held}
use Rattle.muni_journal.specs.declared.keeper.JournalKeeper.{JournalKeeper}

-- the moment of that disk
abbrev pub clock_at : {S D : Type 0} → shelf.Ghosts S D → (lends : disk.Ghosts D) → Option (Held D lends) → S → List ℕ → ℕ
clock_at of lends None at name = of.clock at name
clock_at of lends (Some h) at name =
    if pointwise nat_eq h.name.items name then lends.clock h.keeper.disk else of.clock at name

-- what a stop since a moment may have left of it
abbrev pub LeftSince : {S D : Type 0} → shelf.Ghosts S D → (lends : disk.Ghosts D) → Option (Held D lends) → S → List ℕ → ℕ → List ℕ → Type 0
LeftSince of lends None at name t c = of.since at name t c
LeftSince of lends (Some h) at name t c =
    MatchBool (pointwise nat_eq h.name.items name) (lends.since h.keeper.disk t c) (of.since at name t c)

-- what one may leave now: an image of the disk on the shelf, or what stands for the tables of the held keeper or
-- for them after the put in doubt
abbrev pub LeavesNow : {S D : Type 0} → shelf.Ghosts S D → (lends : disk.Ghosts D) → Option (Held D lends) → S → List ℕ → List ℕ → Type 0
LeavesNow of lends None at name c = of.since at name (of.clock at name) c
LeavesNow of lends (Some h) at name c =
    MatchBool (pointwise nat_eq h.name.items name) (StandsFor h.keeper.kept h.keeper.in_doubt None c) (of.since at name (of.clock at name) c)

-- A keeper is lent from the shelf: no stop since the call began leaves what none did before.
pub record LendsAsItStands {S D E : Type 0} (of : shelf.Ghosts S D) (lends : disk.Ghosts D) (name : List ℕ) (result : Result (JournalKeeper D lends) E) (old new : S) : Type 0 where
  pub lent : IfOk result (λ keeper. (c : List ℕ) → lends.since keeper.disk (of.clock old name) c → of.since old name (of.clock old name) c)
  pub unlent : OnErr result ((c : List ℕ) → of.since new name (of.clock old name) c → of.since old name (of.clock old name) c)
  pub others : KeepsMoments of.clock of.since name old new

-- A fetch: no stop since it began leaves under any name what none could leave before it.
pub record FetchesAsItStands {S D E : Type 0} (of : shelf.Ghosts S D) (lends : disk.Ghosts D) (name : List ℕ) (result : Result (JournalKeeper D lends) E) (held still : Option (Held D lends)) (old new : S) : Type 0 where
  pub lent : IfOk result (λ keeper. (c : List ℕ) → lends.since keeper.disk (clock_at of lends held old name) c → LeavesNow of lends held old name c)
  pub others : (other c : List ℕ) → other ≢ name → LeftSince of lends still new other (clock_at of lends held old other) c → LeavesNow of lends held old other c
  pub unlent : OnErr result ((other c : List ℕ) → LeftSince of lends still new other (clock_at of lends held old other) c → LeavesNow of lends held old other c)

-- A keeper is given back: each stop since then leaves what stands for its tables, or for them after the put in
-- doubt; and one now only what stands for its tables, if it is not held. Under other names none leaves more.
pub record GivesBackAsItStands {S D : Type 0} (of : shelf.Ghosts S D) (lends : disk.Ghosts D) (name : List ℕ) (keeper : JournalKeeper D lends) (held : Option (Held D lends)) (old new : S) : Type 0 where
  pub stops : (c : List ℕ) → LeftSince of lends held new name (lends.clock keeper.disk) c → StandsFor keeper.kept keeper.in_doubt None c
  pub stands : held ≡ None → (c : List ℕ) → of.since new name (of.clock new name) c → tables_of c ≡ Some keeper.kept
  pub others : (other c : List ℕ) → other ≢ name → LeftSince of lends held new other (of.clock old other) c → of.since old other (of.clock old other) c
