-- What was seen of a store, and when its seal holds.
use Rattle.std.specs.Prelude.{◌≡◌, ◌⊎◌, ◌<ℤ◌, ℕ, IfSome}
use Rattle.muni_store.specs.declared.marks.FileTime.{FileTime}
use Rattle.muni_store.specs.declared.marks.FileMarks.{FileMarks}
use Rattle.muni_store.specs.declared.marks.Seen.{Seen}

-- a time is strictly before another
abbrev pub IsBefore : FileTime → FileTime → Type 0
IsBefore a b = (a.seconds <ℤ b.seconds) ⊎ ((a.seconds ≡ b.seconds) × (a.nanoseconds <ℤ b.nanoseconds))

-- A file was last written, and its inode last changed, before a time.
pub record IsUntouchedSince {most : ℕ} (time : FileTime) (marks : FileMarks most) : Type 0 where
  pub modified : IsBefore marks.modified time
  pub changed : IsBefore marks.changed time

-- A store and its log, if there is one, were last written and changed before a time.
pub record AreUntouchedSince (time : FileTime) (seen : Seen) : Type 0 where
  pub store : IsUntouchedSince time seen.store
  pub log : IfSome seen.log (λ log. IsUntouchedSince time log)
