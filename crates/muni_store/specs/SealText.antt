-- The text of a seal.
use Rattle.std.specs.Prelude.{◌<◌, ◌^◌, ℕ, ◌+◌, ◌/◌, ◌%◌, ◌++◌, List, [], ◌∷◌, Option, Some, None, IfSome, FitsSigned, codes, nat_lt, if◌then◌else◌}
use Rattle.std.specs.List.{AllByRecursion}
use Rattle.std.specs.Int.{w64}
use Rattle.std.specs.Fmt.{decimal, signed_decimal}
use Rattle.muni_dec.specs.Line.{line}
use Rattle.muni_store.specs.declared.marks.FileTime.{FileTime}
use Rattle.muni_store.specs.declared.marks.FileMarks.{FileMarks}
use Rattle.muni_store.specs.declared.marks.Seen.{Seen}

-- the hexadecimal digit for a number below 16
abbrev pub hex_digit : ℕ → ℕ
hex_digit n = if nat_lt n 10 then 48 + n else 87 + n

-- two digits a byte
abbrev pub hex : List ℕ → List ℕ
hex [] = []
hex (byte ∷ bytes) = hex_digit (byte / 16) ∷ hex_digit (byte % 16) ∷ hex bytes

-- where a file is, and how large
abbrev pub place_line : {most : ℕ} → List ℕ → FileMarks most → List ℕ
place_line name marks =
    line (name ∷ codes "device" ∷ decimal marks.device ∷ codes "inode" ∷ decimal marks.inode ∷ codes "size" ∷ decimal marks.size ∷ [])

-- its times, in seconds and nanoseconds
abbrev pub times_line : {most : ℕ} → FileMarks most → List ℕ
times_line marks =
    line (codes "modified" ∷ signed_decimal marks.modified.seconds ∷ signed_decimal marks.modified.nanoseconds
    ∷ codes "changed" ∷ signed_decimal marks.changed.seconds ∷ signed_decimal marks.changed.nanoseconds ∷ [])

abbrev pub head_line : List ℕ → List ℕ
head_line head = line (codes "head" ∷ hex head ∷ [])

-- the lines of a file
abbrev pub marks_text : {most : ℕ} → List ℕ → FileMarks most → List ℕ
marks_text name marks = place_line name marks ++ times_line marks ++ head_line marks.head

-- what is said of a log, or that there is none
abbrev pub log_text : Option (FileMarks 32) → List ℕ
log_text (Some log) = marks_text (codes "log") log
log_text None = codes "no log\n"

abbrev pub text : Seen → List ℕ
text seen = codes "muni seal 2\n" ++ marks_text (codes "store") seen.store ++ log_text seen.log

-- the numbers that the types of the fields have
pub record IsTime (time : FileTime) : Type 0 where
  pub seconds : FitsSigned w64 time.seconds
  pub nanoseconds : FitsSigned w64 time.nanoseconds

pub record AreMarks {most : ℕ} (marks : FileMarks most) : Type 0 where
  pub device : marks.device < 2 ^ 64
  pub inode : marks.inode < 2 ^ 64
  pub size : marks.size < 2 ^ 64
  pub modified : IsTime marks.modified
  pub changed : IsTime marks.changed
  pub head : AllByRecursion (λ byte. byte < 256) marks.head

pub record IsSeen (seen : Seen) : Type 0 where
  pub store : AreMarks seen.store
  pub log : IfSome seen.log (λ log. AreMarks log)
