-- Puts that are read.
use Rattle.std.proofs.Common.{◌≡◌, ℕ, Option, Some, None, sym, ◌∙◌, ap}
use Rattle.std.specs.Option.{option_and_then}
use Rattle.std.proofs.lemmas.Option.{same_Some}
use Rattle.muni_keep.specs.Tables.{Tables}
use Rattle.muni_msg.specs.declared.command.Key.{Key}
use Rattle.muni_msg.specs.declared.version.Version.{Version}
use Rattle.muni_journal_record.specs.Body.{version_in}
use Rattle.muni_journal_record.specs.declared.put.Put.{Put}
use Rattle.muni_journal_record.specs.declared.put.Put.TheVariants.{Issue, Version as PutVersion}
use Rattle.muni_journal.specs.Puts.{put_on}

-- what is read leads to where its put does
pub put_puts : (tables : Tables) (read : Option Put) (put : Put) (next : Option Tables) → Some put ≡ read → put_on tables put ≡ next → option_and_then (put_on tables) read ≡ next
put_puts tables read put next is puts = ap (option_and_then (put_on tables)) (sym is) ∙ puts

-- a version that is read is put
version_read : (read : Option Put) (key : Key) (number : ℕ) (version : Version) → Some (key, number, version) ≡ option_and_then version_in read → Some (PutVersion key number version) ≡ read
version_read None key number version is = absurd (cc is)
version_read (Some (Issue n row)) key number version is = absurd (cc is)
version_read (Some (PutVersion k n v)) key number version is = ap (λ (f : Key × ℕ × Version). Some (PutVersion f.0 f.1 f.2)) (same_Some (key, number, version) (k, n, v) is)

pub version_puts : (tables : Tables) (read : Option Put) (key : Key) (number : ℕ) (version : Version) (next : Option Tables) → Some (key, number, version) ≡ option_and_then version_in read → put_on tables (PutVersion key number version) ≡ next
    → option_and_then (put_on tables) read ≡ next
version_puts tables read key number version next is puts = put_puts tables read (PutVersion key number version) next (version_read read key number version is) puts
