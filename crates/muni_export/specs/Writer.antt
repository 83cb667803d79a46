-- What a writer of rows holds.
use Rattle.std.specs.Prelude.{◌≡◌, ℕ, List, ◌++◌, true, false}
use Rattle.std.specs.Global.{Vec}
use Rattle.csv.specs.Writing.{default_writer, with_flexible, writer_setup, writer_under, writer_pending, fields_written, has_written}
use Rattle.csv.specs.declared.writer.Writer.{Writer}
use Rattle.csv.specs.declared.writer.WriterBuilder.{WriterBuilder}

-- the text so far: what is written out, and what is not yet
abbrev pub text_of : Writer (Vec ℕ) → List ℕ
text_of writer = (writer_under writer).items ++ writer_pending writer

-- rows may differ in length
abbrev pub rows_setup : WriterBuilder
rows_setup = with_flexible default_writer true

-- no row is begun
pub record IsBetween (writer : Writer (Vec ℕ)) : Type 0 where
  pub setup : writer_setup writer ≡ rows_setup
  pub no_field : fields_written writer ≡ 0
  pub no_byte : has_written writer ≡ false
