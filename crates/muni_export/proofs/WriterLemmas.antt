-- What a writer of rows appends.
use Rattle.std.proofs.Common.{◌≡◌, ◌≢◌, ◌∙◌, ◌⊎◌, ℕ, Bool, true, false, List, ◌++◌, ap, inl, inr}
use Rattle.std.specs.Global.{Vec}
use Rattle.csv.specs.Writing.{fields_written, has_written, row_text, writer_setup}
use Rattle.csv.specs.declared.writer.QuoteStyle.TheVariants as style
use Rattle.csv.specs.declared.writer.Writer.{Writer}
use Rattle.csv.specs.declared.writer.WriterBuilder.{WriterBuilder}
use Rattle.muni_export.specs.Rows.{row}
use Rattle.muni_export.specs.Writer.{text_of, IsBetween}
use Rattle.muni_export.proofs.RowLemmas.{row-same}

pub still-between : (failed : Bool) (writer : Writer (Vec ℕ)) → failed ≡ false → (failed ≡ true) ⊎ IsBetween writer → IsBetween writer
still-between failed writer goes_on (inl fails) = absurd (cc (goes_on, fails))
still-between failed writer goes_on (inr between) = between

pub row-pushed : (old new : Writer (Vec ℕ)) (fields : List (List ℕ)) → IsBetween old
    → (fields_written old ≡ 0 → has_written old ≡ false → (writer_setup old).style ≢ style.NonNumeric → text_of new ≡ text_of old ++ row_text (writer_setup old) fields)
    → text_of new ≡ text_of old ++ row fields
row-pushed old new fields between appends =
    let plain : (writer_setup old).style ≢ style.NonNumeric = rw between.setup (λ e. cc e) in
    appends between.no_field between.no_byte plain
    ∙ ap (λ (setup : WriterBuilder). text_of old ++ row_text setup fields) between.setup
    ∙ ap (λ (text : List ℕ). text_of old ++ text) (row-same fields)
