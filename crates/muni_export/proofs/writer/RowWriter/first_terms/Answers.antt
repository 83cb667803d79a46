use Rattle.std.proofs.Common.{◌∙◌, ap}
use Rattle.muni_store_rows.specs.Issue.{Columns}
use Rattle.muni_export.proofs.writer.RowWriter.first_terms.Goals as goal

pub returns : goal.returns
returns c =
    let columns = c.columns.view_is in
    rw (
      c.as_slice.ensures,
      c.as_slice-2.ensures,
      c.as_slice-3.ensures.value,
      ap (λ (x : Columns). x.name) columns,
      c.kind_word.ensures,
      c.as_slice-4.ensures.value,
      ap (λ (x : Columns). x.dated) columns,
      c.as_slice-5.ensures.value,
      ap (λ (x : Columns). x.first) columns,
      c.as_slice-6.ensures.value,
      ap (λ (x : Columns). x.maturity) columns,
      c.as_slice-7.ensures.value,
      c.calls.ensures,
      c.days_word.ensures,
      c.terms.view_is ∙ c.new-terms.ensures,
      c.row.ensures.value,
    ) at c.push.ensures
