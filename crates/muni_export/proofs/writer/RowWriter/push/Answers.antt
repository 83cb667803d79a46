use Rattle.std.proofs.Common.{◌++◌, ◌∙◌, ℕ, List, ap, map}
use Rattle.muni_export.specs.Rows.{row}
use Rattle.muni_export.proofs.WriterLemmas.{row-pushed, still-between}
use Rattle.muni_export.proofs.writer.RowWriter.push.Goals as goal
use Rattle.muni_export.proofs.writer.RowWriter.push.Goals.{in-Ok, in-Err}

pub returns : goal.returns
returns c = elim c.match-write_fields.branch [
  | in-Ok w ↦
      let fields : List (List ℕ) = map (λ field. field.now) c.args.fields.now in
      let between = still-between c.self.inside.failed c.self.inside.writer c.if-self.false c.self.invariant in
      let appends = w.in-Ok.ensures.bytes in
      let pushed = row-pushed c.self.inside.writer c.write_fields.new.self fields between appends in
      rw (w.result-is, w.self-is) (pushed ∙ ap (λ (text : List ℕ). text ++ row fields) c.self.view_is)
  | in-Err w ↦ rw w.result-is tt
]
