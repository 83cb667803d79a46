use Rattle.std.proofs.Common.{◌≤◌, ◌∙◌, length, refl, sym, arith, None}
use Rattle.std.proofs.lemmas.Option.{slice_get-get_or}
use Rattle.muni_readings.specs.Checked.{Gives, readings}
use Rattle.muni_readings.specs.Readings.{IsBy}
use Rattle.muni_readings.proofs.CheckedLemmas.{passed-over, first-here, none-left}
use Rattle.muni_readings.proofs.checked.reading_of.Goals as goal

pub returns-then-is_given : goal.returns-then-is_given
returns-then-is_given g c = λ right.
    let By : Gives = IsBy (g.E.Encloser.ends c.args.calculator.now.encloser.now) c.args.answered.now.issue.now c.args.answered.now.asked.now c.args.answered.now.figures.now in
    c.loop-reading.invariant.left right _
    (first-here By c.args.field c.args.stated.now readings c.loop-reading.reading-index _ c.figures_by-theirs.result (slice_get-get_or readings c.loop-reading.reading-index _ c.loop-reading-test.true)
    (c.figures_by-theirs.ensures right) (sym c.is_given.ensures ∙ c.if-is_given.true))

pub loop-reading-preserved : goal.loop-reading-preserved
loop-reading-preserved g c = record {
  items = refl;
  left = λ right first later.
      let By : Gives = IsBy (g.E.Encloser.ends c.args.calculator.now.encloser.now) c.args.answered.now.issue.now c.args.answered.now.asked.now c.args.answered.now.figures.now in
      c.loop-reading.invariant.left right first
      (passed-over By c.args.field c.args.stated.now readings c.loop-reading.reading-index _ _ c.figures_by-theirs.result first (omega arith) (slice_get-get_or readings c.loop-reading.reading-index _ c.loop-reading-test.true)
      (c.figures_by-theirs.ensures right) (sym c.is_given.ensures ∙ c.if-is_given.false) later);
}

pub returns : goal.returns
returns g c = λ right.
    let By : Gives = IsBy (g.E.Encloser.ends c.args.calculator.now.encloser.now) c.args.answered.now.issue.now c.args.answered.now.asked.now c.args.answered.now.figures.now in
    let past : length readings ≤ c.loop-reading.reading-index = (let test = c.loop-reading-test.false in omega (arith, test)) in
    c.loop-reading.invariant.left right None (none-left By c.args.field c.args.stated.now readings c.loop-reading.reading-index past)
