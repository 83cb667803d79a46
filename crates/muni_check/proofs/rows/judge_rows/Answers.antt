use Rattle.std.proofs.Common.{◌∙◌, [], ◌∷◌, refl, ap, map, take, arith}
use Rattle.csv.specs.Records.{fields_of}
use Rattle.muni_check.specs.Judging.{over}
use Rattle.muni_check_rows.specs.declared.tally.Tally.{Tally}
use Rattle.muni_check_rows.specs.Line.{said_line}
use Rattle.muni_check.specs.declared.rows.Progress.{Progress}
use Rattle.muni_check.proofs.GoLemmas.{goes-joined, goes-none, goes-one, rows-next}
use Rattle.muni_check.proofs.rows.judge_rows.Goals as goal

pub loop-row-init : goal.loop-row-init
loop-row-init g c = record {
  goes = rw c.new-lines.ensures.items (goes-none (over (g.E.Encloser.ends c.args.judge.now.calculator.now.encloser.now) c.args.judge.now.desk.now (g.K.Keeper.tables c.args.keeper.now)) c.args.columns.now.items c.args.progress.now);
  small = c.requires.small;
  counted = omega arith;
  sound = c.requires.sound;
  calculator = refl;
  desk = refl;
  tables = refl;
  later = omega arith;
  lent_as = refl;
}

pub loop-row-preserved : goal.loop-row-preserved
loop-row-preserved g c =
    let inv = c.loop-row.invariant in
    let by = over (g.E.Encloser.ends c.args.judge.now.calculator.now.encloser.now) c.args.judge.now.desk.now (g.K.Keeper.tables c.args.keeper.now) in
    let place = c.in_ok-place.ensures.place in
    let told = rw (inv.calculator, inv.desk, inv.tables) at c.in_ok-said.ensures.said in
    let named = rw inv.desk at c.in_ok-said.ensures.named in
    let places = rw (inv.desk, place) at c.in_ok-said.ensures.places in
    let new : Progress = record { tally = c.add.new.self; named = c.said_of.new.named } in
    record {
      goes = rw (rows-next c.args.rows.now c.loop-row.row-index c.row-item.result (omega (arith, c.loop-row-test.true)) c.row-item.is, c.in_ok-add_line.ensures)
          (goes-joined by c.args.columns.now.items (map fields_of (take c.loop-row.row-index c.args.rows.now)) (fields_of c.row-item.result ∷ []) c.args.progress.now c.loop-row.progress new c.loop-row.lines.items _ inv.goes
          (goes-one by c.args.columns.now.items (fields_of c.row-item.result) c.in_ok-said.said c.loop-row.progress new _ told c.add.ensures.added named places (ap (λ n. said_line n c.in_ok-said.said) place)));
      small = c.add.ensures.small;
      counted = omega (arith, inv.counted, ap (λ (t : Tally). t.rows) c.add.ensures.added);
      sound = rw inv.tables at c.in_ok-said.ensures.sound;
      calculator = c.in_ok-said.ensures.calculator ∙ inv.calculator;
      desk = c.in_ok-said.ensures.desk ∙ inv.desk;
      tables = c.in_ok-said.ensures.reads.unchanged ∙ inv.tables;
      later = omega (arith, inv.later, c.in_ok-said.ensures.reads.later);
      lent_as = c.in_ok-said.ensures.reads.lent_as ∙ inv.lent_as;
    }
