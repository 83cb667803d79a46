use Rattle.csv.specs.Records.{fields_of}
use Rattle.muni_check.specs.Named.{place_in}
use Rattle.muni_check.proofs.OneLemmas.{row-line}
use Rattle.muni_check.proofs.ToldLemmas.{if-always}
use Rattle.muni_check.proofs.one.check_row.Goals as goal

pub said_of-requires-clause-sound : goal.said_of-requires-clause-sound
said_of-requires-clause-sound g c κs within = if-always (g.K.Keeper.tables c.args.keeper.now) _ c.new-judge.ensures.sound

pub returns-clause-line : goal.returns-clause-line
returns-clause-line g c =
    row-line _ c.args.row.now.columns.now.items (fields_of c.args.row.now.record.now) (place_in c.none-named.result) c.in_ok-said.said _ c.none-named.ensures
    (rw (c.new-judge.ensures.calculator, c.new-judge.ensures.desk) at c.in_ok-said.ensures.said) (rw c.new-line.ensures.items at c.in_ok-add_line.ensures)
