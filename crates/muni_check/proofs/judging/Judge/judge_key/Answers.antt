use Rattle.muni_keep.specs.Tables.{last_at}
use Rattle.csv.specs.Records.{fields_of}
use Rattle.muni_check_rows.specs.Judging.{rule}
use Rattle.muni_check_rows.specs.Said.{IsSaidOfTrade, live_by}
use Rattle.muni_check.proofs.ToldLemmas.{if-kept}
use Rattle.muni_check.proofs.judging.Judge.judge_key.Goals as goal

pub returns-clause-said : goal.returns-clause-said
returns-clause-said g c =
    if-kept c.judge_last.result (g.K.Keeper.tables c.args.keeper.now) (λ t. last_at t c.args.key.now)
    (λ last said. IsSaidOfTrade (rule (g.E.Encloser.ends c.args.self.now.calculator.now.encloser.now)) (g.K.Keeper.tables c.args.keeper.now) c.args.fields.now.columns.now.items (fields_of c.args.fields.now.record.now) c.args.key.now.reference (live_by last) said)
    c.in_ok-last.last c.in_ok-last.ensures.found (rw c.in_ok-last.ensures.reads.unchanged at c.judge_last.ensures.said)
