use Rattle.std.proofs.Common.{◌∙◌, Err, ap, length, subst, arith}
use Rattle.std.specs.BTreeMap as tree
use Rattle.std.proofs.lemmas.Result.{err_from_is_err_and}
use Rattle.muni_answer.specs.Answers.{IsRightAnswer}
use Rattle.muni_keep.specs.Trades.{by_bytes}
use Rattle.muni_figures.specs.Figured.{DidRows}
use Rattle.muni_figures.specs.Said.{IsSaid, IsToldOf}
use Rattle.muni_figures.specs.Shares.{rows_of_shares}
use Rattle.muni_figures.proofs.DidLemmas.{all-counted, did-none, did-room, did-told, did-unplaced, scanned-rows}
use Rattle.muni_figures.proofs.IssueLemmas.{all-fetched}
use Rattle.muni_figures.proofs.ShareLemmas.{same-rows}
use Rattle.muni_figures.proofs.command.do_group.Goals as goal

pub returns-in_err-ask_for-clause-did : goal.returns-in_err-ask_for-clause-did
returns-in_err-ask_for-clause-did g c =
    let Answers = IsToldOf (IsRightAnswer (g.E.Encloser.ends c.args.valuing.now.calculator.now.encloser.now)) c.args.valuing.now.options.has_risk (g.K.Keeper.tables c.args.keeper.now) in
    let p = err_from_is_err_and c.from_residual.result c.from_residual.ensures.1 in
    rw (p.1, p.2) (did-none Answers c.args.valuing.now.options.first (rows_of_shares c.args.shares.now) c.args.so_far.now.tally c.in_err-ask_for.field-0.0 (g.O.Sink.bytes c.args.output.now))

pub number-requires : goal.number-requires
number-requires g c = all-counted (tree.get by_bytes c.args.so_far.now.issues) c.args.shares.now c.scan_shares.new.shares c.scan_shares.ensures

pub returns-in_err-number-clause-did : goal.returns-in_err-number-clause-did
returns-in_err-number-clause-did g c =
    let Answers = IsToldOf (IsRightAnswer (g.E.Encloser.ends c.args.valuing.now.calculator.now.encloser.now)) c.args.valuing.now.options.has_risk (g.K.Keeper.tables c.args.keeper.now) in
    let p = err_from_is_err_and c.from_residual-in_err-number.result c.from_residual-in_err-number.ensures.1 in
    let rows = scanned-rows (tree.get by_bytes c.args.so_far.now.issues) c.args.shares.now c.scan_shares.new.shares c.scan_shares.ensures in
    let numbered = c.in_err-number.ensures in
    rw (p.1, p.2) (did-unplaced Answers c.args.valuing.now.options.first (rows_of_shares c.args.shares.now) c.args.so_far.now.tally c.in_err-number.field-0.0 (g.O.Sink.bytes c.args.output.now) numbered.only
    (λ large. omega (arith, ap length rows, numbered.too_many (ap Err large))))

pub write_shares-requires-clause-room : goal.write_shares-requires-clause-room
write_shares-requires-clause-room g c =
    omega (arith, c.in_ok-number.ensures.room, ap length (same-rows c.scan_shares.new.shares c.number.new.shares c.in_ok-number.ensures.blocks))

pub returns-clause-did : goal.returns-clause-did
returns-clause-did g c =
    let Prices = IsRightAnswer (g.E.Encloser.ends c.args.valuing.now.calculator.now.encloser.now) in
    let told = g.K.Keeper.tables c.args.keeper.now in
    let had = tree.get by_bytes c.args.so_far.now.issues in
    let issues = tree.get by_bytes c.ask_for.new.issues in
    let bytes = g.O.Sink.bytes in
    let rows = same-rows c.scan_shares.new.shares c.number.new.shares c.in_ok-number.ensures.blocks ∙ scanned-rows had c.args.shares.now c.scan_shares.new.shares c.scan_shares.ensures in
    let fetched = all-fetched told had issues c.args.shares.now c.scan_shares.new.shares c.scan_shares.ensures c.in_ok-ask_for.ensures.scanned c.requires.found c.in_ok-ask_for.ensures.asked in
    did-told Prices c.args.valuing.now.options.has_risk told issues c.args.valuing.now.options.first (rows_of_shares c.args.shares.now) c.args.so_far.now.tally c.write_shares.result (bytes c.args.output.now) (bytes c.write_shares.new.output) fetched
    (subst (λ rows. DidRows (IsSaid Prices c.args.valuing.now.options.has_risk issues) c.args.valuing.now.options.first rows c.args.so_far.now.tally c.write_shares.result (bytes c.args.output.now) (bytes c.write_shares.new.output)) rows c.write_shares.ensures.did)

pub returns-clause-room : goal.returns-clause-room
returns-clause-room g c =
    let Answers = IsSaid (IsRightAnswer (g.E.Encloser.ends c.args.valuing.now.calculator.now.encloser.now)) c.args.valuing.now.options.has_risk (tree.get by_bytes c.ask_for.new.issues) in
    let bytes = g.O.Sink.bytes in
    did-room Answers c.args.valuing.now.options.first (rows_of_shares c.number.new.shares) c.args.so_far.now.tally c.write_shares.result (bytes c.args.output.now) (bytes c.write_shares.new.output)
    (omega (arith, c.in_ok-number.ensures.room, ap length (same-rows c.scan_shares.new.shares c.number.new.shares c.in_ok-number.ensures.blocks))) c.write_shares.ensures.did
