use Rattle.std.proofs.Common.{◌+◌, ◌++◌, ◌∙◌, [], ap, refl, arith}
use Rattle.std.specs.BTreeMap as tree
use Rattle.std.proofs.lemmas.Result.{err_from_is_err_and}
use Rattle.muni_answer.specs.Answers.{IsRightAnswer}
use Rattle.muni_keep.specs.Trades.{by_bytes}
use Rattle.muni_figures.specs.Done.{no_tally, tally_sum}
use Rattle.muni_figures.specs.Said.{IsSaid}
use Rattle.muni_figures.proofs.DoneLemmas.{done-none}
use Rattle.muni_figures.proofs.WriteLemmas.{all-places, few-more, first-text, next-done, none-more, part-then, priced-within, share-done, tally-assoc, written-none, written-then}
use Rattle.muni_figures.proofs.command.write_shares.Goals as goal

pub price_shares-requires-after_bounds : goal.price_shares-requires-after_bounds
price_shares-requires-after_bounds g c = λ bounds met. all-places (c.args.valuing.now.options.first + c.args.so_far.now.tally.rows) c.args.shares.now c.requires.numbered

pub loop-share-init : goal.loop-share-init
loop-share-init g c =
    let Answers = IsSaid (IsRightAnswer (g.E.Encloser.ends c.args.valuing.now.calculator.now.encloser.now)) c.args.valuing.now.options.has_risk (tree.get by_bytes c.args.so_far.now.issues) in
    record {
      lines = [];
      these = no_tally;
      done = done-none Answers (c.args.valuing.now.options.first + c.args.so_far.now.tally.rows);
      tally = none-more c.args.so_far.now.tally;
      small = c.requires.small;
      written = written-none (g.O.Sink.bytes c.args.output.now);
      puts = refl;
    }

pub returns-in-Err-clause-did : goal.returns-in-Err-clause-did
returns-in-Err-clause-did g c =
    let Answers = IsSaid (IsRightAnswer (g.E.Encloser.ends c.args.valuing.now.calculator.now.encloser.now)) c.args.valuing.now.options.has_risk (tree.get by_bytes c.args.so_far.now.issues) in
    let before = c.loop-share.invariant in
    (before.lines, first-text Answers (c.args.valuing.now.options.first + c.args.so_far.now.tally.rows) c.args.shares.now c.loop-share.share-index before.lines before.these before.done, before.written)

pub returns-in_err-write-clause-did : goal.returns-in_err-write-clause-did
returns-in_err-write-clause-did g c =
    let Answers = IsSaid (IsRightAnswer (g.E.Encloser.ends c.args.valuing.now.calculator.now.encloser.now)) c.args.valuing.now.options.has_risk (tree.get by_bytes c.args.so_far.now.issues) in
    let before = c.loop-share.invariant in
    let xs = c.args.shares.now in
    let i = c.loop-share.share-index in
    let place = c.args.valuing.now.options.first + c.args.so_far.now.tally.rows in
    let lines = c.in-Ok.lines in
    let bytes = g.O.Sink.bytes in
    let p = err_from_is_err_and c.from_residual.result c.from_residual.ensures.1 in
    let within = priced-within Answers xs c.price_shares.new.shares i c.price_shares.ensures c.loop-share-test.true in
    let block = share-done Answers place xs c.price_shares.new.shares i c.share-item.result lines c.requires.numbered c.price_shares.ensures within c.share-item.is c.in-Ok.is in
    let done = next-done Answers place xs i c.share-item.result before.lines lines.text.items before.these lines.tally within before.done block in
    let text = first-text Answers place xs (i + 1) (before.lines ++ lines.text.items) (tally_sum before.these lines.tally) done in
    let part = part-then (bytes c.args.output.now) (bytes c.loop-share.output) (bytes c.write.new.output) before.lines lines.text.items before.written (rw c.as_slice.ensures.value at c.in_err-write.ensures.part) in
    rw (p.1, p.2, c.in_err-write.ensures.only) (before.lines ++ lines.text.items, text, part)

pub plus-tally-requires-clause-room : goal.plus-tally-requires-clause-room
plus-tally-requires-clause-room g c =
    let Answers = IsSaid (IsRightAnswer (g.E.Encloser.ends c.args.valuing.now.calculator.now.encloser.now)) c.args.valuing.now.options.has_risk (tree.get by_bytes c.args.so_far.now.issues) in
    let before = c.loop-share.invariant in
    let xs = c.args.shares.now in
    let i = c.loop-share.share-index in
    let place = c.args.valuing.now.options.first + c.args.so_far.now.tally.rows in
    let lines = c.in-Ok.lines in
    let within = priced-within Answers xs c.price_shares.new.shares i c.price_shares.ensures c.loop-share-test.true in
    let block = share-done Answers place xs c.price_shares.new.shares i c.share-item.result lines c.requires.numbered c.price_shares.ensures within c.share-item.is c.in-Ok.is in
    let done = next-done Answers place xs i c.share-item.result before.lines lines.text.items before.these lines.tally within before.done block in
    let few = few-more Answers place xs (i + 1) (before.lines ++ lines.text.items) (tally_sum before.these lines.tally) done in
    omega (arith, few, c.requires.room, ap (λ t. t.rows) before.tally)

pub plus-tally-requires-clause-others : goal.plus-tally-requires-clause-others
plus-tally-requires-clause-others g c =
    let Answers = IsSaid (IsRightAnswer (g.E.Encloser.ends c.args.valuing.now.calculator.now.encloser.now)) c.args.valuing.now.options.has_risk (tree.get by_bytes c.args.so_far.now.issues) in
    let place = c.args.valuing.now.options.first + c.args.so_far.now.tally.rows in
    let within = priced-within Answers c.args.shares.now c.price_shares.new.shares c.loop-share.share-index c.price_shares.ensures c.loop-share-test.true in
    (share-done Answers place c.args.shares.now c.price_shares.new.shares c.loop-share.share-index c.share-item.result c.in-Ok.lines c.requires.numbered c.price_shares.ensures within c.share-item.is c.in-Ok.is).small

pub loop-share-preserved : goal.loop-share-preserved
loop-share-preserved g c =
    let Answers = IsSaid (IsRightAnswer (g.E.Encloser.ends c.args.valuing.now.calculator.now.encloser.now)) c.args.valuing.now.options.has_risk (tree.get by_bytes c.args.so_far.now.issues) in
    let before = c.loop-share.invariant in
    let xs = c.args.shares.now in
    let i = c.loop-share.share-index in
    let place = c.args.valuing.now.options.first + c.args.so_far.now.tally.rows in
    let lines = c.in-Ok.lines in
    let bytes = g.O.Sink.bytes in
    let within = priced-within Answers xs c.price_shares.new.shares i c.price_shares.ensures c.loop-share-test.true in
    let block = share-done Answers place xs c.price_shares.new.shares i c.share-item.result lines c.requires.numbered c.price_shares.ensures within c.share-item.is c.in-Ok.is in
    record {
      lines = before.lines ++ lines.text.items;
      these = tally_sum before.these lines.tally;
      done = next-done Answers place xs i c.share-item.result before.lines lines.text.items before.these lines.tally within before.done block;
      tally = c.plus-tally.ensures.value ∙ ap (λ t. tally_sum t lines.tally) before.tally ∙ tally-assoc c.args.so_far.now.tally before.these lines.tally;
      small = c.plus-tally.ensures.small;
      written = written-then (bytes c.args.output.now) (bytes c.loop-share.output) (bytes c.write.new.output) before.lines lines.text.items before.written (rw c.as_slice.ensures.value at c.in_ok-write.ensures.written);
      puts = c.in_ok-write.ensures.uncounted ∙ before.puts;
    }
