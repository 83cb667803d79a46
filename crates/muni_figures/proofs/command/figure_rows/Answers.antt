use Rattle.std.proofs.Common.{◌<◌, ◌+◌, ◌^◌, ◌++◌, ◌∙◌, Err, ap, refl, rules, subst, sym, arith}
use Rattle.std.specs.BTreeMap as tree
use Rattle.std.proofs.lemmas.Result.{err_from_is_err_and}
use Rattle.muni_answer.specs.Answers.{IsRightAnswer}
use Rattle.muni_keep.specs.Trades.{by_bytes}
use Rattle.muni_desk_io.proofs.TakenLemmas.{taken-then}
use Rattle.muni_figures.specs.Blocks.{IsLeft}
use Rattle.muni_figures.specs.Figured.{DidRows}
use Rattle.muni_figures.specs.declared.tally.Tally.{Tally}
use Rattle.muni_figures.specs.Line.{header}
use Rattle.muni_figures.specs.Said.{IsToldOf}
use Rattle.muni_figures.specs.Shares.{rows_of_shares}
use Rattle.muni_figures.proofs.FigureLemmas.{ended-by, failed-read, far-after, far-written, group-failed, header-fault, left-same, no-fault, none-found, only-puts, open-fault, open-next, so-far-no_memory, so-far-start}
use Rattle.muni_figures.proofs.command.figure_rows.Goals as goal

pub returns-in_err-write_header-clause-written : goal.returns-in_err-write_header-clause-written
returns-in_err-write_header-clause-written g c =
    let Answers = IsToldOf (IsRightAnswer (g.E.Encloser.ends c.args.calculator.now.encloser.now)) c.args.options.has_risk (g.K.Keeper.tables c.args.keeper.now) in
    let before = header c.args.options in
    let place = c.args.options.first in
    let left = g.I.Source.left in
    let bytes = g.O.Sink.bytes in
    let p = err_from_is_err_and c.from_residual.result c.from_residual.ensures.1 in
    rw (p.1, p.2, c.in_err-write_header.ensures.only)
    (header-fault Answers before place (left c.args.input.now) (left c.args.input.now) (bytes c.args.output.now) (bytes c.write_header.new.output) c.in_err-write_header.ensures.part)

pub returns-in_err-blocks-clause-written : goal.returns-in_err-blocks-clause-written
returns-in_err-blocks-clause-written g c =
    let Answers = IsToldOf (IsRightAnswer (g.E.Encloser.ends c.args.calculator.now.encloser.now)) c.args.options.has_risk (g.K.Keeper.tables c.args.keeper.now) in
    let before = header c.args.options in
    let place = c.args.options.first in
    let left = g.I.Source.left in
    let bytes = g.O.Sink.bytes in
    let p = err_from_is_err_and c.from_residual-in_err-blocks.result c.from_residual-in_err-blocks.ensures.1 in
    rw (p.1, p.2)
    (open-fault g.I.Source Answers before place c.in_err-blocks.field-0.0 c.args.input.now c.open.new.input (bytes c.args.output.now) (bytes c.write_header.new.output) c.in_err-blocks.ensures c.in_ok-write_header.ensures.written)

pub returns-in_err-shares-clause-written : goal.returns-in_err-shares-clause-written
returns-in_err-shares-clause-written g c =
    let Answers = IsToldOf (IsRightAnswer (g.E.Encloser.ends c.args.calculator.now.encloser.now)) c.args.options.has_risk (g.K.Keeper.tables c.args.keeper.now) in
    let before = header c.args.options in
    let place = c.args.options.first in
    let left = g.I.Source.left in
    let bytes = g.O.Sink.bytes in
    let p = err_from_is_err_and c.from_residual-in_err-shares.result c.from_residual-in_err-shares.ensures.1 in
    rw (p.1, p.2)
    (so-far-no_memory Answers before place c.groups.so_far.tally c.groups.blocks.reading c.groups.blocks.held.items (left c.args.input.now) (left c.groups.input) (left c.take_group.new.input) (bytes c.args.output.now) (bytes c.groups.output) c.groups.invariant.far)

pub returns-in_err-shares-clause-takes : goal.returns-in_err-shares-clause-takes
returns-in_err-shares-clause-takes g c =
    let left = g.I.Source.left in
    let far = c.groups.invariant.far in
    let more = c.in_err-shares.ensures.refused in
    (far.came ++ more.0, taken-then (left c.args.input.now) (left c.groups.input) (left c.take_group.new.input) far.came more.0 (far.came ++ more.0) far.taken more.1 refl)

pub returns-in_err-tally-clause-written : goal.returns-in_err-tally-clause-written
returns-in_err-tally-clause-written g c =
    let Prices = IsRightAnswer (g.E.Encloser.ends c.args.calculator.now.encloser.now) in
    let Answers = IsToldOf (IsRightAnswer (g.E.Encloser.ends c.args.calculator.now.encloser.now)) c.args.options.has_risk (g.K.Keeper.tables c.args.keeper.now) in
    let before = header c.args.options in
    let place = c.args.options.first in
    let left = g.I.Source.left in
    let bytes = g.O.Sink.bytes in
    let was = c.groups.invariant in
    let group = c.in_ok-shares.ensures.group in
    let shares = c.in_ok-shares.shares.items in
    let p = err_from_is_err_and c.from_residual-in_err-tally.result c.from_residual-in_err-tally.ensures.1 in
    rw (p.1, p.2)
    (group-failed g.I.Source Answers before place c.groups.so_far.tally c.in_err-tally.field-0.0 c.groups.blocks c.take_group.new.blocks shares c.args.input.now c.groups.input c.take_group.new.input
    (bytes c.args.output.now) (bytes c.groups.output) (bytes c.do_group.new.output) was.far group
    (subst (λ told. DidRows (IsToldOf Prices c.args.options.has_risk told) place (rows_of_shares shares) c.groups.so_far.tally (Err c.in_err-tally.field-0.0) (bytes c.groups.output) (bytes c.do_group.new.output)) was.tables
    (subst (λ shares. DidRows (IsToldOf Prices c.args.options.has_risk (g.K.Keeper.tables c.groups.keeper)) place (rows_of_shares shares) c.groups.so_far.tally (Err c.in_err-tally.field-0.0) (bytes c.groups.output) (bytes c.do_group.new.output)) c.deref_mut.ensures.value c.in_err-tally.ensures.did)))

pub returns-in_err-tally-clause-takes : goal.returns-in_err-tally-clause-takes
returns-in_err-tally-clause-takes g c =
    let Answers = IsToldOf (IsRightAnswer (g.E.Encloser.ends c.args.calculator.now.encloser.now)) c.args.options.has_risk (g.K.Keeper.tables c.args.keeper.now) in
    let before = header c.args.options in
    let place = c.args.options.first in
    let left = g.I.Source.left in
    let bytes = g.O.Sink.bytes in
    let was = c.groups.invariant in
    let group = c.in_ok-shares.ensures.group in
    let shares = c.in_ok-shares.shares.items in
    let come = far-after g.I.Source Answers before place c.groups.so_far.tally c.groups.blocks c.take_group.new.blocks shares c.args.input.now c.groups.input c.take_group.new.input (bytes c.args.output.now) (bytes c.groups.output) was.far group in
    (come.came, come.taken)

pub returns-in-Ended-clause-written : goal.returns-in-Ended-clause-written
returns-in-Ended-clause-written g c =
    let Answers = IsToldOf (IsRightAnswer (g.E.Encloser.ends c.args.calculator.now.encloser.now)) c.args.options.has_risk (g.K.Keeper.tables c.args.keeper.now) in
    let before = header c.args.options in
    let place = c.args.options.first in
    let left = g.I.Source.left in
    let bytes = g.O.Sink.bytes in
    let was = c.groups.invariant in
    let group = c.in_ok-shares.ensures.group in
    let shares = c.in_ok-shares.shares.items in
    let come = far-after g.I.Source Answers before place c.groups.so_far.tally c.groups.blocks c.take_group.new.blocks shares c.args.input.now c.groups.input c.take_group.new.input (bytes c.args.output.now) (bytes c.groups.output) was.far group in
    let wrote = far-written Answers before place c.groups.so_far.tally c.in_ok-tally.tally c.groups.blocks.reading c.groups.blocks.held.items (rows_of_shares shares) (left c.args.input.now) (left c.groups.input) (bytes c.args.output.now) (bytes c.groups.output) (bytes c.do_group.new.output) was.far (rw (was.tables, c.deref_mut.ensures.value) at c.in_ok-tally.ensures.did) in
    let rows = was.far.rows ++ rows_of_shares shares in
    ended-by g.I.Source Answers before place c.in_ok-tally.tally c.take_group.new.blocks rows c.args.input.now c.take_group.new.input (bytes c.args.output.now) (bytes c.do_group.new.output) (bytes c.write_total.new.output)
    c.write_total.result c.in-Ended.is come wrote c.write_total.ensures.written c.write_total.ensures.part c.write_total.ensures.only

pub returns-in-Ended-clause-takes : goal.returns-in-Ended-clause-takes
returns-in-Ended-clause-takes g c =
    let Answers = IsToldOf (IsRightAnswer (g.E.Encloser.ends c.args.calculator.now.encloser.now)) c.args.options.has_risk (g.K.Keeper.tables c.args.keeper.now) in
    let before = header c.args.options in
    let place = c.args.options.first in
    let left = g.I.Source.left in
    let bytes = g.O.Sink.bytes in
    let was = c.groups.invariant in
    let group = c.in_ok-shares.ensures.group in
    let shares = c.in_ok-shares.shares.items in
    let come = far-after g.I.Source Answers before place c.groups.so_far.tally c.groups.blocks c.take_group.new.blocks shares c.args.input.now c.groups.input c.take_group.new.input (bytes c.args.output.now) (bytes c.groups.output) was.far group in
    (come.came, come.taken)

pub returns-in-Failed-clause-written : goal.returns-in-Failed-clause-written
returns-in-Failed-clause-written g c =
    let Answers = IsToldOf (IsRightAnswer (g.E.Encloser.ends c.args.calculator.now.encloser.now)) c.args.options.has_risk (g.K.Keeper.tables c.args.keeper.now) in
    let before = header c.args.options in
    let place = c.args.options.first in
    let left = g.I.Source.left in
    let bytes = g.O.Sink.bytes in
    let was = c.groups.invariant in
    let group = c.in_ok-shares.ensures.group in
    let shares = c.in_ok-shares.shares.items in
    let come = far-after g.I.Source Answers before place c.groups.so_far.tally c.groups.blocks c.take_group.new.blocks shares c.args.input.now c.groups.input c.take_group.new.input (bytes c.args.output.now) (bytes c.groups.output) was.far group in
    let wrote = far-written Answers before place c.groups.so_far.tally c.in_ok-tally.tally c.groups.blocks.reading c.groups.blocks.held.items (rows_of_shares shares) (left c.args.input.now) (left c.groups.input) (bytes c.args.output.now) (bytes c.groups.output) (bytes c.do_group.new.output) was.far (rw (was.tables, c.deref_mut.ensures.value) at c.in_ok-tally.ensures.did) in
    let rows = was.far.rows ++ rows_of_shares shares in
    failed-read g.I.Source Answers before place c.in_ok-tally.tally c.take_group.new.blocks rows c.args.input.now c.take_group.new.input (bytes c.args.output.now) (bytes c.do_group.new.output) c.in-Failed.is come wrote

pub returns-in-Failed-clause-takes : goal.returns-in-Failed-clause-takes
returns-in-Failed-clause-takes g c =
    let Answers = IsToldOf (IsRightAnswer (g.E.Encloser.ends c.args.calculator.now.encloser.now)) c.args.options.has_risk (g.K.Keeper.tables c.args.keeper.now) in
    let before = header c.args.options in
    let place = c.args.options.first in
    let left = g.I.Source.left in
    let bytes = g.O.Sink.bytes in
    let was = c.groups.invariant in
    let group = c.in_ok-shares.ensures.group in
    let shares = c.in_ok-shares.shares.items in
    let come = far-after g.I.Source Answers before place c.groups.so_far.tally c.groups.blocks c.take_group.new.blocks shares c.args.input.now c.groups.input c.take_group.new.input (bytes c.args.output.now) (bytes c.groups.output) was.far group in
    (come.came, come.taken)

pub returns-clause-written : goal.returns-clause-written
returns-clause-written g c =
    let Answers = IsToldOf (IsRightAnswer (g.E.Encloser.ends c.args.calculator.now.encloser.now)) c.args.options.has_risk (g.K.Keeper.tables c.args.keeper.now) in
    let before = header c.args.options in
    let place = c.args.options.first in
    let left = g.I.Source.left in
    let bytes = g.O.Sink.bytes in
    so-far-no_memory Answers before place c.groups.so_far.tally c.groups.blocks.reading c.groups.blocks.held.items (left c.args.input.now) (left c.groups.input) (left c.groups.input) (bytes c.args.output.now) (bytes c.groups.output) c.groups.invariant.far

pub groups-init : goal.groups-init
groups-init g c =
    let Answers = IsToldOf (IsRightAnswer (g.E.Encloser.ends c.args.calculator.now.encloser.now)) c.args.options.has_risk (g.K.Keeper.tables c.args.keeper.now) in
    let before = header c.args.options in
    let place = c.args.options.first in
    let left = g.I.Source.left in
    let bytes = g.O.Sink.bytes in
    let opened = c.in_ok-blocks.ensures in
    let reading = c.in_ok-blocks.blocks.reading in
    let none = c.new-2.ensures.value in
    let room : place + c.new-2.result.rows < 2 ^ 64 = omega (arith, ap (λ (t : Tally). t.rows) none) in
    record {
      far = rw none
          (so-far-start Answers before place reading c.in_ok-blocks.blocks.held.items opened.came (left c.args.input.now) (left c.open.new.input) (bytes c.args.output.now) (bytes c.write_header.new.output) opened.taken opened.held opened.enough
          (λ ended. (subst (λ r. IsLeft g.I.Source r c.args.input.now c.open.new.input) ended opened.left).0) opened.whole c.in_ok-write_header.ensures.written);
      few = opened.few;
      small = c.new-2.ensures.small;
      room = room;
      found = none-found (g.K.Keeper.tables c.args.keeper.now) (tree.get by_bytes c.new.result) (λ cusip. search rules);
      tables = refl;
      later = omega arith;
      lent_as = refl;
      takes = left-same g.I.Source reading c.args.input.now c.open.new.input opened.whole opened.left;
      puts = c.in_ok-write_header.ensures.uncounted;
    }

pub groups-preserved : goal.groups-preserved
groups-preserved g c =
    let Answers = IsToldOf (IsRightAnswer (g.E.Encloser.ends c.args.calculator.now.encloser.now)) c.args.options.has_risk (g.K.Keeper.tables c.args.keeper.now) in
    let before = header c.args.options in
    let place = c.args.options.first in
    let left = g.I.Source.left in
    let bytes = g.O.Sink.bytes in
    let was = c.groups.invariant in
    let group = c.in_ok-shares.ensures.group in
    let shares = c.in_ok-shares.shares.items in
    let come = far-after g.I.Source Answers before place c.groups.so_far.tally c.groups.blocks c.take_group.new.blocks shares c.args.input.now c.groups.input c.take_group.new.input (bytes c.args.output.now) (bytes c.groups.output) was.far group in
    let wrote = far-written Answers before place c.groups.so_far.tally c.in_ok-tally.tally c.groups.blocks.reading c.groups.blocks.held.items (rows_of_shares shares) (left c.args.input.now) (left c.groups.input) (bytes c.args.output.now) (bytes c.groups.output) (bytes c.do_group.new.output) was.far (rw (was.tables, c.deref_mut.ensures.value) at c.in_ok-tally.ensures.did) in
    let rows = was.far.rows ++ rows_of_shares shares in
    let did = c.in_ok-tally.ensures in
    record {
      far = open-next g.I.Source Answers before place c.in_ok-tally.tally c.take_group.new.blocks rows c.args.input.now c.take_group.new.input (bytes c.args.output.now) (bytes c.do_group.new.output) c.in-Open.is come wrote;
      few = group.few;
      small = did.small;
      room = did.room;
      found = rw was.tables at did.found;
      tables = did.unchanged ∙ was.tables;
      later = omega (arith, did.same.later, was.later);
      lent_as = did.same.lent_as ∙ was.lent_as;
      takes = no-fault g.I.Source c.groups.blocks c.take_group.new.blocks shares c.args.input.now c.groups.input c.take_group.new.input was.takes group (λ failed. cc (sym failed ∙ c.in-Open.is));
      puts = only-puts (g.O.Sink.faults c.groups.output) (g.O.Sink.faults c.do_group.new.output) c.in_ok-tally.tally did.writes ∙ was.puts;
    }
