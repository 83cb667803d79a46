use Rattle.std.proofs.Common.{inl, arith, ◌∙◌, ◌-◌, length, min, vec_len, ap, refl, sym, [], ◌++◌}
use Rattle.std.proofs.lemmas.List.{append_assoc, append-nil}
use Rattle.muni_wire.specs.Extent.{piece_limit}
use Rattle.muni_wire.proofs.ExtentLemmas.{nothing, fewer, one-more, one-ready}
use Rattle.muni_wire.proofs.TakenLemmas.{both-taken, none-taken}
use Rattle.muni_wire.proofs.taking.fill.Goals as goal

pub loop-turn-init : goal.loop-turn-init
loop-turn-init g c = record {
  taken = ([], none-taken (g.L.Source.left c.args.link.now), sym (append-nil c.args.bytes.now.items));
  ready = inl refl;
  few = nothing (c.args.limit - length c.args.bytes.now.items) (g.L.Source.left c.args.link.now) (g.L.Source.left c.args.link.now) refl;
  each = omega arith;
  most = λ h. omega (arith, h);
  uncounted = refl;
  keeps_bytes = cc;
  keeps_puts = cc;
}

pub loop-turn-preserved : goal.loop-turn-preserved
loop-turn-preserved g c =
    let took = c.in_ok-take_more.ensures in
    let had = c.loop-turn.invariant.taken in
    record {
      taken = (
        had.0 ++ took.taken.0,
        both-taken (g.L.Source.left c.args.link.now) (g.L.Source.left c.loop-turn.link) (g.L.Source.left c.take_more.new.link) had.0 took.taken.0 (had.0 ++ took.taken.0) had.1 took.taken.1 refl,
        took.taken.2 ∙ ap (λ l. l ++ took.taken.0) had.2 ∙ append_assoc c.args.bytes.now.items had.0 took.taken.0,
      );
      few = one-more g.L.Source c.args.bytes.now.items c.loop-turn.bytes.items had.0 c.args.limit (min piece_limit (c.args.limit - vec_len c.loop-turn.bytes))
          c.args.link.now c.loop-turn.link c.take_more.new.link
          had.1 had.2 (omega arith) (omega arith) took.one;
      ready = one-ready g.L.Source c.args.bytes.now.items c.loop-turn.bytes.items had.0 c.args.limit (min piece_limit (c.args.limit - vec_len c.loop-turn.bytes))
          c.args.link.now c.loop-turn.link c.take_more.new.link
          had.1 had.2 (omega arith) (omega arith) took.one;
      each = omega (arith, took.count, c.if-branch-eq0.false);
      most = λ h. omega (arith, took.limit);
      uncounted = took.takes.tells.counts ∙ c.loop-turn.invariant.uncounted;
      keeps_bytes = took.takes.tells.only.keeps_bytes ∙ c.loop-turn.invariant.keeps_bytes;
      keeps_puts = took.takes.tells.only.keeps_puts ∙ c.loop-turn.invariant.keeps_puts;
    }

pub returns-in_err-take_more-clause-few : goal.returns-in_err-take_more-clause-few
returns-in_err-take_more-clause-few g c =
    let had = c.loop-turn.invariant.taken in
    fewer (c.args.limit - length c.args.bytes.now.items) (c.args.limit - vec_len c.args.bytes.now) (g.L.Source.left c.args.link.now) (g.L.Source.left c.take_more.new.link) (omega arith)
    (one-more g.L.Source c.args.bytes.now.items c.loop-turn.bytes.items had.0 c.args.limit (min piece_limit (c.args.limit - vec_len c.loop-turn.bytes))
    c.args.link.now c.loop-turn.link c.take_more.new.link
    had.1 had.2 (omega arith) (omega arith) c.take_more.ensures.one)

pub returns-then-branch-eq0-clause-few : goal.returns-then-branch-eq0-clause-few
returns-then-branch-eq0-clause-few g c =
    let had = c.loop-turn.invariant.taken in
    fewer (c.args.limit - length c.args.bytes.now.items) (c.args.limit - vec_len c.args.bytes.now) (g.L.Source.left c.args.link.now) (g.L.Source.left c.take_more.new.link) (omega arith)
    (one-more g.L.Source c.args.bytes.now.items c.loop-turn.bytes.items had.0 c.args.limit (min piece_limit (c.args.limit - vec_len c.loop-turn.bytes))
    c.args.link.now c.loop-turn.link c.take_more.new.link
    had.1 had.2 (omega arith) (omega arith) c.take_more.ensures.one)

pub returns-then-branch-eq0-clause-taken : goal.returns-then-branch-eq0-clause-taken
returns-then-branch-eq0-clause-taken g c =
    let took = c.in_ok-take_more.ensures.taken in
    let had = c.loop-turn.invariant.taken in (
      had.0 ++ took.0,
      both-taken (g.L.Source.left c.args.link.now) (g.L.Source.left c.loop-turn.link) (g.L.Source.left c.take_more.new.link) had.0 took.0 (had.0 ++ took.0) had.1 took.1 refl,
      took.2 ∙ ap (λ l. l ++ took.0) had.2 ∙ append_assoc c.args.bytes.now.items had.0 took.0,
    )

pub returns-in_err-take_more-clause-ready : goal.returns-in_err-take_more-clause-ready
returns-in_err-take_more-clause-ready g c =
    let had = c.loop-turn.invariant.taken in
    one-ready g.L.Source c.args.bytes.now.items c.loop-turn.bytes.items had.0 c.args.limit (min piece_limit (c.args.limit - vec_len c.loop-turn.bytes))
    c.args.link.now c.loop-turn.link c.take_more.new.link
    had.1 had.2 (omega arith) (omega arith) c.take_more.ensures.one

pub returns-then-branch-eq0-clause-ready : goal.returns-then-branch-eq0-clause-ready
returns-then-branch-eq0-clause-ready g c =
    let had = c.loop-turn.invariant.taken in
    one-ready g.L.Source c.args.bytes.now.items c.loop-turn.bytes.items had.0 c.args.limit (min piece_limit (c.args.limit - vec_len c.loop-turn.bytes))
    c.args.link.now c.loop-turn.link c.take_more.new.link
    had.1 had.2 (omega arith) (omega arith) c.take_more.ensures.one
