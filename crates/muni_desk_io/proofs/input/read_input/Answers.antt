use Rattle.std.proofs.Common.{◌∙◌, Err, inl, ap, arith, rules}
use Rattle.std.proofs.lemmas.Result.{err_from_is_err_and}
use Rattle.muni_desk_io.proofs.TakenLemmas.{taken-then, taken-whole, none-read}
use Rattle.muni_desk_io.proofs.input.read_input.Goals as goal

pub returns-then-branch-eq0 : goal.returns-then-branch-eq0
returns-then-branch-eq0 g c =
    let took = c.in_ok-take_more.ensures.adds in
    let counts = c.in_ok-take_more.ensures.counts in
    let all = taken-then (g.I.Source.left c.args.source.now) (g.I.Source.left c.loop-turn.source) (g.I.Source.left c.take_more.new.source) c.loop-turn.bytes.items took.piece c.take_more.new.bytes.items c.loop-turn.invariant.taken took.taken took.added in
    record {
      whole = taken-whole (g.I.Source.left c.args.source.now) (g.I.Source.left c.take_more.new.source) c.take_more.new.bytes.items all (took.end c.if-branch-eq0.true);
      few = search rules;
      too_large = search rules;
      limited = (c.take_more.new.bytes.items, all, omega (arith, took.few));
      later = omega (arith, counts, c.loop-turn.invariant.faults);
      failed = λ never. absurd (cc never);
      uncounted = inl (counts ∙ c.loop-turn.invariant.faults);
    }

pub loop-turn-preserved : goal.loop-turn-preserved
loop-turn-preserved g c =
    let took = c.in_ok-take_more.ensures.adds in
    record {
      taken = taken-then (g.I.Source.left c.args.source.now) (g.I.Source.left c.loop-turn.source) (g.I.Source.left c.take_more.new.source) c.loop-turn.bytes.items took.piece c.take_more.new.bytes.items c.loop-turn.invariant.taken took.taken took.added;
      each = omega (arith, took.counted, c.if-branch-eq0.false);
      most = omega (arith, took.few);
      faults = c.in_ok-take_more.ensures.counts ∙ c.loop-turn.invariant.faults;
    }

pub returns-in_err-take_more : goal.returns-in_err-take_more
returns-in_err-take_more g c =
    let p = err_from_is_err_and c.from_residual.result c.from_residual.ensures.1 in
    let took = c.take_more.ensures in
    none-read g.I.Source c.args.limit (λ bytes. bytes.items) c.take_more.result c.in_err-take_more.field-0.0 c.from_residual.result c.args.source.now c.loop-turn.source c.take_more.new.source
    c.loop-turn.bytes.items took.limited.0 c.in_err-take_more.was (p.1 ∙ ap Err p.2) took.others c.loop-turn.invariant.taken c.loop-turn.invariant.faults
    took.limited.1 (omega (arith, took.limited.2, c.loop-turn.invariant.most)) took.counts took.later
