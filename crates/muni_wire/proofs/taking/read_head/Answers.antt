use Rattle.std.proofs.Common.{take, ◌++◌, arith, ◌≡◌, ◌-◌, ◌∙◌, [], ap, refl, sym, subst, length, min, vec_len}
use Rattle.std.proofs.Math.Seq.{take-append_seam}
use Rattle.std.specs.Io.KnownBytes.{Consumes}
use Rattle.httparse.specs.Grammar.{HasNoRequest}
use Rattle.muni_wire.specs.Extent.{piece_limit}
use Rattle.muni_wire.specs.Head.{head_limit}
use Rattle.muni_wire.specs.Taken.{has_text}
use Rattle.muni_wire.proofs.ExtentLemmas.{for-head}
use Rattle.muni_wire.proofs.HeadLemmas.{head-said}
use Rattle.muni_wire.proofs.LineLemmas.{nothing-yet}
use Rattle.muni_wire.proofs.TakenLemmas.{both-taken, none-taken}
use Rattle.muni_wire.proofs.taking.read_head.Goals as goal

pub loop-turn-init : goal.loop-turn-init
loop-turn-init g c =
    let left = g.L.Source.left c.args.link.now in
    let empty : c.new-bytes.result.items ≡ [] = c.new-bytes.ensures.items in
    record {
      taken = subst (λ l. Consumes left left l) (sym empty) (none-taken left);
      each = omega arith;
      room = omega (arith, ap length empty);
      begun = sym (ap has_text empty);
      none = subst HasNoRequest (sym empty) nothing-yet;
      uncounted = refl;
      keeps_bytes = refl;
      keeps_puts = refl;
    }

pub loop-turn-preserved : goal.loop-turn-preserved
loop-turn-preserved g c =
    let had = c.loop-turn.invariant in
    let took = c.in_ok-count.ensures in
    let seen = rw c.deref.ensures.value at c.look_behind_lines-head.ensures in
    let still = c.is_settled.ensures.open c.if-is_settled.false in
    record {
      taken = both-taken (g.L.Source.left c.args.link.now) (g.L.Source.left c.loop-turn.link) (g.L.Source.left c.take_more.new.link)
          c.loop-turn.bytes.items took.taken.0 c.take_more.new.bytes.items had.taken took.taken.1 took.taken.2;
      each = omega (arith, had.each, took.count, still.1);
      room = (seen.awaited still.0).1;
      begun = seen.begun;
      none = (seen.awaited still.0).0;
      uncounted = took.takes.tells.counts ∙ had.uncounted;
      keeps_bytes = took.takes.tells.only.keeps_bytes ∙ had.keeps_bytes;
      keeps_puts = took.takes.tells.only.keeps_puts ∙ had.keeps_puts;
    }

pub look_behind_lines-head-requires-clause-before : goal.look_behind_lines-head-requires-clause-before
look_behind_lines-head-requires-clause-before g c =
    let had = c.loop-turn.invariant in
    let took = c.in_ok-count.ensures in
    let place : length c.take_more.new.bytes.items - c.in_ok-count.count ≡ length c.loop-turn.bytes.items = omega (arith, took.count) in
    let before : take (length c.take_more.new.bytes.items - c.in_ok-count.count) c.take_more.new.bytes.items ≡ c.loop-turn.bytes.items =
    ap (λ l. take (length c.take_more.new.bytes.items - c.in_ok-count.count) l) took.taken.2
    ∙ ap (λ n. take n (c.loop-turn.bytes.items ++ took.taken.0)) place
    ∙ take-append_seam c.loop-turn.bytes.items took.taken.0 in
    rw c.deref.ensures.value (record { begun = had.begun ∙ ap has_text (sym before); none = subst HasNoRequest (sym before) had.none })

pub returns-in_err-count-clause-no_further : goal.returns-in_err-count-clause-no_further
returns-in_err-count-clause-no_further g c =
    let count = min piece_limit (head_limit - vec_len c.loop-turn.bytes) in
    for-head g.L.Source c.loop-turn.bytes.items count c.args.link.now c.loop-turn.link c.take_more.new.link
    c.loop-turn.invariant.taken c.loop-turn.invariant.none (omega arith) (omega arith) (omega arith) c.take_more.ensures.one

pub returns-then-is_settled-clause-taken : goal.returns-then-is_settled-clause-taken
returns-then-is_settled-clause-taken g c =
    let took = c.in_ok-count.ensures.taken in
    both-taken (g.L.Source.left c.args.link.now) (g.L.Source.left c.loop-turn.link) (g.L.Source.left c.take_more.new.link)
    c.loop-turn.bytes.items took.0 c.take_more.new.bytes.items c.loop-turn.invariant.taken took.1 took.2

pub returns-then-is_settled-clause-no_further : goal.returns-then-is_settled-clause-no_further
returns-then-is_settled-clause-no_further g c =
    let count = min piece_limit (head_limit - vec_len c.loop-turn.bytes) in
    for-head g.L.Source c.loop-turn.bytes.items count c.args.link.now c.loop-turn.link c.take_more.new.link
    c.loop-turn.invariant.taken c.loop-turn.invariant.none (omega arith) (omega arith) (omega arith) c.take_more.ensures.one

pub returns-then-is_settled-clause-head : goal.returns-then-is_settled-clause-head
returns-then-is_settled-clause-head g c =
    let seen = rw c.deref.ensures.value at c.look_behind_lines-head.ensures in
    head-said c.look_behind_lines-head.result c.take_more.new.bytes.items (g.L.Source.left c.take_more.new.link) seen.seen
    (λ e. let none = c.is_settled.ensures.settled c.if-is_settled.true e in (seen.last e none, c.in_ok-count.ensures.end none))
