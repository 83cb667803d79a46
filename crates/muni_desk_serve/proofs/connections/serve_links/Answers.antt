use Rattle.std.proofs.Common.{rules, arith, ◌≡◌, ◌∙◌, option_map, inl, refl}
use Rattle.muni_desk_serve.specs.Rules.{serving_rules}
use Rattle.muni_edge.specs.Door.{bound_to}
use Rattle.muni_desk_serve.specs.Serves.{traffic}
use Rattle.muni_desk_serve.proofs.ConnectionLemmas.{not-bound, first-on, next-on, goes-on, bound-port}
use Rattle.muni_desk_serve.proofs.connections.serve_links.Goals as goal

pub returns-then-is_err-clause-run : goal.returns-then-is_err-clause-run
returns-then-is_err-clause-run g c =
    let told = traffic g.D.L.Source.left g.D.L.Sink.bytes g.D.L.Source.faults g.D.L.Sink.faults in
    let same : g.D.Door.state c.bind.new.self ≡ g.D.Door.state c.args.door.now = search rules in
    not-bound (serving_rules c.args.book.now.limit (g.E.Encloser.ends c.args.book.now.calculator.now.encloser.now)) told c.args.port c.args.connections
    (g.D.Door.state c.args.door.now) (g.D.Door.state c.bind.new.self) (g.K.Keeper.tables c.args.keeper.now) (g.K.Keeper.faults c.args.keeper.now) same

pub loop-count-init : goal.loop-count-init
loop-count-init g c =
    let told = traffic g.D.L.Source.left g.D.L.Sink.bytes g.D.L.Source.faults g.D.L.Sink.faults in
    let bound : g.D.Door.state c.bind.new.self ≡ option_map (bound_to c.args.port) (g.D.Door.state c.args.door.now) = search rules in
    record {
      run = first-on (serving_rules c.args.book.now.limit (g.E.Encloser.ends c.args.book.now.calculator.now.encloser.now)) told c.args.port (g.D.Door.state c.args.door.now) (g.D.Door.state c.bind.new.self)
          (g.K.Keeper.tables c.args.keeper.now) (g.K.Keeper.faults c.args.keeper.now) bound;
      no_fault = inl refl;
      port = bound-port (g.D.Door.state c.args.door.now) (g.D.Door.state c.bind.new.self) c.args.port bound;
      tells = refl;
      later = omega arith;
      lent_as = refl;
      door_later = omega (arith, c.bind.ensures.counts.later);
    }

pub loop-count-preserved : goal.loop-count-preserved
loop-count-preserved g c =
    let told = traffic g.D.L.Source.left g.D.L.Sink.bytes g.D.L.Source.faults g.D.L.Sink.faults in
    let on = c.loop-count.invariant in
    let did = rw c.in-Ok-Some.field-0-is at c.in-Ok-Some.ensures in
    let served = c.in-Ok-Some.served in
    record {
      run = rw c.after-end.ensures
          (next-on (serving_rules c.args.book.now.limit (g.E.Encloser.ends c.args.book.now.calculator.now.encloser.now)) told c.args.port c.loop-count._count
          (g.D.Door.state c.args.door.now) (g.D.Door.state c.loop-count.door) (g.D.Door.state c.serve_next.new.door)
          (g.K.Keeper.tables c.args.keeper.now) (g.K.Keeper.tables c.loop-count.keeper) (g.K.Keeper.tables c.serve_next.new.keeper)
          (g.K.Keeper.faults c.args.keeper.now) (g.K.Keeper.faults c.loop-count.keeper) (g.K.Keeper.faults c.serve_next.new.keeper)
          c.loop-count.end served on.run did.next);
      no_fault = rw c.after-end.ensures (goes-on c.loop-count.end served on.no_fault);
      port = did.port c.args.port on.port;
      tells = did.keeps.tells ∙ on.tells;
      later = omega (arith, on.later, did.keeps.later);
      lent_as = did.keeps.lent_as ∙ on.lent_as;
      door_later = omega (arith, on.door_later, did.keeps.door_later);
    }
