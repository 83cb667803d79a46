use Rattle.std.proofs.Common.{◌≡◌, ◌≤◌, ◌⊎◌, Some, IfSome, Ok, Err, is_some}
use Rattle.muni_desk_serve.specs.Rules.{serving_rules}
use Rattle.muni_desk_serve.specs.Serves.{traffic}
use Rattle.muni_desk_serve.specs.declared.fault.ServeFault.TheVariants as fault
use Rattle.muni_desk_serve.proofs.ConnectionLemmas.{IsOn}
use Rattle.muni_desk_serve.proofs.connections.serve_links.Given as goal

abbrev pub invariant-loop-count : goal.invariant-loop-count
invariant-loop-count g l = record {
  run : IfSome (g.D.Door.state l.fn.door) (λ d. IsOn (serving_rules l.fn.book.limit (g.E.Encloser.ends l.fn.book.calculator.now.encloser.now))
      (traffic g.D.L.Source.left g.D.L.Sink.bytes g.D.L.Source.faults g.D.L.Sink.faults) l.port l._count d (g.D.Door.state l.door)
      (g.K.Keeper.tables l.fn.keeper) (g.K.Keeper.tables l.keeper) (g.K.Keeper.faults l.fn.keeper) (g.K.Keeper.faults l.keeper) l.end);
  no_fault : (l.end ≡ (Ok tt)) ⊎ (l.end ≡ (Err fault.NoMemory));
  port : IfSome (g.D.Door.state l.door) (λ d. d.port ≡ Some l.port);
  tells : is_some (g.K.Keeper.tables l.keeper) ≡ is_some (g.K.Keeper.tables l.fn.keeper);
  later : g.K.Keeper.faults l.fn.keeper ≤ g.K.Keeper.faults l.keeper;
  lent_as : g.K.Keeper.lent_as l.keeper ≡ g.K.Keeper.lent_as l.fn.keeper;
  door_later : g.D.Door.faults l.fn.door ≤ g.D.Door.faults l.door;
}
