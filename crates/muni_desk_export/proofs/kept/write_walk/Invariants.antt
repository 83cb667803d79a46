use Rattle.std.specs.Prelude.{IfSome}
use Rattle.muni_desk_export.specs.Walk.{left}
use Rattle.muni_desk_export.proofs.WalkLemmas.{Stays, Wrote}
use Rattle.muni_desk_export.proofs.kept.write_walk.Given as goal

-- the text so far is written, and it and what is left are the whole
abbrev pub invariant-pieces : goal.invariant-pieces
invariant-pieces g l = record {
  wrote : IfSome (g.K.Keeper.tables l.fn.keeper) (λ t. Wrote (g.O.Sink.bytes l.fn.output) (g.O.Sink.bytes l.output) (left t l.fn.walk) (left t l.walk));
  stays : Stays g.K.Keeper g.O.Sink l.fn.keeper l.keeper l.fn.output l.output;
}
