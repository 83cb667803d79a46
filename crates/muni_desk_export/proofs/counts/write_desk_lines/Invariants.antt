use Rattle.std.specs.Prelude.{IfSome, None}
use Rattle.muni_desk_export.specs.Counts.{desk_lines_after}
use Rattle.muni_desk_export.proofs.WalkLemmas.{Stays, Wrote}
use Rattle.muni_desk_export.proofs.counts.write_desk_lines.Given as goal

-- the lines so far are written, and they and those that are left are the whole
abbrev pub invariant-desks : goal.invariant-desks
invariant-desks g l = record {
  wrote : IfSome (g.K.Keeper.tables l.fn.keeper) (λ t. Wrote (g.O.Sink.bytes l.fn.output) (g.O.Sink.bytes l.output) (desk_lines_after t None) (desk_lines_after t l.desk));
  stays : Stays g.K.Keeper g.O.Sink l.fn.keeper l.keeper l.fn.output l.output;
}
