use Rattle.std.proofs.Common.{inr}
use Rattle.muni_desk_export.proofs.VersionLemmas.{not-told}
use Rattle.muni_desk_export.proofs.versions.version_of.Goals as goal

pub returns-in-None-clause-looks : goal.returns-in-None-clause-looks
returns-in-None-clause-looks g c = record {
  unchanged = c.version.ensures.reads.unchanged;
  later = c.version.ensures.reads.later;
  failed = λ _. inr (not-told (g.K.Keeper.tables c.args.keeper.now) c.args.key.now c.args.number c.requires.kept (rw c.in-None.is at c.in_ok-version.ensures.found));
  lent_as = c.version.ensures.reads.lent_as;
}
