use Rattle.std.proofs.Common.{inr}
use Rattle.muni_desk_export.proofs.TermsLemmas.{last-not-told}
use Rattle.muni_desk_export.proofs.issues.last_terms.Goals as goal

pub returns-in-None-clause-looks : goal.returns-in-None-clause-looks
returns-in-None-clause-looks g c = record {
  unchanged = c.last_issue.ensures.reads.unchanged;
  later = c.last_issue.ensures.reads.later;
  failed = λ _. inr (last-not-told (g.K.Keeper.tables c.args.keeper.now) c.args.cusip.now c.requires.kept (rw c.in-None.is at c.in_ok-last.ensures.found));
  lent_as = c.last_issue.ensures.reads.lent_as;
}
