use Rattle.std.proofs.Common.{inr}
use Rattle.muni_desk_export.proofs.TermsLemmas.{terms-not-told}
use Rattle.muni_desk_export.proofs.issues.terms_with.Goals as goal

pub returns-in-None-clause-looks : goal.returns-in-None-clause-looks
returns-in-None-clause-looks g c = record {
  unchanged = c.issue_numbered.ensures.reads.unchanged;
  later = c.issue_numbered.ensures.reads.later;
  failed = λ _. inr (terms-not-told (g.K.Keeper.tables c.args.keeper.now) c.args.cusip.now c.args.number c.requires.kept (rw c.in-None.is at c.in_ok-issue.ensures.found));
  lent_as = c.issue_numbered.ensures.reads.lent_as;
}
