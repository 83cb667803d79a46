use Rattle.std.proofs.Common.{◌≡◌, ◌≤◌, ◌+◌, Some, subst, sym, ◌∙◌, arith}
use Rattle.std.specs.Prelude.{IfSome, IsSome}
use Rattle.muni_keep.specs.Tables.{issue_numbered}
use Rattle.muni_desk_export.proofs.TermsLemmas.{told-before, told-last-terms, told-terms}
use Rattle.muni_desk_export.proofs.ToldLemmas.{told-all}
use Rattle.muni_desk_export.proofs.issues.put_terms.Goals as goal

pub terms_with-requires : goal.terms_with-requires
terms_with-requires g c = record {
  kept = subst (λ told. IfSome told (λ t. IsSome (issue_numbered t c.args.cusip.now c.loop-number.number))) (sym c.loop-number.invariant.tables)
      (told-before (g.K.Keeper.tables c.args.keeper.now) c.args.cusip.now c.in_ok-last.last c.loop-number.number c.in_ok-last.ensures.found c.loop-number.invariant.first (omega (arith, c.loop-number-test.true)));
}

pub loop-number-preserved : goal.loop-number-preserved
loop-number-preserved g c =
    let told = g.K.Keeper.tables c.args.keeper.now in
    let cusip = c.args.cusip.now in
    let before = c.loop-number.invariant in
    let looks = c.terms_with.ensures.looks in
    let found = subst (λ told. IfSome told (λ t. issue_numbered t cusip c.loop-number.number ≡ Some c.in_ok-issue.issue)) before.tables c.in_ok-issue.ensures.found in
    record {
      left = told-terms told cusip c.loop-number.number c.in_ok-issue.issue c.loop-number.rows c.issue.new.self c.args.rows.now before.first found c.in_ok-issue-2.ensures before.left;
      first = omega (arith, before.first);
      most = told-all told (λ t. c.loop-number.number + 1 ≤ c.in_ok-last.last.0) (λ t. omega (arith, c.loop-number-test.true));
      tables = looks.unchanged ∙ before.tables;
      later = omega (arith, before.later, looks.later);
      lent_as = looks.lent_as ∙ before.lent_as;
    }

pub returns-clause-rows : goal.returns-clause-rows
returns-clause-rows g c =
    told-last-terms (g.K.Keeper.tables c.args.keeper.now) c.args.cusip.now c.in_ok-last.last c.loop-number.number c.loop-number.rows c.issue-2.new.self c.args.rows.now
    c.loop-number.invariant.most (omega (arith, c.loop-number-test.false)) c.in_ok-last.ensures.found c.in_ok-issue-3.ensures c.loop-number.invariant.left
