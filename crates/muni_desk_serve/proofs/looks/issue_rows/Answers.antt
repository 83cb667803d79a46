use Rattle.std.proofs.Common.{◌≡◌, ◌≤◌, ◌+◌, Some, None, [], subst, sym, ◌∙◌, arith}
use Rattle.std.specs.Prelude.{IfSome}
use Rattle.muni_keep.specs.Tables.{last_issue, issue_numbered}
use Rattle.muni_desk_export.specs.Issues.{rows_at}
use Rattle.muni_desk_export.proofs.TermsLemmas.{told-before, terms-not-told, told-terms, told-last-terms}
use Rattle.muni_desk_serve.specs.Look.{kept_rows}
use Rattle.muni_desk_serve.proofs.LookLemmas.{told-is, told-all, all-rows, unless-told}
use Rattle.muni_desk_serve.proofs.looks.issue_rows.Goals as goal

pub returns-in_default-2-clause-rows : goal.returns-in_default-2-clause-rows
returns-in_default-2-clause-rows g c =
    let told = g.K.Keeper.tables c.args.keeper.now in
    let cusip = c.args.cusip.now in
    let number = c.loop-number.number in
    let last = told-is told (λ t. last_issue t cusip) c.in_ok-last.field-0 (Some c.in-Some.last) c.in_ok-last.ensures.found c.in-Some.is in
    let kept = told-before told cusip c.in-Some.last number last c.loop-number.invariant.first (omega (arith, c.loop-number-test.true)) in
    let found = subst (λ told. IfSome told (λ t. c.in_ok-issue.field-0 ≡ issue_numbered t cusip number)) c.loop-number.invariant.tables c.in_ok-issue.ensures.found in
    let none = subst (λ found. IfSome told (λ t. found ≡ issue_numbered t cusip number)) c.in_default-2.is found in
    unless-told told (λ t. None ≡ kept_rows t cusip) (terms-not-told told cusip number kept none)

pub loop-number-preserved : goal.loop-number-preserved
loop-number-preserved g c =
    let told = g.K.Keeper.tables c.args.keeper.now in
    let cusip = c.args.cusip.now in
    let number = c.loop-number.number in
    let before = c.loop-number.invariant in
    let reads = c.issue_numbered.ensures.reads in
    let looked = subst (λ told. IfSome told (λ t. c.in_ok-issue.field-0 ≡ issue_numbered t cusip number)) before.tables c.in_ok-issue.ensures.found in
    let found = told-is told (λ t. issue_numbered t cusip number) c.in_ok-issue.field-0 (Some c.in-Some-2.issue) looked c.in-Some-2.is in
    record {
      left = told-terms told cusip number c.in-Some-2.issue c.loop-number.rows c.issue.new.self [] before.first found c.in_ok-issue-2.ensures before.left;
      first = omega (arith, before.first);
      most = told-all told (λ t. number + 1 ≤ c.in-Some.last.0) (λ t. omega (arith, c.loop-number-test.true));
      tables = reads.unchanged ∙ before.tables;
      later = omega (arith, before.later, reads.later);
      lent_as = reads.lent_as ∙ before.lent_as;
    }

pub returns-clause-rows : goal.returns-clause-rows
returns-clause-rows g c =
    let told = g.K.Keeper.tables c.args.keeper.now in
    let cusip = c.args.cusip.now in
    let last = told-is told (λ t. last_issue t cusip) c.in_ok-last.field-0 (Some c.in-Some.last) c.in_ok-last.ensures.found c.in-Some.is in
    let all = told-last-terms told cusip c.in-Some.last c.loop-number.number c.loop-number.rows c.issue-2.new.self [] c.loop-number.invariant.most (omega (arith, c.loop-number-test.false)) last c.in_ok-issue-3.ensures c.loop-number.invariant.left in
    all-rows told cusip c.in-Some.last c.in_ok-finish.field-0.items last
    (subst (λ rows. IfSome told (λ t. rows ≡ rows_at t cusip)) (sym c.in_ok-finish.ensures) all)
