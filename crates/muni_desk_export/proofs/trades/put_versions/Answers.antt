use Rattle.std.proofs.Common.{◌≤◌, ◌+◌, ◌++◌, Some, ◌≡◌, subst, ◌∙◌, arith}
use Rattle.std.specs.Prelude.{IfSome}
use Rattle.muni_keep.specs.Tables.{version_at}
use Rattle.muni_desk_export.specs.Trades.{version_text}
use Rattle.muni_desk_export.proofs.ToldLemmas.{told-all}
use Rattle.muni_desk_export.proofs.VersionLemmas.{told-rows}
use Rattle.muni_desk_export.proofs.trades.put_versions.Goals as goal

pub loop-number-preserved : goal.loop-number-preserved
loop-number-preserved g c =
    let told = g.K.Keeper.tables c.args.keeper.now in
    let before = c.loop-number.invariant in
    let looks = c.version_of.ensures.looks in
    let found = subst (λ told. IfSome told (λ t. version_at t c.args.key.now c.loop-number.number ≡ Some c.in_ok-version.version)) before.tables c.in_ok-version.ensures.found in
    let reads = c.put_version.ensures.reads in
    let row = subst (λ told. IfSome told (λ t. c.put_version.new.rows ≡ c.loop-number.rows ++ version_text t c.args.key.now c.loop-number.number c.in_ok-version.version))
    (looks.unchanged ∙ before.tables) c.in_ok-put_version.ensures.row in
    record {
      left = told-rows told c.args.key.now c.loop-number.number c.in_ok-version.version c.loop-number.rows c.put_version.new.rows c.args.rows.now before.first found row before.left;
      first = omega (arith, before.first);
      most = told-all told (λ t. c.loop-number.number + 1 ≤ c.args.line.now.number) (λ t. omega (arith, c.loop-number-test.true));
      tables = reads.unchanged ∙ looks.unchanged ∙ before.tables;
      later = omega (arith, before.later, looks.later, reads.later);
      lent_as = reads.lent_as ∙ looks.lent_as ∙ before.lent_as;
    }
