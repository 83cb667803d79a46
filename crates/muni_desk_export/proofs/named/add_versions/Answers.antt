use Rattle.std.proofs.Common.{◌≤◌, ◌+◌, Some, ◌≡◌, subst, ◌∙◌, arith}
use Rattle.std.specs.Prelude.{IfSome, ◌||◌}
use Rattle.std.specs.List.{list_any}
use Rattle.muni_keep.specs.Tables.{version_at}
use Rattle.muni_desk_export.specs.Named.{has, is_of}
use Rattle.muni_desk_export.specs.Trades.{versions_at}
use Rattle.muni_desk_export.proofs.NamedLemmas.{version-named, last-named}
use Rattle.muni_desk_export.proofs.ToldLemmas.{told-all}
use Rattle.muni_desk_export.proofs.named.add_versions.Goals as goal

pub loop-number-preserved : goal.loop-number-preserved
loop-number-preserved g c =
    let told = g.K.Keeper.tables c.args.keeper.now in
    let key = c.args.key.now in
    let before = c.loop-number.invariant in
    let looks = c.version_of.ensures.looks in
    let found = subst (λ told. IfSome told (λ t. version_at t key c.loop-number.number ≡ Some c.in_ok-version.version)) before.tables c.in_ok-version.ensures.found in
    record {
      left = version-named told key c.args.line.now c.loop-number.number c.in_ok-version.version (has c.loop-number.named) (has c.add.new.named)
          (λ t cusip. list_any (is_of cusip) (versions_at t key) || has c.args.named.now cusip)
          before.first c.requires found c.in_ok-add.ensures before.left;
      first = omega (arith, before.first);
      most = told-all told (λ t. c.loop-number.number + 1 ≤ c.args.line.now.number) (λ t. omega (arith, c.loop-number-test.true));
      tables = looks.unchanged ∙ before.tables;
      later = omega (arith, before.later, looks.later);
      lent_as = looks.lent_as ∙ before.lent_as;
    }

pub returns-clause-added : goal.returns-clause-added
returns-clause-added g c =
    let key = c.args.key.now in
    last-named (g.K.Keeper.tables c.args.keeper.now) key c.args.line.now c.loop-number.number (has c.loop-number.named) (has c.add-2.new.named)
    (λ t cusip. list_any (is_of cusip) (versions_at t key) || has c.args.named.now cusip)
    c.loop-number.invariant.most (omega (arith, c.loop-number-test.false)) c.requires c.in_ok-add-2.ensures c.loop-number.invariant.left
