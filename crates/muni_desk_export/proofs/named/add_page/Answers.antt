use Rattle.std.proofs.Common.{subst, ◌∙◌, arith, ℕ, List, ◌≡◌}
use Rattle.std.specs.Prelude.{IfSome, ◌||◌}
use Rattle.std.specs.List.{list_any}
use Rattle.muni_desk_export.specs.Named.{has, is_of, names}
use Rattle.muni_desk_export.specs.Trades.{key_of, versions_at}
use Rattle.muni_desk_export.proofs.NamedLemmas.{trade-named}
use Rattle.muni_desk_export.proofs.named.add_page.Goals as goal

pub loop-line-preserved : goal.loop-line-preserved
loop-line-preserved g c =
    let told = g.K.Keeper.tables c.args.keeper.now in
    let desk = c.args.desk.now in
    let before = c.loop-line.invariant in
    let looks = c.add_versions.ensures.looks in
    let added = subst (λ told. IfSome told (λ t. (cusip : List ℕ) → has c.add_versions.new.named cusip
    ≡ (list_any (is_of cusip) (versions_at t (key_of desk c.line-item.result.reference)) || has c.loop-line.named cusip))) before.tables (rw c.key_of.ensures at c.in_ok-add_versions.ensures.added) in
    record {
      left = trade-named told desk c.args.page.now c.loop-line.line-index c.line-item.result (has c.loop-line.named) (has c.add_versions.new.named)
          (λ t cusip. list_any (names t desk cusip) c.args.page.now || has c.args.named.now cusip)
          (omega (arith, c.loop-line-test.true)) c.line-item.is added before.left;
      tables = looks.unchanged ∙ before.tables;
      later = omega (arith, before.later, looks.later);
      lent_as = looks.lent_as ∙ before.lent_as;
    }
