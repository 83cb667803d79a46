use Rattle.std.proofs.Common.{subst, sym, refl, ◌∙◌, arith, ℕ, List, ◌≡◌, ◌-◌, Some, length}
use Rattle.std.specs.Prelude.{IfSome, ◌||◌, slice_get}
use Rattle.std.specs.List.{list_any}
use Rattle.muni_keep.specs.Tables.{page_at}
use Rattle.muni_desk_export.specs.Named.{has, names}
use Rattle.muni_desk_export.specs.Trades.{AreOf}
use Rattle.muni_desk_export.proofs.NamedLemmas.{none-named, pages-named, all-named}
use Rattle.muni_desk_export.proofs.ToldLemmas.{told-page-of}
use Rattle.muni_desk_export.proofs.VersionLemmas.{last-none}
use Rattle.muni_desk_export.proofs.named.named_by.Goals as goal

pub pages-init : goal.pages-init
pages-init g c = record {
  left = none-named (g.K.Keeper.tables c.args.keeper.now) c.args.desk.now (has c.none-named.result) c.none-named.ensures;
  tables = refl;
  later = omega arith;
  lent_as = refl;
}

pub returns-in_default-clause-named : goal.returns-in_default-clause-named
returns-in_default-clause-named g c =
    let told = g.K.Keeper.tables c.args.keeper.now in
    let before = c.pages.invariant in
    let are = subst (λ told. IfSome told (λ t. c.in_ok-page.page.items ≡ page_at t c.args.desk.now c.pages.after)) before.tables c.in_ok-page.ensures.found in
    all-named told c.args.desk.now c.pages.after c.in_ok-page.page.items (has c.pages.named) are (last-none c.in_ok-page.page.items (sym (rw c.deref.ensures.0 at c.in_default.ensures.value))) before.left

pub add_page-requires : goal.add_page-requires
add_page-requires g c =
    let told = g.K.Keeper.tables c.args.keeper.now in
    let before = c.pages.invariant in
    let are = subst (λ told. IfSome told (λ t. c.in_ok-page.page.items ≡ page_at t c.args.desk.now c.pages.after)) before.tables c.in_ok-page.ensures.found in
    rw c.as_slice.ensures.value (subst (λ told. IfSome told (λ t. AreOf t c.args.desk.now c.in_ok-page.page.items)) (sym (c.in_ok-page.ensures.reads.unchanged ∙ before.tables))
    (told-page-of told c.args.desk.now c.pages.after c.in_ok-page.page.items are))

pub pages-preserved : goal.pages-preserved
pages-preserved g c =
    let told = g.K.Keeper.tables c.args.keeper.now in
    let desk = c.args.desk.now in
    let before = c.pages.invariant in
    let looks = c.add_page.ensures.looks in
    let reads = c.in_ok-page.ensures.reads in
    let page = c.in_ok-page.page.items in
    let are = subst (λ told. IfSome told (λ t. page ≡ page_at t desk c.pages.after)) before.tables c.in_ok-page.ensures.found in
    let last : slice_get page (length page - 1) ≡ Some c.in-Some.last.now = sym (rw c.deref.ensures.0 at c.in-Some.ensures.value) in
    let added = subst (λ told. IfSome told (λ t. (cusip : List ℕ) → has c.add_page.new.named cusip ≡ (list_any (names t desk cusip) page || has c.pages.named cusip)))
    (reads.unchanged ∙ before.tables) (rw c.as_slice.ensures.value at c.in_ok-add_page.ensures.added) in
    record {
      left = rw c.copy.ensures (pages-named told desk c.pages.after page c.in-Some.last.now (has c.pages.named) (has c.add_page.new.named) are last added before.left);
      tables = looks.unchanged ∙ reads.unchanged ∙ before.tables;
      later = omega (arith, before.later, reads.later, looks.later);
      lent_as = looks.lent_as ∙ reads.lent_as ∙ before.lent_as;
    }
