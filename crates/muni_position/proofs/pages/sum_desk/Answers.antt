use Rattle.std.proofs.Common.{◌≡◌, ◌+◌, ◌-◌, Some, length, refl, sym, ap, subst, ◌∙◌, arith}
use Rattle.std.specs.Prelude.{IfSome, slice_get}
use Rattle.std.proofs.lemmas.Option.{slice_get_within}
use Rattle.muni_keep.specs.Tables.{page_at}
use Rattle.muni_position.specs.Holding.{IsInRange}
use Rattle.muni_position.specs.declared.holding.Holding.{Holding}
use Rattle.muni_position.proofs.SumLemmas.{kept_none, nothing_in_range}
use Rattle.muni_position.proofs.PageLemmas.{none_read, each, told_read, told_many}
use Rattle.muni_position.proofs.pages.sum_desk.Goals as goal

pub pages-init : goal.pages-init
pages-init g c =
    let none = kept_none c.new-holdings.result c.new-holdings.ensures.empty in
    record {
      range = λ cusip. subst IsInRange (sym (none cusip)) nothing_in_range;
      few = λ cusip. omega (arith, ap (λ (h : Holding). h.live) (none cusip));
      turns = omega arith;
      count = omega arith;
      tables = refl;
      later = omega arith;
      lent_as = refl;
      summed = each _ (g.K.Keeper.tables c.args.keeper.now) (λ t. none_read c.args.desk.now t c.new-holdings.result none);
    }

pub returns-then-count-gt-MOST_TRADES-clause-too_many : goal.returns-then-count-gt-MOST_TRADES-clause-too_many
returns-then-count-gt-MOST_TRADES-clause-too_many g c = λ _.
    let lines = c.in_ok-page.page.items in
    let told = g.K.Keeper.tables c.args.keeper.now in
    let are = subst (λ told. IfSome told (λ t. lines ≡ page_at t c.args.desk.now c.pages.after)) c.pages.invariant.tables c.in_ok-page.ensures.found in
    told_many c.args.desk.now told c.pages.after c.pages.count lines c.pages.holdings c.pages.invariant.summed are (omega (arith, c.len.ensures.value, c.if-count-gt-MOST_TRADES.true))

pub pages-preserved : goal.pages-preserved
pages-preserved g c =
    let lines = c.in_ok-page.page.items in
    let told = g.K.Keeper.tables c.args.keeper.now in
    let are = subst (λ told. IfSome told (λ t. lines ≡ page_at t c.args.desk.now c.pages.after)) c.pages.invariant.tables c.in_ok-page.ensures.found in
    let last : slice_get lines (length lines - 1) ≡ Some c.in-Some.last.now = sym (rw c.deref.ensures.0 at c.in-Some.ensures.value) in
    let within = slice_get_within lines (length lines - 1) c.in-Some.last.now last in
    let count = c.len.ensures.value in
    record {
      range = c.in_ok-add_lines.ensures.range;
      few = λ cusip. omega (arith, c.in_ok-add_lines.ensures.few cusip, c.pages.invariant.few cusip, ap length c.as_slice.ensures.value, count);
      turns = omega (arith, c.pages.invariant.turns, within, count);
      count = omega (arith, c.if-count-gt-MOST_TRADES.false);
      tables = c.in_ok-page.ensures.reads.unchanged ∙ c.pages.invariant.tables;
      later = omega (arith, c.pages.invariant.later, c.page.ensures.reads.later);
      lent_as = c.page.ensures.reads.lent_as ∙ c.pages.invariant.lent_as;
      summed = rw c.copy.ensures (told_read c.args.desk.now told c.pages.after c.pages.count (c.pages.count + c.len.result) lines c.in-Some.last.now c.pages.holdings c.add_lines.new.holdings c.pages.invariant.summed are last (rw c.as_slice.ensures.value at c.in_ok-add_lines.ensures.sums) (rw c.as_slice.ensures.value at c.in_ok-add_lines.ensures.bounded) (omega (arith, count)));
    }
