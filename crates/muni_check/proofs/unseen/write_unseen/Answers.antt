use Rattle.std.proofs.Common.{◌≡◌, ◌∙◌, ◌++◌, [], refl, sym, subst, length, arith, rules}
use Rattle.std.specs.Prelude.{IfSome, Some, slice_get, ◌-◌}
use Rattle.std.proofs.lemmas.List.{length-append}
use Rattle.std.proofs.lemmas.Result.{err_from_is_err_and}
use Rattle.muni_edge.specs.Sink.{HasWritten, HasWrittenPart}
use Rattle.muni_keep.specs.Tables.{page_at}
use Rattle.muni_check_rows.specs.Line.{unseen_lines}
use Rattle.muni_check.specs.Named.{has}
use Rattle.muni_check.specs.Unseen.{unseen_of}
use Rattle.muni_check.proofs.UnseenLemmas.{before-none, before-page}
use Rattle.muni_check.proofs.WriteLemmas.{first-unseen, lines-of-more, unread, written-more, written-none, written-part}
use Rattle.muni_check.proofs.unseen.write_unseen.Goals as goal

pub pages-init : goal.pages-init
pages-init g c = record {
  unseen = [];
  before = before-none (g.K.Keeper.tables c.args.keeper.now) c.args.desk.now (has c.args.named.now);
  counted = refl;
  few = omega arith;
  written = written-none (g.O.Sink.bytes c.args.output.now);
  puts = refl;
  tables = refl;
  later = omega arith;
  lent_as = refl;
}

pub returns-in_err-page-clause-written : goal.returns-in_err-page-clause-written
returns-in_err-page-clause-written g c =
    let told = g.K.Keeper.tables c.args.keeper.now in
    let named = has c.args.named.now in
    let inv = c.pages.invariant in
    let p = err_from_is_err_and c.from_residual.result c.from_residual.ensures.1 in
    rw (p.1, p.2)
    (unread c.in_err-page.field-0.0 told c.args.desk.now named inv.unseen (g.O.Sink.bytes c.args.output.now) (g.O.Sink.bytes c.pages.output)
    (first-unseen told c.args.desk.now named c.pages.after inv.unseen inv.before) inv.written)

pub returns-in_err-lines-clause-written : goal.returns-in_err-lines-clause-written
returns-in_err-lines-clause-written g c =
    let inv = c.pages.invariant in
    let p = err_from_is_err_and c.from_residual-in_err-lines.result c.from_residual-in_err-lines.ensures.1 in
    rw (p.1, p.2)
    (inv.unseen, first-unseen (g.K.Keeper.tables c.args.keeper.now) c.args.desk.now (has c.args.named.now) c.pages.after inv.unseen inv.before, inv.written)

pub returns-in_err-write-clause-written : goal.returns-in_err-write-clause-written
returns-in_err-write-clause-written g c =
    let told = g.K.Keeper.tables c.args.keeper.now in
    let named = has c.args.named.now in
    let inv = c.pages.invariant in
    let page = c.in_ok-page.page.items in
    let all = inv.unseen ++ unseen_of named page in
    let are = subst (λ told. IfSome told (λ t. page ≡ page_at t c.args.desk.now c.pages.after)) inv.tables c.in_ok-page.ensures.found in
    let last : slice_get page (length page - 1) ≡ Some c.in-Some.last.now = sym (rw c.deref.ensures.0 at c.in-Some.ensures.value) in
    let before = before-page told c.args.desk.now named c.pages.after page c.in-Some.last.now inv.unseen are last inv.before in
    let text = c.deref-in-pages.ensures.value ∙ rw c.as_slice.ensures.value at c.in_ok-lines.ensures.text in
    let part = rw text at c.in_err-write.ensures.part in
    let p = err_from_is_err_and c.from_residual-in_err-write.result c.from_residual-in_err-write.ensures.1 in
    rw (p.1, p.2, c.in_err-write.ensures.only) (
      all,
      first-unseen told c.args.desk.now named (Some c.in-Some.last.now.reference) all before,
      subst (HasWrittenPart (g.O.Sink.bytes c.args.output.now) (g.O.Sink.bytes c.write.new.output)) (sym (lines-of-more inv.unseen (unseen_of named page)))
          (written-part (g.O.Sink.bytes c.args.output.now) (g.O.Sink.bytes c.pages.output) (g.O.Sink.bytes c.write.new.output) (unseen_lines inv.unseen) (unseen_lines (unseen_of named page)) inv.written part),
    )

pub pages-preserved : goal.pages-preserved
pages-preserved g c =
    let told = g.K.Keeper.tables c.args.keeper.now in
    let named = has c.args.named.now in
    let inv = c.pages.invariant in
    let reads = c.in_ok-page.ensures.reads in
    let page = c.in_ok-page.page.items in
    let are = subst (λ told. IfSome told (λ t. page ≡ page_at t c.args.desk.now c.pages.after)) inv.tables c.in_ok-page.ensures.found in
    let last : slice_get page (length page - 1) ≡ Some c.in-Some.last.now = sym (rw c.deref.ensures.0 at c.in-Some.ensures.value) in
    let before = before-page told c.args.desk.now named c.pages.after page c.in-Some.last.now inv.unseen are last inv.before in
    let text = c.deref-in-pages.ensures.value ∙ rw c.as_slice.ensures.value at c.in_ok-lines.ensures.text in
    let count = rw c.as_slice.ensures.value at c.in_ok-lines.ensures.count in
    let few = rw c.as_slice.ensures.value at c.in_ok-lines.ensures.few in
    let written = rw text at c.in_ok-write.ensures.written in
    let from : c.from-count.result ≡ c.in_ok-lines.lines.count = search rules in
    record {
      unseen = inv.unseen ++ unseen_of named page;
      before = rw c.copy.ensures before;
      counted = omega (arith, from, inv.counted, count, length-append inv.unseen (unseen_of named page));
      few = omega (arith, from, inv.few, few, rw c.as_slice.ensures.value at c.as_slice.ensures.fits);
      written = subst (HasWritten (g.O.Sink.bytes c.args.output.now) (g.O.Sink.bytes c.write.new.output)) (sym (lines-of-more inv.unseen (unseen_of named page)))
          (written-more (g.O.Sink.bytes c.args.output.now) (g.O.Sink.bytes c.pages.output) (g.O.Sink.bytes c.write.new.output) (unseen_lines inv.unseen) (unseen_lines (unseen_of named page)) inv.written written);
      puts = c.in_ok-write.ensures.uncounted ∙ inv.puts;
      tables = reads.unchanged ∙ inv.tables;
      later = omega (arith, reads.later, inv.later);
      lent_as = reads.lent_as ∙ inv.lent_as;
    }

pub returns-clause-written : goal.returns-clause-written
returns-clause-written g c =
    let inv = c.pages.invariant in
    (inv.unseen, first-unseen (g.K.Keeper.tables c.args.keeper.now) c.args.desk.now (has c.args.named.now) c.pages.after inv.unseen inv.before, inv.written)
