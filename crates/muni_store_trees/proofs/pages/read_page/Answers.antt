use Rattle.std.proofs.Common.{[], ◌∷◌, ◌++◌, length, sym, ap, ◌∙◌, subst, arith, true≢false}
use Rattle.std.proofs.lemmas.Result.{err_from_is_err_and}
use Rattle.sqlite_value.specs.declared.value.Value.TheVariants.{Text}
use Rattle.sqlite_trees.specs.View.{IsClean}
use Rattle.muni_store_trees.specs.Entries.{from, matching}
use Rattle.muni_store_trees.specs.Found.{AreLines, IsLineAt, last_of_each}
use Rattle.muni_store_trees.specs.Keys.{least_past, text_key, trade_key_past}
use Rattle.muni_store_trees.specs.Looks.{HasLooked}
use Rattle.muni_store_trees.proofs.LookLemmas.{both_looked, then_fails}
use Rattle.muni_store_trees.proofs.PageLemmas.{lines_more, page_begins, page_is, page_next}
use Rattle.muni_store_trees.proofs.pages.read_page.Goals as goal
use Rattle.muni_store_trees.proofs.pages.read_page.Goals.{then-page-test+else-len-lt50, else-page-test}

pub begin_from-requires : goal.begin_from-requires
begin_from-requires g c =
    let more = Text (least_past c.args.after.now) ∷ [] in
    (more, c.in_ok-start.ensures ∙ ap (λ key. key ++ more) (sym c.in_ok-key.ensures))

pub page-init : goal.page-init
page-init g c =
    let old = g.S.Store.view c.args.store.now in
    let begun = g.S.Store.view c.begin_from.new.store in
    let new = g.S.Store.view c.next.new.store in
    let first = c.in_ok-begin_from.ensures.looks in
    let second = c.in_ok-is_more.ensures.looks in
    record {
      room = (let none = ap length c.clear.ensures in omega arith);
      live = c.in_ok-is_more.ensures.live;
      looked = both_looked g.S.Store.view g.S.Store.recovers c.args.store.now c.begin_from.new.store c.next.new.store
          (record { clean = first.clean; same = first.same; outcomes = first.outcomes }) (record { clean = second.clean; same = second.same; outcomes = second.outcomes });
      so_far = λ clean.
          let before : IsClean begun = (let falls = second.clean in omega arith) in (
            [],
            subst (λ lines. AreLines (old.trees c.args.places.versions) c.args.desk.now [] lines) (sym c.clear.ensures) tt,
            page_begins begun new c.in_ok-key.key (text_key c.args.desk.now) c.in_ok-start.start (trade_key_past c.args.desk.now c.args.after.now) c.next.new.entry
                (old.trees c.args.places.keys) c.in_ok-is_more.is_more c.in_ok-key.ensures c.in_ok-start.ensures (c.in_ok-is_more.ensures.found clean) (c.in_ok-begin_from.ensures.begun before),
          );
    }

pub page-preserved : goal.page-preserved
page-preserved g c =
    let at_entry = g.S.Store.view c.args.store.now in
    let old = g.S.Store.view c.page.store in
    let mid = g.S.Store.view c.pass_trade.new.store in
    let new = g.S.Store.view c.add_line.new.store in
    let wanted = text_key c.args.desk.now in
    let all = last_of_each (matching wanted (from (trade_key_past c.args.desk.now c.args.after.now) (at_entry.trees c.args.places.keys))) in
    let first = c.in_ok-is_more-2.ensures.looks in
    let second = c.in_ok-add_line.ensures.looks in
    let looked = both_looked g.S.Store.view g.S.Store.recovers c.args.store.now c.page.store c.pass_trade.new.store c.page.invariant.looked
    (record { clean = first.clean; same = first.same; outcomes = first.outcomes }) in
    record {
      room = (let one = c.in_ok-add_line.ensures.len in let room = c.if-len-lt50.true in let len = c.len.ensures.value in omega arith);
      live = c.in_ok-add_line.ensures.live c.in_ok-is_more-2.ensures.live;
      looked = both_looked g.S.Store.view g.S.Store.recovers c.args.store.now c.pass_trade.new.store c.add_line.new.store looked
          (record { clean = second.clean; same = second.same; outcomes = second.outcomes });
      so_far = λ clean.
          let passed : IsClean mid = (let falls = second.clean in omega arith) in
          let before : IsClean old = (let falls = first.clean in omega arith) in
          let at = c.page.invariant.so_far before in
          let added = c.in_ok-add_line.ensures.added clean in
          let line = subst (λ v. IsLineAt (v.trees c.args.places.versions) c.args.desk.now c.pass_trade.new.entry added.0) (looked.same passed) added.2 in (
            at.0 ++ c.pass_trade.new.entry ∷ [],
            subst (λ lines. AreLines (at_entry.trees c.args.places.versions) c.args.desk.now (at.0 ++ c.pass_trade.new.entry ∷ []) lines) (sym added.1)
                (lines_more (at_entry.trees c.args.places.versions) c.args.desk.now at.0 c.page.lines.items c.pass_trade.new.entry added.0 at.1 line),
            page_next old mid new c.in_ok-key.key wanted c.page.entry c.pass_trade.new.entry c.pass_trade.new.following c.swap.new.x at.0 all c.page.is_more c.in_ok-is_more-2.is_more
                c.in_ok-key.ensures c.page-test.true c.swap.ensures.x_after (c.in_ok-add_line.ensures.same clean) at.2 (c.in_ok-is_more-2.ensures.past passed),
          );
    }

pub returns-clause-found : goal.returns-clause-found
returns-clause-found g c = λ clean.
    let at_entry = g.S.Store.view c.args.store.now in
    let wanted = text_key c.args.desk.now in
    let all = last_of_each (matching wanted (from (trade_key_past c.args.desk.now c.args.after.now) (at_entry.trees c.args.places.keys))) in
    let at = c.page.invariant.so_far clean in
    page_is (at_entry.trees c.args.places.versions) c.args.desk.now (g.S.Store.view c.page.store) wanted c.page.entry at.0 all c.page.lines.items c.page.is_more
    at.1 at.2 c.page.invariant.room (elim c.page-test.branch [
      | then-page-test+else-len-lt50 w ↦ λ _. (let full = w.if-len-lt50.false in let len = w.len.ensures.value in omega arith)
      | else-page-test w ↦ λ more. absurd (true≢false (sym more ∙ w.page-test.false))
    ])

pub returns-in_err-is_more-clause-looks : goal.returns-in_err-is_more-clause-looks
returns-in_err-is_more-clause-looks g c =
    let told = err_from_is_err_and c.from_residual-in_err-is_more.result c.from_residual-in_err-is_more.ensures.1 in
    let looks = c.in_err-is_more.ensures.looks in
    let first = c.in_ok-begin_from.ensures.looks in
    let looked : HasLooked g.S.Store.view g.S.Store.recovers c.args.store.now c.begin_from.new.store = record { clean = first.clean; same = first.same; outcomes = first.outcomes } in
    then_fails g.S.Store.view g.S.Store.recovers c.args.store.now c.begin_from.new.store c.next.new.store c.from_residual-in_err-is_more.result told.0 told.1
    looked looks.clean looks.held looks.outcomes

pub returns-in_err-is_more-2-clause-looks : goal.returns-in_err-is_more-2-clause-looks
returns-in_err-is_more-2-clause-looks g c =
    let told = err_from_is_err_and c.from_residual-in_err-is_more-2.result c.from_residual-in_err-is_more-2.ensures.1 in
    let looks = c.in_err-is_more-2.ensures.looks in
    then_fails g.S.Store.view g.S.Store.recovers c.args.store.now c.page.store c.pass_trade.new.store c.from_residual-in_err-is_more-2.result told.0 told.1
    c.page.invariant.looked looks.clean looks.held looks.outcomes

pub returns-in_err-add_line-clause-looks : goal.returns-in_err-add_line-clause-looks
returns-in_err-add_line-clause-looks g c =
    let told = err_from_is_err_and c.from_residual-in_err-add_line.result c.from_residual-in_err-add_line.ensures.1 in
    let looks = c.in_err-add_line.ensures.looks in
    let first = c.in_ok-is_more-2.ensures.looks in
    let looked = both_looked g.S.Store.view g.S.Store.recovers c.args.store.now c.page.store c.pass_trade.new.store c.page.invariant.looked
    (record { clean = first.clean; same = first.same; outcomes = first.outcomes }) in
    then_fails g.S.Store.view g.S.Store.recovers c.args.store.now c.pass_trade.new.store c.add_line.new.store c.from_residual-in_err-add_line.result told.0 told.1
    looked looks.clean looks.held looks.outcomes
