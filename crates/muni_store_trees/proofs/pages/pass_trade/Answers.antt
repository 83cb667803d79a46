use Rattle.std.proofs.Common.{◌∷◌, ap, ◌∙◌, subst, arith}
use Rattle.sqlite_trees.specs.View.{IsClean}
use Rattle.muni_store_trees.specs.Entries.{Gives}
use Rattle.muni_store_trees.specs.Found.{last_of_each}
use Rattle.muni_store_trees.proofs.LookLemmas.{both_looked}
use Rattle.muni_store_trees.proofs.PageLemmas.{passes, goes_on}
use Rattle.muni_store_trees.proofs.pages.pass_trade.Goals as goal

pub returns-then-not-branch-clause-past : goal.returns-then-not-branch-clause-past
returns-then-not-branch-clause-past g c = λ clean left scans.
    let before : IsClean (g.S.Store.view c.loop.store) = (let falls = c.in_ok-next.ensures.looks.clean in omega arith) in
    let at = c.loop.invariant.passed before left scans in
    let gives = subst (Gives (g.S.Store.view c.next.new.store) c.args.desk.now at.0 c.next.new.entry) c.if-not-branch.true (c.in_ok-next.ensures.found clean at.0 at.2) in
    at.1 ∙ ap (λ l. last_of_each (c.loop.entry ∷ l)) gives

pub returns-then-ne-clause-past : goal.returns-then-ne-clause-past
returns-then-ne-clause-past g c = λ clean left scans.
    let before : IsClean (g.S.Store.view c.loop.store) = (let falls = c.in_ok-next.ensures.looks.clean in omega arith) in
    let at = c.loop.invariant.passed before left scans in
    let new = g.S.Store.view c.next.new.store in
    passes new c.args.desk.now c.args.entry.now c.loop.entry c.next.new.entry left at.0 c.text_in.result.now c.text_in-in-loop.result.now c.ne.result
    at.1 c.text_in.ensures c.text_in-in-loop.ensures c.ne.ensures c.if-ne.true
    (subst (Gives new c.args.desk.now at.0 c.next.new.entry) c.if-not-branch.false (c.in_ok-next.ensures.found clean at.0 at.2))

pub loop-preserved : goal.loop-preserved
loop-preserved g c =
    let new = g.S.Store.view c.next.new.store in
    let looks = c.in_ok-next.ensures.looks in
    record {
      live = c.in_ok-next.ensures.live;
      looked = both_looked g.S.Store.view g.S.Store.recovers c.args.store.now c.loop.store c.next.new.store c.loop.invariant.looked
          (record { clean = looks.clean; same = looks.same; outcomes = looks.outcomes });
      passed = λ clean left scans.
          let before : IsClean (g.S.Store.view c.loop.store) = (let falls = c.in_ok-next.ensures.looks.clean in omega arith) in
          let at = c.loop.invariant.passed before left scans in
          goes_on new c.args.desk.now c.args.entry.now c.loop.entry c.next.new.entry c.swap.new.x left at.0 c.text_in.result.now c.text_in-in-loop.result.now c.ne.result
          at.1 c.text_in.ensures c.text_in-in-loop.ensures c.ne.ensures c.if-ne.false
          (subst (Gives new c.args.desk.now at.0 c.next.new.entry) c.if-not-branch.false (c.in_ok-next.ensures.found clean at.0 at.2)) c.swap.ensures.x_after;
    }
