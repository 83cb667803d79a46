use Rattle.std.proofs.Common.{◌-◌, reverse, ◌≤◌, refl, subst, arith, true, false}
use Rattle.std.proofs.lemmas.Result.{err_from_is_err_and}
use Rattle.sqlite_trees.specs.View.{IsClean}
use Rattle.sqlite_trees.specs.declared.store.Direction.TheVariants.{Backward}
use Rattle.muni_store_trees.specs.Entries.{Scans, in_direction, matching}
use Rattle.muni_store_trees.specs.Keys.{text_key}
use Rattle.muni_store_trees.proofs.LookLemmas.{both_looked, fails, then_fails}
use Rattle.muni_store_trees.proofs.PageLemmas.{given, none_before, is_before, before_more}
use Rattle.muni_store_trees.proofs.pages.find_before_latest.Goals as goal
use Rattle.muni_store_trees.proofs.pages.find_before_latest.Goals.{then-is_first+else-passed-eq50, else-is_first}

pub loop-init : goal.loop-init
loop-init g c =
    let looks = c.in_ok-begin.ensures.looks in
    let entries = (g.S.Store.view c.args.store.now).trees c.args.places.keys in
    record {
      bound = omega arith;
      live = c.in_ok-begin.ensures.live;
      looked = record { clean = looks.clean; same = looks.same; outcomes = looks.outcomes };
      before = λ clean. (
        reverse (matching (text_key c.args.desk.now) entries),
        subst (λ key. Scans (g.S.Store.view c.begin.new.store) key (in_direction Backward (matching key entries))) c.in_ok-key.ensures (c.in_ok-begin.ensures.begun clean),
        refl,
      );
    }

pub loop-preserved : goal.loop-preserved
loop-preserved g c =
    let old = g.S.Store.view c.loop.store in
    let new = g.S.Store.view c.next.new.store in
    let wanted = text_key c.args.desk.now in
    let all = reverse (matching wanted ((g.S.Store.view c.args.store.now).trees c.args.places.keys)) in
    let looks = c.in_ok-next.ensures.looks in
    let bound : c.if-is_first.passed ≤ 50 = elim c.if-is_first.branch [
      | then-is_first+else-passed-eq50 w ↦ let one = w.passed-is in let before = c.loop.invariant.bound in let other = w.if-passed-eq50.false in omega arith
      | else-is_first w ↦ let same = w.passed-is in let before = c.loop.invariant.bound in omega arith
    ] in
    record {
      bound = bound;
      live = c.in_ok-next.ensures.live;
      looked = both_looked g.S.Store.view g.S.Store.recovers c.args.store.now c.loop.store c.next.new.store c.loop.invariant.looked
          (record { clean = looks.clean; same = looks.same; outcomes = looks.outcomes });
      before = λ clean.
          let clean_before : IsClean old = (let falls = looks.clean in omega arith) in
          let at = c.loop.invariant.before clean_before in
          let gives = given old new c.in_ok-key.key wanted c.next.new.entry at.0 c.in_ok-next.field-0 true c.in_ok-key.ensures c.if-not-branch.false (c.in_ok-next.ensures.found clean) at.1 in
          elim c.if-is_first.branch [
            | then-is_first+else-passed-eq50 w ↦ before_more new wanted c.next.new.entry all at.0 c.loop.passed c.if-is_first.passed c.is_first.result true c.is_first.ensures w.if-is_first.true
                w.passed-is bound at.2 gives
            | else-is_first w ↦ before_more new wanted c.next.new.entry all at.0 c.loop.passed c.if-is_first.passed c.is_first.result false c.is_first.ensures w.if-is_first.false
                w.passed-is bound at.2 gives
          ];
    }

pub returns-then-not-branch-clause-found : goal.returns-then-not-branch-clause-found
returns-then-not-branch-clause-found g c = λ clean.
    let old = g.S.Store.view c.loop.store in
    let new = g.S.Store.view c.next.new.store in
    let wanted = text_key c.args.desk.now in
    let all = reverse (matching wanted ((g.S.Store.view c.args.store.now).trees c.args.places.keys)) in
    let before : IsClean old = (let falls = c.in_ok-next.ensures.looks.clean in omega arith) in
    let at = c.loop.invariant.before before in
    none_before all at.0 (50 - c.loop.passed) at.2
    (given old new c.in_ok-key.key wanted c.next.new.entry at.0 c.in_ok-next.field-0 false c.in_ok-key.ensures c.if-not-branch.true (c.in_ok-next.ensures.found clean) at.1)

pub returns-then-passed-eq50-clause-found : goal.returns-then-passed-eq50-clause-found
returns-then-passed-eq50-clause-found g c = λ clean.
    let old = g.S.Store.view c.loop.store in
    let new = g.S.Store.view c.next.new.store in
    let wanted = text_key c.args.desk.now in
    let all = reverse (matching wanted ((g.S.Store.view c.args.store.now).trees c.args.places.keys)) in
    let before : IsClean old = (let falls = c.in_ok-next.ensures.looks.clean in omega arith) in
    let at = c.loop.invariant.before before in (
      c.next.new.entry,
      is_before new wanted c.next.new.entry all at.0 c.loop.passed c.is_first.result c.is_first.ensures c.if-is_first.true c.if-passed-eq50.true at.2
          (given old new c.in_ok-key.key wanted c.next.new.entry at.0 c.in_ok-next.field-0 true c.in_ok-key.ensures c.if-not-branch.false (c.in_ok-next.ensures.found clean) at.1),
      rw c.in_ok-ok_or.ensures.ok_part at c.read_reference.ensures,
    )

pub returns-in_err-ok_or-clause-looks : goal.returns-in_err-ok_or-clause-looks
returns-in_err-ok_or-clause-looks g c =
    let told = err_from_is_err_and c.from_residual-in_err-ok_or.result c.from_residual-in_err-ok_or.ensures.1 in
    let looks = c.in_ok-next.ensures.looks in
    rw told.1 (fails g.S.Store.view g.S.Store.recovers c.args.store.now c.next.new.store told.0
    (both_looked g.S.Store.view g.S.Store.recovers c.args.store.now c.loop.store c.next.new.store c.loop.invariant.looked
    (record { clean = looks.clean; same = looks.same; outcomes = looks.outcomes })))

pub returns-in_err-next-clause-looks : goal.returns-in_err-next-clause-looks
returns-in_err-next-clause-looks g c =
    let told = err_from_is_err_and c.from_residual-in_err-next.result c.from_residual-in_err-next.ensures.1 in
    let looks = c.in_err-next.ensures.looks in
    then_fails g.S.Store.view g.S.Store.recovers c.args.store.now c.loop.store c.next.new.store c.from_residual-in_err-next.result told.0 told.1
    c.loop.invariant.looked looks.clean looks.held looks.outcomes
