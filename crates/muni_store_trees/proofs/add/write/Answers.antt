use Rattle.std.proofs.Common.{inl, inr, sym, ap, ◌∙◌, subst, arith}
use Rattle.std.proofs.lemmas.Result.{err_from_is_err_and}
use Rattle.sqlite_trees.specs.View.{IsClean}
use Rattle.muni_store_trees.specs.Adds.{Writes}
use Rattle.muni_store_trees.proofs.AddLemmas.{sound_is_clean}
use Rattle.muni_store_trees.proofs.add.write.Goals as goal

pub returns-in_err-commit : goal.returns-in_err-commit
returns-in_err-commit g c =
    let mid = g.S.Store.view c.set.new.store in
    let Written = Writes c.args.keyed.table c.args.keyed.index c.args.row.now c.args.entry.now (g.S.Store.view c.args.store.now).trees in
    let refused = err_from_is_err_and c.from_residual-in_err-commit.result c.from_residual-in_err-commit.ensures.1 in
    record {
      puts = record {
        clean = (let first = c.set.ensures.edits.clean in let second = c.commit.ensures.clean in omega arith);
        put = rw refused.1 tt;
        committed = rw refused.1 tt;
        held = rw refused.1 (λ clean is_open.
            let kept = c.in_err-commit.ensures.err.kept clean in
            kept.committed is_open ∙ c.set.ensures.edits.committed (let falls = c.commit.ensures.clean in omega arith) (kept.was_open is_open));
        stops = λ db left. elim (c.commit.ensures.crash db left) [
          | inl done ↦
              let sound : IsClean mid = sound_is_clean mid (g.met.S.Store.shut_if_dirty c.set.new.store) (g.met.S.Store.broken_if_shut c.set.new.store) done.0 in
              inr ((let first = c.set.ensures.edits.clean in omega arith), subst Written (sym done.1) (c.in_ok-set.ensures.edits.edited sound))
          | inr before ↦ inl (c.set.ensures.edits.outcomes db before)
        ];
      };
    }

pub returns : goal.returns
returns g c =
    let mid = g.S.Store.view c.set.new.store in
    let Written = Writes c.args.keyed.table c.args.keyed.index c.args.row.now c.args.entry.now (g.S.Store.view c.args.store.now).trees in
    record {
      puts = record {
        clean = (let first = c.set.ensures.edits.clean in let second = c.commit.ensures.clean in omega arith);
        put = λ clean. subst Written (sym (ap (λ v. v.trees) (c.in_ok-commit.ensures.ok clean).is))
            (c.in_ok-set.ensures.edits.edited (let falls = c.commit.ensures.clean in omega arith));
        committed = λ clean. let is = (c.in_ok-commit.ensures.ok clean).is in ap (λ v. v.committed) is ∙ sym (ap (λ v. v.trees) is);
        held = tt;
        stops = λ db left. elim (c.commit.ensures.crash db left) [
          | inl done ↦
              let sound : IsClean mid = sound_is_clean mid (g.met.S.Store.shut_if_dirty c.set.new.store) (g.met.S.Store.broken_if_shut c.set.new.store) done.0 in
              inr ((let first = c.set.ensures.edits.clean in omega arith), subst Written (sym done.1) (c.in_ok-set.ensures.edits.edited sound))
          | inr before ↦ inl (c.set.ensures.edits.outcomes db before)
        ];
      };
    }
