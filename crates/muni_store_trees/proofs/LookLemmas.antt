-- One look-up after another.
use Rattle.std.proofs.Common.{◌≡◌, ◌≤◌, Result, Err, ap, ◌∙◌, arith}
use Rattle.sqlite_trees.specs.Tree.{Trees}
use Rattle.sqlite_trees.specs.View.{View, IsClean, doubt}
use Rattle.muni_store_trees.specs.Looks.{Looks, HasLooked, IsSame, IsHeld}

pub same_view : (old mid new : View) → IsSame old mid → IsSame mid new → IsSame old new
same_view old mid new first second =
    let step : record mid { cursors = new.cursors } ≡ record old { cursors = new.cursors } = λ i. record (first i) { cursors = new.cursors } in
    second ∙ step

pub both_looked : {S : Type 0} (view : S → View) (recovers : S → Trees → Type 0) (old mid new : S) → HasLooked view recovers old mid → HasLooked view recovers mid new
    → HasLooked view recovers old new
both_looked view recovers old mid new first second =
    record {
      clean = (let a = first.clean in let b = second.clean in omega arith);
      same = λ clean.
          let before : IsClean (view mid) = (let falls = second.clean in omega arith) in
          same_view (view old) (view mid) (view new) (first.same before) (second.same clean);
      outcomes = λ db left. first.outcomes db (second.outcomes db left);
    }

-- a call that fails after it has looked
pub fails : {S T E : Type 0} (view : S → View) (recovers : S → Trees → Type 0) (old new : S) (error : E) → HasLooked view recovers old new
    → Looks {T = T} view recovers (Err error) old new
fails view recovers old new error looked =
    record {
      clean = looked.clean;
      same = tt;
      held = λ clean. record { same = λ sound. looked.same clean; committed = λ is_open. ap (λ v. v.committed) (looked.same clean) };
      outcomes = looked.outcomes;
    }

-- the second of two fails
pub then_fails : {S V F : Type 0} (view : S → View) (recovers : S → Trees → Type 0) (old mid new : S) (result : Result V F) (told : F)
    → result ≡ Err told → HasLooked view recovers old mid → doubt (view mid).is_clean ≤ doubt (view new).is_clean → (IsClean (view new) → IsHeld (view mid) (view new))
    → ((db : Trees) → recovers new db → recovers mid db) → Looks view recovers result old new
then_fails view recovers old mid new result told is first falls is_held outcomes =
    rw is (record {
      clean = (let a = first.clean in omega arith);
      same = tt;
      held = λ clean.
          let before : IsClean (view mid) = omega arith in
          let held = is_held clean in
          record {
            same = λ sound. same_view (view old) (view mid) (view new) (first.same before) (held.same sound);
            committed = λ is_open. held.committed is_open ∙ ap (λ v. v.committed) (first.same before);
          };
      outcomes = λ db left. first.outcomes db (outcomes db left);
    })
