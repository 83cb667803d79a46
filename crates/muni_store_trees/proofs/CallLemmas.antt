-- What a call and the rollback after a failure do together.
use Rattle.std.proofs.Common.{◌≡◌, ◌≤◌, ℕ, Result, Ok, Err, IfOk, OnOk, OnErr, is_ok, refl, sym, ap, ◌∙◌, subst, arith, List, Some, None, IfSome, ◌⊎◌, inl, inr}
use Rattle.sqlite_trees.specs.Tree.{Trees}
use Rattle.sqlite_trees.specs.View.{View, IsClean, IsRolledBack, doubt}
use Rattle.muni_keep.specs.declared.fault.KeepFault.{KeepFault}
use Rattle.muni_store_trees.specs.declared.fault.TreeFault.{TreeFault}
use Rattle.muni_store_trees.specs.Adds.{Puts}
use Rattle.muni_store_trees.specs.declared.keeper.TreeKeeper.{TreeKeeper}
use Rattle.muni_store_trees.specs.Calls.{CountsTrades, IsFrame, IsUndone, Keeps, Settles, kept}
use Rattle.muni_store_trees.specs.Counts.{Counts, count_of, with_count}
use Rattle.muni_store_trees.specs.Found.{trade_count}
use Rattle.muni_store_trees.specs.Looks.{Looks}

pub settles : {S : Type 0} (view : S → View) (recovers : S → Trees → Type 0) (old new : S) → IsRolledBack (view old) (view new) → doubt (view old).is_clean ≤ doubt (view new).is_clean
    → ((db : Trees) → recovers new db → recovers old db) → Settles view recovers old new
settles view recovers old new back falls outcomes =
    record {
      clean = falls;
      was_open = λ clean is_open. (back.kept clean).was_open is_open;
      undone = λ clean. record { trees = λ is_open. (back.undone is_open).0; committed = λ is_open. (back.kept clean).committed is_open };
      outcomes = outcomes;
    }

pub on_err : {T E P : Type 0} (result : Result T E) → P → OnErr result P
on_err (Ok value) holds = tt
on_err (Err error) holds = holds

pub is_ok_kept : {T : Type 0} (answer : Result T TreeFault) → is_ok (kept answer) ≡ is_ok answer
is_ok_kept (Ok value) = refl
is_ok_kept (Err fault) = refl

-- what was found is what is answered
pub found_kept : {S T : Type 0} (view : S → View) (P : T → Type 0) (answer : Result T TreeFault) (result : Result T KeepFault) (mid new : S)
    → result ≡ kept answer → OnOk answer (new ≡ mid) → IfOk answer (λ value. IsClean (view mid) → P value) → IfOk result (λ value. IsClean (view new) → P value)
found_kept {S} {T} view P answer result mid new is same found =
    subst (λ r. IfOk r (λ value. IsClean (view new) → P value)) (sym is) (go answer same found)
  where
    go : (a : Result T TreeFault) → OnOk a (new ≡ mid) → IfOk a (λ value. IsClean (view mid) → P value) → IfOk (kept a) (λ value. IsClean (view new) → P value)
    go (Ok value) here found = λ clean. found (subst (λ s. IsClean (view s)) here clean)
    go (Err fault) here found = tt

-- a look-up that is rolled back if it fails
pub keeps : {S T : Type 0} (view : S → View) (recovers : S → Trees → Type 0) (answer : Result T TreeFault) (result : Result T KeepFault) (old mid new : S)
    → result ≡ kept answer → OnOk answer (new ≡ mid) → OnErr answer (Settles view recovers mid new) → Looks view recovers answer old mid → Keeps view recovers result old new
keeps {S} {T} view recovers answer result old mid new is same undone looks =
    subst (λ r. Keeps view recovers r old new) (sym is) (go answer same undone looks)
  where
    go : (a : Result T TreeFault) → OnOk a (new ≡ mid) → OnErr a (Settles view recovers mid new) → Looks view recovers a old mid → Keeps view recovers (kept a) old new
    go (Ok value) here undone looks =
        subst (λ s. Keeps {T = T} {E = KeepFault} view recovers (Ok value) old s) (sym here) (record { clean = looks.clean; same = looks.same; undone = tt; outcomes = looks.outcomes })
    go (Err fault) here undone looks =
        record {
          clean = (let first = looks.clean in let second = undone.clean in omega arith);
          same = tt;
          undone = λ clean.
              let before : IsClean (view mid) = (let second = undone.clean in omega arith) in
              record {
                trees = λ is_open. (undone.undone clean).trees is_open ∙ (looks.held before).committed (undone.was_open clean is_open);
                committed = λ is_open. (undone.undone clean).committed is_open ∙ (looks.held before).committed (undone.was_open clean is_open);
              };
          outcomes = λ db left. looks.outcomes db (undone.outcomes db left);
        }

-- something else is answered in place of a value
pub keeps_answered : {S T A : Type 0} (view : S → View) (recovers : S → Trees → Type 0) (settled : Result T KeepFault) (value : T) (answer : A) (old new : S)
    → settled ≡ Ok value → Keeps view recovers settled old new → Keeps {T = A} {E = KeepFault} view recovers (Ok answer) old new
keeps_answered view recovers settled value answer old new is holds =
    let held = subst (λ r. Keeps view recovers r old new) is holds in
    record { clean = held.clean; same = held.same; undone = tt; outcomes = held.outcomes }

-- a fault is answered as one of another call
pub keeps_refused : {S T A : Type 0} (view : S → View) (recovers : S → Trees → Type 0) (settled : Result T KeepFault) (fault told : KeepFault) (old new : S)
    → settled ≡ Err fault → Keeps view recovers settled old new → Keeps {T = A} {E = KeepFault} view recovers (Err told) old new
keeps_refused view recovers settled fault told old new is holds =
    let held = subst (λ r. Keeps view recovers r old new) is holds in
    record { clean = held.clean; same = tt; undone = held.undone; outcomes = held.outcomes }

-- a put that is rolled back if it fails
pub record PutsOrUndoes {S T : Type 0} (view : S → View) (recovers : S → Trees → Type 0) (Added : Trees → Trees → Type 0) (result : Result T KeepFault) (old new : S) : Type 0 where
  pub puts : Puts view recovers Added result old new
  pub undone : OnErr result (IsClean (view new) → IsUndone (view old) (view new))

pub puts_or_undoes : {S T : Type 0} (view : S → View) (recovers : S → Trees → Type 0) (Added : Trees → Trees → Type 0) (answer : Result T TreeFault) (result : Result T KeepFault) (old mid new : S)
    → result ≡ kept answer → OnOk answer (new ≡ mid) → OnErr answer (Settles view recovers mid new) → Puts view recovers Added answer old mid
    → PutsOrUndoes view recovers Added result old new
puts_or_undoes {S} {T} view recovers Added answer result old mid new is same undone puts =
    subst (λ r. PutsOrUndoes view recovers Added r old new) (sym is) (go answer same undone puts)
  where
    go : (a : Result T TreeFault) → OnOk a (new ≡ mid) → OnErr a (Settles view recovers mid new) → Puts view recovers Added a old mid → PutsOrUndoes view recovers Added (kept a) old new
    go (Ok value) here undone puts =
        subst (λ s. PutsOrUndoes {T = T} view recovers Added (Ok value) old s) (sym here)
        (record { puts = record { clean = puts.clean; put = puts.put; committed = puts.committed; held = tt; stops = puts.stops }; undone = tt })
    go (Err fault) here undone puts =
        record {
          puts = record {
            clean = (let first = puts.clean in let second = undone.clean in omega arith);
            put = tt;
            committed = tt;
            held = λ clean is_open. (undone.undone clean).committed is_open ∙ puts.held (let second = undone.clean in omega arith) (undone.was_open clean is_open);
            stops = λ db left. puts.stops db (undone.outcomes db left);
          };
          undone = λ clean.
              let before : IsClean (view mid) = (let second = undone.clean in omega arith) in
              record {
                trees = λ is_open. (undone.undone clean).trees is_open ∙ puts.held before (undone.was_open clean is_open);
                committed = λ is_open. (undone.undone clean).committed is_open ∙ puts.held before (undone.was_open clean is_open);
              };
        }

-- a count that is kept is the answer
pub count_is_kept : {S : Type 0} (view : S → View) (recovers : S → Trees → Type 0) (desk : List ℕ) (count : ℕ) (old : TreeKeeper S) → count_of desk old.trades ≡ Some count
    → CountsTrades view recovers desk (Ok count) old old
count_is_kept view recovers desk count old is =
    record {
      kept = (let answer : Result ℕ KeepFault = Ok count in subst (λ o. IfSome o (λ n. (answer ≡ Ok n) × (old ≡ old))) (sym is) (refl, refl));
      found = λ none. absurd (let differ : Some count ≡ None = sym is ∙ none in cc);
      keeps = record { clean = omega arith; same = λ clean. refl; undone = tt; outcomes = λ db left. left };
      places = refl;
      counts = inl refl;
      refused = tt;
    }

-- a count that fails
pub count_refused : {S : Type 0} (view : S → View) (recovers : S → Trees → Type 0) (desk : List ℕ) (settled result : Result ℕ KeepFault) (fault told : KeepFault) (old new : TreeKeeper S)
    → count_of desk old.trades ≡ None → settled ≡ Err fault → result ≡ Err told → Keeps view recovers settled old.store new.store → IsFrame old new
    → CountsTrades view recovers desk result old new
count_refused view recovers desk settled result fault told old new none settled_is result_is holds frame =
    let held = subst (λ r. Keeps view recovers r old.store new.store) settled_is holds in
    rw result_is (record {
      kept = (let answer : Result ℕ KeepFault = Err told in subst (λ o. IfSome o (λ n. (answer ≡ Ok n) × (new ≡ old))) (sym none) tt);
      found = λ _. tt;
      keeps = record { clean = held.clean; same = tt; undone = held.undone; outcomes = held.outcomes };
      places = frame.places;
      counts = tt;
      refused = frame.counts;
    })

-- a count that is found, and kept if there is memory for it
pub count_found : {S : Type 0} (view : S → View) (recovers : S → Trees → Type 0) (desk : List ℕ) (settled : Result ℕ KeepFault) (count : ℕ) (old new : TreeKeeper S) (before : Counts)
    → count_of desk old.trades ≡ None → settled ≡ Ok count → Keeps view recovers settled old.store new.store
    → IfOk settled (λ n. IsClean (view new.store) → n ≡ trade_count old.places (view old.store).trees desk)
    → new.places ≡ old.places → before ≡ old.trades → (new.trades ≡ with_count desk count before) ⊎ ((new.trades ≡ before) × (count_of desk before ≡ None))
    → CountsTrades view recovers desk (Ok count) old new
count_found view recovers desk settled count old new before none settled_is holds found places counts is_kept =
    record {
      kept = (let answer : Result ℕ KeepFault = Ok count in subst (λ o. IfSome o (λ n. (answer ≡ Ok n) × (new ≡ old))) (sym none) tt);
      found = λ _. subst (λ r. IfOk r (λ n. IsClean (view new.store) → n ≡ trade_count old.places (view old.store).trees desk)) settled_is found;
      keeps = subst (λ r. Keeps view recovers r old.store new.store) settled_is holds;
      places = places;
      counts = elim is_kept [
        | inl is ↦ inr (is ∙ ap (with_count desk count) counts)
        | inr is ↦ inl (is.0 ∙ counts)
      ];
      refused = tt;
    }
