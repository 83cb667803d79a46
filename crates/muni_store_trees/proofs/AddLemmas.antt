-- The last row of a table, and one behind it.
use Rattle.std.proofs.Common.{◌≡◌, ℤ, pos, ◌+ℤ◌, Bool, true, false, List, [], ◌∷◌, ◌++◌, reverse, Option, Some, None, slice_get, if◌then◌else◌, refl, sym, ap, ◌∙◌, subst, arith, Less, IsTrue, true≢false, Result, Ok, Err, IfOk, OnOk, OnErr, ℕ, ◌≤◌, inl, inr}
use Rattle.std.specs.List.{AllByRecursion}
use Rattle.std.proofs.lemmas.Bool.Decides.{nat_tests}
use Rattle.std.proofs.lemmas.Int.{ints}
use Rattle.std.proofs.lemmas.List.{reverse-append}
use Rattle.sqlite_value.specs.declared.value.Value.TheVariants.{Int}
use Rattle.sqlite_value.specs.Order.{Row, value_cmp}
use Rattle.sqlite_value.specs.Keys.{plain}
use Rattle.sqlite_value.proofs.OrderLemmas.{value_cmp_total, value_cmp-Int}
use Rattle.sqlite_trees.specs.Tree.{Trees, rowid, up_to_key, sought, IsTable, put_row, insert_entry, with_tree}
use Rattle.sqlite_trees.specs.View.{View, Advances, IsClean, doubt}
use Rattle.sqlite_trees.proofs.Doubt.{no_doubt}
use Rattle.sqlite_trees.specs.declared.store.Direction.TheVariants.{Backward}
use Rattle.muni_store_trees.specs.Adds.{IsNewId, IsLastRow, IsIdAfter, Writes, AddsRow, Puts}
use Rattle.muni_store_trees.specs.Entries.{matching}
use Rattle.muni_store_trees.specs.Looks.{IsSame}
use Rattle.muni_store_trees.proofs.ScanLemmas.{some-is}

-- no key stands above any row
all_rows : (rows : List Row) → up_to_key plain [] rows ≡ rows
all_rows [] = refl
all_rows (row ∷ rows) = ap (λ l. row ∷ l) (all_rows rows)

pub last_sought : (old new : View) (row : Row) (rows : List Row) (found : Bool) → old.cursors 0 ≡ Some (sought plain Backward [] rows) → Advances old new 0 row found
    → IsLastRow rows (if found then Some row else None)
last_sought old new row rows true at advances = ap (λ l. slice_get l 0) (sym (ap reverse (all_rows rows)) ∙ some-is (sym at ∙ advances.1))
last_sought old new row rows false at advances = ap (λ l. slice_get l 0) (sym (ap reverse (all_rows rows)) ∙ some-is (sym at ∙ advances.0))

reverse-cons : (x : Row) (xs : List Row) → reverse (x ∷ xs) ≡ reverse xs ++ x ∷ []
reverse-cons x xs = reverse-append (x ∷ []) xs

get-append : (xs ys : List Row) (x : Row) → slice_get xs 0 ≡ Some x → slice_get (xs ++ ys) 0 ≡ Some x
get-append [] ys x is = absurd (none-is is)
  where
    none-is : None ≡ Some x → ⊥
    none-is e = let f = e in cc
get-append (y ∷ xs) ys x is = is

some_last : (x : Row) (xs : List Row) → (last : Row) × (slice_get (reverse (x ∷ xs)) 0 ≡ Some last)
some_last x xs = go (reverse xs) refl
  where
    go : (before : List Row) → reverse xs ≡ before → (last : Row) × (slice_get (reverse (x ∷ xs)) 0 ≡ Some last)
    go [] is = (x, ap (λ l. slice_get l 0) (reverse-cons x xs ∙ ap (λ l. l ++ x ∷ []) is))
    go (y ∷ before) is = (y, ap (λ l. slice_get l 0) (reverse-cons x xs ∙ ap (λ l. l ++ x ∷ []) is))

next_above : (n : ℤ) → value_cmp (Int n) (Int (n +ℤ pos 1)) ≡ Less
next_above n = value_cmp-Int n (n +ℤ pos 1) ∙ grind (arith, ints, nat_tests)

pub id_is_new : (rows : List Row) (last : Option Row) (id : ℤ) → IsTable rows → IsLastRow rows last → IsIdAfter last id → IsNewId id rows
id_is_new [] last id up is after = tt
id_is_new (row ∷ []) None id up is after = absurd (let e = is in cc)
id_is_new (row ∷ []) (Some last) id up is after =
    (subst (λ v. value_cmp v (Int id) ≡ Less) (sym (ap rowid (some-is is) ∙ after.1)) (subst (λ i. value_cmp (Int after.0) (Int i) ≡ Less) (sym after.2) (next_above after.0)), tt)
id_is_new (row ∷ next ∷ rows) last id up is after =
    let end = some_last next rows in
    let same : last ≡ Some end.0 = sym is ∙ ap (λ l. slice_get l 0) (reverse-cons row (next ∷ rows)) ∙ get-append (reverse (next ∷ rows)) (row ∷ []) end.0 end.1 in
    let more = id_is_new (next ∷ rows) last id up.1 (end.1 ∙ sym same) after in
    (value_cmp_total.trans (rowid row) (rowid next) (Int id) up.0.0 more.0, more)

-- a row behind all others is added at the end
pub put_last : (new : Row) (rows : List Row) → AllByRecursion (λ row. value_cmp (rowid row) (rowid new) ≡ Less) rows → put_row new rows ≡ rows ++ new ∷ []
put_last new [] all = refl
put_last new (row ∷ rows) all = rw all.0 (ap (λ l. row ∷ l) (put_last new rows all.1))

-- a store that is not broken is clean
pub sound_is_clean : (view : View) → (view.is_clean ≡ false → view.is_open ≡ false) → (view.is_open ≡ false → IsTrue view.is_broken) → view.is_broken ≡ false
    → IsClean view
sound_is_clean view shut broken sound = go view.is_clean refl
  where
    go : (b : Bool) → view.is_clean ≡ b → IsClean view
    go true is = no_doubt view.is_clean is
    go false is = absurd (true≢false (sym (broken (shut is)) ∙ sound))

map_ok : {T E P Q : Type 0} (result : Result T E) → (P → Q) → OnOk result P → OnOk result Q
map_ok (Ok value) more holds = more holds
map_ok (Err error) more holds = tt

map_err : {T E P Q : Type 0} (result : Result T E) → (P → Q) → OnErr result P → OnErr result Q
map_err (Ok value) more holds = tt
map_err (Err error) more holds = more holds

pub map_if_ok : {T E : Type 0} {P Q : T → Type 0} (result : Result T E) → ((value : T) → P value → Q value) → IfOk result P → IfOk result Q
map_if_ok (Ok value) more holds = more value holds
map_if_ok (Err error) more holds = tt

pub no_match : (entries : List Row) (entry : Row) (found : Bool) → found ≡ false → slice_get entries 0 ≡ (if found then Some entry else None) → entries ≡ []
no_match [] entry found none is = refl
no_match (e ∷ entries) entry found none is = absurd (let none_is : Some e ≡ None = is ∙ ap (λ b. if b then Some entry else None) none in cc)

-- a row that is written behind all others, with a key that no entry has, is added
adds : (table index : ℕ) (key columns row entry : Row) (id : ℤ) (before after : Trees) → row ≡ Int id ∷ columns → entry ≡ key ++ Int id ∷ [] → IsNewId id (before table)
    → matching key (before index) ≡ [] → Writes table index row entry before after → AddsRow table index key columns before after
adds table index key columns row entry id before after row_is entry_is new_id new_key written =
    let last : put_row row (before table) ≡ before table ++ (Int id ∷ columns) ∷ [] =
    ap (λ r. put_row r (before table)) row_is ∙ put_last (Int id ∷ columns) (before table) new_id in
    record {
      id = id;
      new_id = new_id;
      new_key = new_key;
      is = written ∙ ap (λ rows. with_tree (with_tree before table rows) index (insert_entry plain entry (before index))) last
          ∙ ap (λ e. with_tree (with_tree before table (before table ++ (Int id ∷ columns) ∷ [])) index (insert_entry plain e (before index))) entry_is;
    }

-- the same of the calls that look for the key and for the last row, and then write
pub adds_row : {S T E : Type 0} (view : S → View) (recovers : S → Trees → Type 0) (result : Result T E) (old mid new : S) (table index : ℕ) (key columns row entry : Row) (id : ℤ)
    → row ≡ Int id ∷ columns → entry ≡ key ++ Int id ∷ []
    → doubt (view old).is_clean ≤ doubt (view mid).is_clean
    → (IsClean (view mid) → IsSame (view old) (view mid) × IsNewId id ((view old).trees table) × (matching key ((view old).trees index) ≡ []))
    → ((db : Trees) → recovers mid db → recovers old db)
    → Puts view recovers (Writes table index row entry) result mid new → Puts view recovers (AddsRow table index key columns) result old new
adds_row {S} view recovers result old mid new table index key columns row entry id row_is entry_is falls known outcomes puts =
    let added : (db : Trees) → IsClean (view mid) → Writes table index row entry (view mid).trees db → AddsRow table index key columns (view old).trees db =
    λ db clean written.
    let is = known clean in
    adds table index key columns row entry id (view old).trees db row_is entry_is is.1 is.2 (subst (λ t. Writes table index row entry t db) (ap (λ v. v.trees) is.0) written) in
    record {
      clean = (let more = puts.clean in omega arith);
      put = map_ok result (λ written clean. added (view new).trees (let more = puts.clean in omega arith) (written clean)) puts.put;
      committed = puts.committed;
      held = map_err result (λ held clean is_open.
          let before : IsClean (view mid) = (let more = puts.clean in omega arith) in
          held clean is_open ∙ ap (λ v. v.committed) (known before).0) puts.held;
      stops = λ db left. elim (puts.stops db left) [
        | inl before ↦ inl (outcomes db before)
        | inr after ↦ inr ((let now = after.0 in omega arith), added db after.0 after.1)
      ];
    }
