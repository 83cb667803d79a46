-- What is under a name of a cabinet, after a keeper was put under it or another.
use Rattle.std.proofs.Common.{◌≡◌, ◌≢◌, ℕ, true, false, List, [], ◌∷◌, ◌++◌, Some, Result, Ok, Err, cond, map, refl, sym, ap, subst, ◌∙◌}
use Rattle.std.specs.Prelude.{IsSome, OnErr}
use Rattle.std.specs.Option.{unwrap_or}
use Rattle.std.specs.Ordering.{eq_by_cmp}
use Rattle.std.specs.Cmp.{eq_by_cmp_equiv}
use Rattle.std.specs.Cmp.Lexicographic.{nat_list_cmp_total}
use Rattle.std.specs.FinMap.{FinMap, get, insert, empty, from_entries, get-insert}
use Rattle.std.proofs.lemmas.List.{map-append}
use Rattle.std.proofs.lemmas.Map.Lookups.{exact_bytes}
use Rattle.std.proofs.lemmas.Map.Views.{tells_apart}
use Rattle.muni_keep.specs.Trades.{by_bytes}
use Rattle.muni_keep.specs.MemKeeper.{KeeperState, new_keeper}
use Rattle.muni_keep.specs.MemCabinet.{Keepers, keeper_at}

apart : (name other : List ℕ) → other ≢ name → eq_by_cmp by_bytes other name ≡ false
apart name other differs =
    elim (eq_by_cmp by_bytes other name) as (λ b. eq_by_cmp by_bytes other name ≡ b → b ≡ false) [
      | true ↦ λ same. absurd (differs (tells_apart exact_bytes other name same))
      | false ↦ λ _. refl
    ] refl

get_put : {X : Type 0} (m : FinMap by_bytes X) (name : List ℕ) (x : X) → get (insert m name x) name ≡ Some x
get_put m name x = get-insert nat_list_cmp_total m name x name ∙ ap (λ b. cond b (Some x) (get m name)) ((eq_by_cmp_equiv nat_list_cmp_total).refl name)

pub is_put : {X : Type 0} (m : FinMap by_bytes X) (name : List ℕ) (x : X) → IsSome (get (insert m name x) name)
is_put m name x = subst IsSome (sym (get_put m name x)) refl

-- it is under that name
pub keeper_put : (keepers : Keepers) (name : List ℕ) (keeper : KeeperState) → keeper_at (insert keepers name keeper) name ≡ keeper
keeper_put keepers name keeper = ap (λ found. unwrap_or found (new_keeper [])) (get_put keepers name keeper)

-- and under another all is as it was
pub keeper_kept : (keepers : Keepers) (name other : List ℕ) (keeper : KeeperState) → other ≢ name → keeper_at (insert keepers name keeper) other ≡ keeper_at keepers other
keeper_kept keepers name other keeper differs =
    ap (λ found. unwrap_or found (new_keeper [])) (get-insert nat_list_cmp_total keepers name keeper other ∙ ap (λ b. cond b (Some keeper) (get keepers other)) (apart name other differs))

-- these entries put into a map, the last one first
abbrev pub put_all : {X : Type 0} → List (List ℕ × X) → FinMap by_bytes X → FinMap by_bytes X
put_all [] m = m
put_all (e ∷ es) m = insert (put_all es m) e.0 e.1

put_all-snoc : {X : Type 0} (es : List (List ℕ × X)) (e : List ℕ × X) (m : FinMap by_bytes X) → put_all (es ++ e ∷ []) m ≡ put_all es (insert m e.0 e.1)
put_all-snoc [] e m = refl
put_all-snoc (d ∷ es) e m = ap (λ m. insert m d.0 d.1) (put_all-snoc es e m)

pub put_all-empty : {X : Type 0} (es : List (List ℕ × X)) → put_all es empty ≡ from_entries es
put_all-empty [] = refl
put_all-empty (e ∷ es) = ap (λ m. insert m e.0 e.1) (put_all-empty es)

-- what holds, holds after a refusal
pub on_err : {T E P : Type 0} (r : Result T E) → P → OnErr r P
on_err (Ok x) holds = tt
on_err (Err e) holds = holds

-- the last of those that are left is put into the map
pub put_last : {A X : Type 0} (f : A → List ℕ × X) (all m next : FinMap by_bytes X) (old rest : List A) (x : A) → old ≡ rest ++ x ∷ [] → next ≡ insert m (f x).0 (f x).1
    → put_all (map f old) m ≡ all → put_all (map f rest) next ≡ all
put_last f all m next old rest x last put so_far =
    ap (put_all (map f rest)) put ∙ sym (put_all-snoc (map f rest) (f x) m)
    ∙ ap (λ es. put_all es m) (sym (ap (map f) last ∙ map-append f rest (x ∷ []))) ∙ so_far
