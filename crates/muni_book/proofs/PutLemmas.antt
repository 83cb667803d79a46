-- The trades of desks after a version was put.
use Rattle.std.proofs.Common.{◌≡◌, ◌≢◌, ◌⊎◌, inl, inr, ℕ, ◌+◌, ◌-◌, ◌==◌, Bool, true, false, cond, refl, sym, ap, ◌∙◌, arith, Option, Some, None, List, [], ◌∷◌, ◌++◌, length}
use Rattle.std.specs.Prelude.{if◌then◌else◌, slice_get}
use Rattle.std.specs.Option.{unwrap_or, option_map, option_and_then}
use Rattle.std.specs.Ordering.{eq_by_cmp}
use Rattle.std.specs.Cmp.{eq_by_cmp_equiv}
use Rattle.std.specs.Cmp.Lexicographic.{nat_list_cmp_total}
use Rattle.std.specs.FinMap.{get, empty, get-insert}
use Rattle.std.proofs.lemmas.Bool.{eqb-true}
use Rattle.std.proofs.lemmas.Option.{same_Some, slice_get_past}
use Rattle.std.proofs.lemmas.Map.Lookups.{exact_bytes}
use Rattle.std.proofs.lemmas.Map.Views.{tells_apart}
use Rattle.muni_msg.specs.declared.command.Key.{Key}
use Rattle.muni_msg.specs.declared.version.Version.{Version}
use Rattle.muni_keep.specs.History.{History, versions, count, version_in, next_number, grown}
use Rattle.muni_keep.specs.Tables.{Tables, trade_at, version_at, last_at, with_version}
use Rattle.muni_keep.specs.Trades.{by_bytes, Desks, own, put, put_own}

-- names are equal if their order says so
pub itself : (q : List ℕ) → eq_by_cmp by_bytes q q ≡ true
itself q = (eq_by_cmp_equiv nat_list_cmp_total).refl q

pub same-name : (q d : List ℕ) → eq_by_cmp by_bytes q d ≡ true → q ≡ d
same-name q d h = tells_apart exact_bytes q d h

pub other-name : (q d : List ℕ) → eq_by_cmp by_bytes q d ≡ false → q ≢ d
other-name q d h = λ same. let never : true ≡ false = sym (itself q) ∙ ap (λ x. eq_by_cmp by_bytes q x) same ∙ h in cc

unwrapped : {A : Type 0} (b : Bool) (x : A) (o : Option A) (d : A) → unwrap_or (cond b (Some x) o) d ≡ cond b x (unwrap_or o d)
unwrapped true x o d = refl
unwrapped false x o d = refl

-- the trades of a desk
pub own-put : {V : Type 0} (q d r : List ℕ) (v : V) (desks : Desks V) → own q (put d r v desks) ≡ cond (eq_by_cmp by_bytes q d) (put_own r v (own d desks)) (own q desks)
own-put q d r v desks =
    ap (λ o. unwrap_or o empty) (get-insert nat_list_cmp_total desks d (put_own r v (own d desks)) q) ∙ unwrapped (eq_by_cmp by_bytes q d) _ _ _

-- the trade that the version was put to has it as its last, and all others are as they were
abbrev pub IsPutTo : Tables → Key → Version → Key → Type 0
IsPutTo t key version other =
    ((other ≡ key) × (trade_at (with_version key version t) other ≡ Some (grown (trade_at t key) version)))
    ⊎ ((other ≢ key) × (trade_at (with_version key version t) other ≡ trade_at t other))

same-key : (other key : Key) → other.desk ≡ key.desk → other.reference ≡ key.reference → other ≡ key
same-key other key desk reference = λ i. record { desk = desk i; reference = reference i }

pub trade-put : (t : Tables) (key : Key) (version : Version) (other : Key) → IsPutTo t key version other
trade-put t key version other =
    let trades = own key.desk t.desks in
    let at-desk = ap (λ own. get own other.reference) (own-put other.desk key.desk key.reference version t.desks) in
    elim (eq_by_cmp by_bytes other.desk key.desk) as (λ b. eq_by_cmp by_bytes other.desk key.desk ≡ b → IsPutTo t key version other) [
      | true ↦ λ desk.
          let found = at-desk ∙ ap (λ b. get (cond b (put_own key.reference version trades) (own other.desk t.desks)) other.reference) desk
          ∙ get-insert nat_list_cmp_total trades key.reference (grown (get trades key.reference) version) other.reference in
          elim (eq_by_cmp by_bytes other.reference key.reference) as (λ b. eq_by_cmp by_bytes other.reference key.reference ≡ b → IsPutTo t key version other) [
            | true ↦ λ reference.
                inl (
                  same-key other key (same-name other.desk key.desk desk) (same-name other.reference key.reference reference),
                  found ∙ ap (λ b. cond b (Some (grown (get trades key.reference) version)) (get trades other.reference)) reference,
                )
            | false ↦ λ reference.
                inr (
                  λ same. other-name other.reference key.reference reference (ap (λ k. k.reference) same),
                  found ∙ ap (λ b. cond b (Some (grown (get trades key.reference) version)) (get trades other.reference)) reference
                      ∙ ap (λ d. get (own d t.desks) other.reference) (sym (same-name other.desk key.desk desk)),
                )
          ] refl
      | false ↦ λ desk.
          inr (
            λ same. other-name other.desk key.desk desk (ap (λ k. k.desk) same),
            at-desk ∙ ap (λ b. get (cond b (put_own key.reference version trades) (own other.desk t.desks)) other.reference) desk,
          )
    ] refl

-- ---- a version is found under the next number
pub length-behind : {A : Type 0} (xs : List A) (x : A) → length (xs ++ x ∷ []) ≡ length xs + 1
length-behind [] x = refl
length-behind (a ∷ xs) x = let e = length-behind xs x in omega arith

last-read : {A : Type 0} (xs : List A) (x : A) → slice_get (xs ++ x ∷ []) (length xs) ≡ Some x
last-read [] x = refl
last-read (a ∷ xs) x = last-read xs x

read-last : {A : Type 0} (xs : List A) (x : A) (n : ℕ) → n ≡ length xs + 1 → (if n == 0 then None else slice_get (xs ++ x ∷ []) (n - 1)) ≡ Some x
read-last xs x n is =
    elim (n == 0) as (λ b. n == 0 ≡ b → (if b then None else slice_get (xs ++ x ∷ []) (n - 1)) ≡ Some x) [
      | true ↦ λ z. let zero_is : n ≡ 0 = eqb-true n 0 z in absurd (omega arith)
      | false ↦ λ z. let place : n - 1 ≡ length xs = omega arith in rw place (last-read xs x)
    ] refl

pub grown-next : {V : Type 0} (trade : Option (History V)) (v : V) → version_in (grown trade v) (next_number trade) ≡ Some v
grown-next None v = refl
grown-next (Some history) v = read-last (versions history) v (count history + 1) (ap (λ n. n + 1) (sym (length-behind history.earlier history.last)))

-- ---- the last version is found under its number, and none under the next
read-past : {A : Type 0} (xs : List A) (x : A) (n : ℕ) → n ≡ length xs + 2 → (if n == 0 then None else slice_get (xs ++ x ∷ []) (n - 1)) ≡ None
read-past xs x n is =
    elim (n == 0) as (λ b. (if b then None else slice_get (xs ++ x ∷ []) (n - 1)) ≡ None) [
      | true ↦ refl
      | false ↦ let many = length-behind xs x in slice_get_past (xs ++ x ∷ []) (n - 1) (omega arith)
    ]

pub last-in : {V : Type 0} (trade : Option (History V)) (last : ℕ × V) → option_map (λ history. (count history, history.last)) trade ≡ Some last → option_and_then (λ history. version_in history last.0) trade ≡ Some last.1
last-in None last is = absurd (let never : None ≡ Some last = is in cc)
last-in {V} (Some history) last is =
    let same = same_Some (count history, history.last) last is in
    read-last history.earlier history.last last.0 (ap (λ (pair : ℕ × V). pair.0) (sym same)) ∙ ap (λ (pair : ℕ × V). Some pair.1) same

pub none-next : {V : Type 0} (trade : Option (History V)) (last : ℕ × V) → option_map (λ history. (count history, history.last)) trade ≡ Some last → option_and_then (λ history. version_in history (last.0 + 1)) trade ≡ None
none-next None last is = refl
none-next {V} (Some history) last is =
    let same = same_Some (count history, history.last) last is in
    let counted : last.0 ≡ length history.earlier + 1 = ap (λ (pair : ℕ × V). pair.0) (sym same) in
    read-past history.earlier history.last (last.0 + 1) (omega (arith, counted))

pub last-kept : (t : Tables) (key : Key) (last : ℕ × Version) → last_at t key ≡ Some last → version_at t key last.0 ≡ Some last.1
last-kept t key last is = last-in (trade_at t key) last is

pub next-free : (t : Tables) (key : Key) (number : ℕ) (last : ℕ × Version) → last_at t key ≡ Some last → number ≡ last.0 + 1 → version_at t key number ≡ None
next-free t key number last is next = ap (version_at t key) next ∙ none-next (trade_at t key) last is

pub version-put : (t : Tables) (key : Key) (number : ℕ) (version : Version) → number ≡ next_number (trade_at t key) → version_at (with_version key version t) key number ≡ Some version
version-put t key number version next =
    elim (trade-put t key version key) as (λ _. version_at (with_version key version t) key number ≡ Some version) [
      | inl there ↦ ap (option_and_then (λ history. version_in history number)) there.1 ∙ ap (version_in (grown (trade_at t key) version)) next ∙ grown-next (trade_at t key) version
      | inr other ↦ absurd (other.0 refl)
    ]
