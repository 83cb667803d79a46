-- A keeper that is lent and given back.
use Rattle.std.proofs.Common.{◌≡◌, ◌≢◌, ℕ, List, Bool, true, false, Option, Some, None, IfSome, is_some, refl, sym, subst, ◌∙◌}
use Rattle.std.specs.Bool.{Decides}
use Rattle.std.specs.Prelude.{nat_eq}
use lib.Pointwise.{pointwise}
use Rattle.muni_keep.specs.Tables.{Tables}
use Rattle.muni_msg.proofs.AskedLemmas.{numbers_decide}

-- what is known of names: before a keeper is lent, while it is out, and once it is back
abbrev Told : Type 0
Told = List ℕ → Option Tables

-- what is known of one if something is known of another
as-told : (a b : Option Tables) → is_some b ≡ is_some a → a ≡ None → b ≡ None
as-told a None same none = refl
as-told a (Some t) same none = absurd (cc (same, none))

told-too : (a b : Option Tables) (t : Tables) → is_some b ≡ is_some a → a ≡ Some t → (u : Tables) × (b ≡ Some u)
told-too a None t same some = absurd (cc (same, some))
told-too a (Some u) t same some = (u, refl)

-- The tables of the keeper are then those of its name, if that name was known.
pub given-back : (store : List ℕ) (lent_as : ℕ) (old mid new : Told) (out : Option (List ℕ × ℕ)) (kept : Option Tables) (t u : Tables)
    → old store ≡ Some t → is_some (mid store) ≡ is_some (old store) → out ≡ Some (store, lent_as)
    → IfSome out (λ lent. IfSome (mid lent.0) (λ _. IfSome kept (λ k. new lent.0 ≡ Some k)))
    → kept ≡ Some u → new store ≡ Some u
given-back store lent_as old mid new out kept t u told tells lent back is =
    let there = told-too (old store) (mid store) t tells told in
    let first = subst (λ o. IfSome o (λ lent. IfSome (mid lent.0) (λ _. IfSome kept (λ k. new lent.0 ≡ Some k)))) lent back in
    let second = subst (λ m. IfSome m (λ _. IfSome kept (λ k. new store ≡ Some k))) there.1 first in
    subst (λ kept. IfSome kept (λ k. new store ≡ Some k)) is second

-- if the keeper's tables are those that it was lent with, nothing changes
same-store : (store : List ℕ) (lent_as : ℕ) (old mid new : Told) (out : Option (List ℕ × ℕ)) (first kept told : Option Tables) → old store ≡ told
    → is_some (mid store) ≡ is_some (old store) → is_some (new store) ≡ is_some (mid store) → out ≡ Some (store, lent_as)
    → IfSome (old store) (λ t. first ≡ Some t) → kept ≡ first
    → IfSome out (λ lent. IfSome (mid lent.0) (λ _. IfSome kept (λ k. new lent.0 ≡ Some k)))
    → new store ≡ old store
same-store store lent_as old mid new out first kept None told tells again lent fetched same back =
    as-told (mid store) (new store) again (as-told (old store) (mid store) tells told) ∙ sym told
same-store store lent_as old mid new out first kept (Some t) told tells again lent fetched same back =
    let is : first ≡ Some t = subst (λ o. IfSome o (λ t. first ≡ Some t)) told fetched in
    given-back store lent_as old mid new out kept t t told tells lent back (same ∙ is) ∙ sym told

other-by : (store other : List ℕ) (test : Bool) (lent_as : ℕ) (old mid new : Told) (out : Option (List ℕ × ℕ)) → Decides test (other ≡ store) → new store ≡ old store
    → (other ≢ store → mid other ≡ old other) → out ≡ Some (store, lent_as) → IfSome out (λ lent. (other : List ℕ) → other ≢ lent.0 → new other ≡ mid other)
    → new other ≡ old other
other-by store other true lent_as old mid new out decides same before lent behind =
    let is = decides.0 refl in
    subst (λ name. new name ≡ old name) (sym is) same
other-by store other false lent_as old mid new out decides same before lent behind =
    let differs : other ≢ store = λ is. absurd (cc (decides.1 is)) in
    let after = subst (λ o. IfSome o (λ lent. (other : List ℕ) → other ≢ lent.0 → new other ≡ mid other)) lent behind in
    after other differs ∙ before differs

pub nothing-changes : (store : List ℕ) (lent_as : ℕ) (old mid new : Told) (out : Option (List ℕ × ℕ)) (first kept : Option Tables)
    → ((other : List ℕ) → is_some (mid other) ≡ is_some (old other)) → ((other : List ℕ) → is_some (new other) ≡ is_some (mid other)) → out ≡ Some (store, lent_as)
    → ((other : List ℕ) → other ≢ store → mid other ≡ old other) → IfSome out (λ lent. (other : List ℕ) → other ≢ lent.0 → new other ≡ mid other)
    → IfSome (old store) (λ t. first ≡ Some t) → kept ≡ first
    → IfSome out (λ lent. IfSome (mid lent.0) (λ _. IfSome kept (λ k. new lent.0 ≡ Some k)))
    → (other : List ℕ) → new other ≡ old other
nothing-changes store lent_as old mid new out first kept tells again lent before behind fetched same back other =
    let here = same-store store lent_as old mid new out first kept (old store) refl (tells store) (again store) lent fetched same back in
    other-by store other (pointwise nat_eq other store) lent_as old mid new out (numbers_decide other store) here (before other) lent behind
