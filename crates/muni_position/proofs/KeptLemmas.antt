-- What is kept of a CUSIP.
use Rattle.std.proofs.Common.{◌≡◌, ℕ, Bool, true, false, cond, List, Option, Some, None, refl, sym, ap, ◌∙◌}
use Rattle.std.specs.Prelude.{IsSome, is_some}
use Rattle.std.specs.Option.{unwrap_or}
use Rattle.std.specs.BTreeMap as tree
use Rattle.std.specs.BTreeMap.{is_at}
use Rattle.std.proofs.lemmas.Map.Lookups.{exact_bytes}
use Rattle.std.proofs.lemmas.Map.Views.{tells_apart}
use Rattle.muni_keep.specs.Trades.{by_bytes}
use Rattle.muni_position.specs.Holding.{nothing}
use Rattle.muni_position.specs.Holdings.{Holdings, kept}
use Rattle.muni_position.specs.declared.holding.Holding.{Holding}

none_is : (o : Option Holding) → is_some o ≡ false → o ≡ None
none_is None is = refl
none_is (Some h) is = absurd (cc is)

-- an empty holding more is none
pub room_made : (m n : Holdings) (key other : List ℕ) → is_some (tree.get by_bytes m key) ≡ false
    → tree.get by_bytes n other ≡ cond (is_at (by_bytes key) other) (Some nothing) (tree.get by_bytes m other) → kept n other ≡ kept m other
room_made m n key other none is =
    ap (λ found. unwrap_or found nothing) is
    ∙ elim (is_at (by_bytes key) other) as (λ b. is_at (by_bytes key) other ≡ b → unwrap_or (cond b (Some nothing) (tree.get by_bytes m other)) nothing ≡ kept m other) [
      | true ↦ λ t. sym (ap (λ found. unwrap_or found nothing) (ap (tree.get by_bytes m) (sym (tells_apart exact_bytes key other t)) ∙ none_is _ none))
      | false ↦ λ t. refl
    ] refl

some_still : (b : Bool) (h : Holding) (old new : Option Holding) → new ≡ cond b (Some h) old → IsSome old → IsSome new
some_still true h old new is some = ap is_some is
some_still false h old new is some = ap is_some is ∙ some

pub room_stays : (m n : Holdings) (key other : List ℕ) (h : Holding)
    → tree.get by_bytes n other ≡ cond (is_at (by_bytes key) other) (Some h) (tree.get by_bytes m other) → IsSome (tree.get by_bytes m other) → IsSome (tree.get by_bytes n other)
room_stays m n key other h is some = some_still (is_at (by_bytes key) other) h _ _ is some

-- a holding in place of another leaves the rooms as they are
pub rooms_kept : (m n : Holdings) (key other : List ℕ) (h : Holding) → IsSome (tree.get by_bytes m key)
    → tree.get by_bytes n other ≡ cond (is_at (by_bytes key) other) (Some h) (tree.get by_bytes m other) → is_some (tree.get by_bytes n other) ≡ is_some (tree.get by_bytes m other)
rooms_kept m n key other h some is =
    ap is_some is
    ∙ elim (is_at (by_bytes key) other) as (λ b. is_at (by_bytes key) other ≡ b → is_some (cond b (Some h) (tree.get by_bytes m other)) ≡ is_some (tree.get by_bytes m other)) [
      | true ↦ λ t. sym (ap (λ k. is_some (tree.get by_bytes m k)) (sym (tells_apart exact_bytes key other t)) ∙ some)
      | false ↦ λ t. refl
    ] refl
