-- What holds of every row and of every answer.
use Rattle.std.proofs.Common.{◌≡◌, ℕ, zero, suc, List, [], ◌∷◌, map, Bool, true, false, refl, ap, arith}
use Rattle.std.specs.Prelude.{Contains, not, ◌&&◌}
use Rattle.std.specs.List.{filter}
use Rattle.muni_rule.proofs.RedemptionLemmas.{contains-filter}
use Rattle.muni_msg.specs.declared.command.Line.{Line}
use Rattle.muni_check.specs.Unseen.{is_live, is_named, is_unseen}

-- a live trade that no row names is among the unseen ones
map-get : {A B : Type 0} (f : A → B) (xs : List A) (x : A) → Contains xs x → Contains (map f xs) (f x)
map-get f [] x (k, inside, is) = absurd (omega (arith, inside))
map-get f (y ∷ xs) x (zero, inside, is) = (0, omega arith, ap f is)
map-get f (y ∷ xs) x (suc k, inside, is) =
    let rest = map-get f xs x (k, omega (arith, inside), is) in
    (suc rest.0, omega (arith, rest.1), rest.2)

both : (a b : Bool) → a ≡ true → b ≡ false → a && not b ≡ true
both a b first second = rw (first, second) refl

pub unseen-told : (trades : List Line) (named : List (List ℕ)) (trade : Line) → Contains trades trade → is_live trade.version.act ≡ true → is_named named trade.reference ≡ false
    → Contains (map (λ (trade : Line). trade.reference) (filter (is_unseen (is_named named)) trades)) trade.reference
unseen-told trades named trade contained live unnamed =
    map-get (λ (trade : Line). trade.reference) (filter (is_unseen (is_named named)) trades) trade
    (contains-filter (is_unseen (is_named named)) trades trade contained (both (is_live trade.version.act) (is_named named trade.reference) live unnamed))
