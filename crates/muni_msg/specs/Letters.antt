-- The letters of names: bytes with zeros after them.
use Rattle.std.specs.Prelude.{ℕ, ◌≡◌, ◌+◌, ◌*◌, ◌-◌, ◌^◌, ◌<◌, ◌≤◌, List, [], ◌∷◌, drop, replicate}
use Prim.Native.Nat.{zero, suc}

-- so many bytes of an array of this length are letters, and zeros come after them; eight make a number
pub record IsPadded (most : ℕ) (bytes : List ℕ) (count : ℕ) : Type 0 where
  pub wide : 8 ≤ most
  pub narrow : most < 256
  pub fits : count ≤ most
  pub zeros : drop count bytes ≡ replicate (most - count) 0

-- the first so many letters as the digits of a number, with zeros for those that are missing
abbrev pub front : ℕ → List ℕ → ℕ
front zero letters = 0
front (suc n) [] = 0
front (suc n) (letter ∷ letters) = letter * 256 ^ n + front n letters
