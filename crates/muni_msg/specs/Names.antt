-- Names of desks and references of trades, as lists of bytes.
use Rattle.std.specs.Prelude.{ℕ, ◌≡◌, ◌≤◌, ◌||◌, Bool, not, List, length, position, None}
use Rattle.std.specs.Char.{is_ascii_digit, is_ascii_uppercase}

-- what the name of a desk is made of
abbrev pub is_desk_letter : ℕ → Bool
is_desk_letter b = is_ascii_uppercase b || is_ascii_digit b

-- one to so many bytes, all of which are letters of such a name
pub record IsName (is_letter : ℕ → Bool) (most : ℕ) (bytes : List ℕ) : Type 0 where
  pub some : 1 ≤ length bytes
  pub few : length bytes ≤ most
  pub letters : position (λ b. not (is_letter b)) bytes ≡ None
