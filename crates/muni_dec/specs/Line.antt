-- Lines of texts.
use Rattle.std.specs.Prelude.{ℕ, List, [], ◌∷◌, ◌++◌}

-- parts with a blank before each
abbrev pub behind_blanks : List (List ℕ) → List ℕ
behind_blanks [] = []
behind_blanks (part ∷ parts) = 32 ∷ part ++ behind_blanks parts

-- a line is its parts with one blank between, and the line end
abbrev pub line : List (List ℕ) → List ℕ
line [] = 10 ∷ []
line (part ∷ parts) = part ++ behind_blanks parts ++ 10 ∷ []
