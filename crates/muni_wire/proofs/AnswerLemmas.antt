-- Bytes that are appended one after another.
use Rattle.std.proofs.Common.{◌≡◌, ℕ, List, ◌++◌, ap, ◌∙◌}
use Rattle.std.proofs.lemmas.List.{append_assoc}

pub three : (had a b c : List ℕ) → ((had ++ a) ++ b) ++ c ≡ had ++ ((a ++ b) ++ c)
three had a b c = ap (λ l. l ++ c) (append_assoc had a b) ∙ append_assoc had (a ++ b) c

pub four : (had a b c d : List ℕ) → (((had ++ a) ++ b) ++ c) ++ d ≡ had ++ (((a ++ b) ++ c) ++ d)
four had a b c d = ap (λ l. l ++ d) (three had a b c) ∙ append_assoc had ((a ++ b) ++ c) d
