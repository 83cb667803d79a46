-- What stands at the path of a store.
use Rattle.std.specs.Prelude.{ℕ, ◌==◌, ◌&&◌, Bool, if◌then◌else◌, List, [], ◌∷◌, ◌++◌, codes}
use Rattle.std.specs.Str.{bytes_eq}
use Rattle.muni_store.specs.declared.look.Kind.{Kind}
use Rattle.muni_store.specs.declared.look.Kind.TheVariants.{Unmade, Database, Other}

-- the first 16 bytes of a database
abbrev pub head_of_database : List ℕ
head_of_database = codes "SQLite format 3" ++ 0 ∷ []

-- the kind of a file by its first 16 bytes: an empty one is not made yet, nor is one that begins with 0 beside a
-- log that is begun, as a stop in the making leaves it
abbrev pub kind_of : List ℕ → Bool → Kind
kind_of [] is_log_begun = Unmade
kind_of (first ∷ rest) is_log_begun =
    if (first == 0) && is_log_begun then Unmade
    else (if bytes_eq (first ∷ rest) head_of_database then Database else Other)
