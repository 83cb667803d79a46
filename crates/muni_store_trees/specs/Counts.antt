-- How many trades a store has counted of desks, in the order of their names.
use Rattle.std.specs.Prelude.{ℕ, ◌+◌, ◌-◌, ◌^◌, ◌==◌, ◌&&◌, if◌then◌else◌, Bool, min, List, Option}
use Rattle.std.specs.Option.{option_map, unwrap_or}
use Rattle.std.specs.Map.{lookup}
use Rattle.std.specs.BTreeMap.{insert_entry, is_at}
use Rattle.muni_keep.specs.Trades.{by_bytes}

abbrev pub Counts : Type 0
Counts = List (List ℕ × ℕ)

-- the count of a desk, if it was counted
abbrev pub count_of : List ℕ → Counts → Option ℕ
count_of desk counts = lookup (is_at (by_bytes desk)) counts

-- with this count of a desk
abbrev pub with_count : List ℕ → ℕ → Counts → Counts
with_count desk count counts = insert_entry by_bytes counts desk count

-- with one trade more of a desk, if it was counted, as far as 32 bits count
abbrev pub with_one_more : List ℕ → Counts → Counts
with_one_more desk counts =
    unwrap_or (option_map (λ count. with_count desk (min (count + 1) (2 ^ 32 - 1)) counts) (count_of desk counts)) counts

-- after a version of a trade with this number was put: the first that is kept is one trade more
abbrev pub after_put : List ℕ → ℕ → Bool → Counts → Counts
after_put desk number is_kept counts =
    if (number == 1) && is_kept then with_one_more desk counts else counts
