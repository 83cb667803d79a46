-- The trades of desks, as finite maps.
use Rattle.std.specs.Prelude.{ℕ, Bool, true, List, Option, Some, None}
use Rattle.std.specs.Option.{unwrap_or}
use Rattle.std.specs.List.{filter}
use Rattle.std.specs.Ordering.{nat_cmp, is_lt}
use Rattle.std.specs.declared.cmp.Ordering.{Ordering}
use Rattle.std.specs.declared.ops.Bound.{Bound}
use Rattle.std.specs.declared.ops.Bound.TheVariants.{Excluded, Unbounded}
use Rattle.std.specs.Cmp.Lexicographic.{slice_cmp}
use Rattle.std.specs.Coded.{Coded, coded_ℕ, coded_list}
use Rattle.std.specs.FinMap.{FinMap, empty, get, insert, entries, code as map_code}
use Rattle.muni_keep.specs.History.{History, history_code, grown}

-- the order of names, references and CUSIPs: that of their bytes
abbrev pub by_bytes : List ℕ → List ℕ → Ordering
by_bytes = slice_cmp nat_cmp

-- the trades of one desk, by their references
abbrev pub Trades : Type 0 → Type 0
Trades V = FinMap by_bytes (History V)

-- the trades of all desks, by the names of the desks
abbrev pub Desks : Type 0 → Type 0
Desks V = FinMap by_bytes (Trades V)

-- maps are stored as lists of their entries
abbrev pub trades_code : {V : Type 0} → Coded V → Coded (Trades V)
trades_code code = map_code (coded_list coded_ℕ) (history_code code)

abbrev pub desks_code : {V : Type 0} → Coded V → Coded (Desks V)
desks_code code = map_code (coded_list coded_ℕ) (trades_code code)

-- a desk's own trades, of which there may be none
abbrev pub own : {V : Type 0} → List ℕ → Desks V → Trades V
own desk desks = unwrap_or (get desks desk) empty

-- a key stands after another, if one is given
abbrev pub is_past : Option (List ℕ) → List ℕ → Bool
is_past None key = true
is_past (Some other) key = is_lt (by_bytes other key)

-- the entries of a map after a key, if one is given, in the order of their keys
abbrev pub past : {V : Type 0} → Option (List ℕ) → FinMap by_bytes V → List (List ℕ × V)
past after map = filter (λ entry. is_past after entry.0) (entries map)

-- the trades after a reference, if one is given, in the order of their references
abbrev pub trades_past : {V : Type 0} → Option (List ℕ) → Trades V → List (List ℕ × History V)
trades_past after trades = past after trades

-- where those after a key begin
abbrev pub bound_past : {Key : Type 0} → Option Key → Bound Key
bound_past None = Unbounded
bound_past (Some after) = Excluded after

-- with the next version of a trade
abbrev pub put_own : {V : Type 0} → List ℕ → V → Trades V → Trades V
put_own reference version trades = insert trades reference (grown (get trades reference) version)

-- with the next version of a desk's trade
abbrev pub put : {V : Type 0} → List ℕ → List ℕ → V → Desks V → Desks V
put desk reference version desks = insert desks desk (put_own reference version (own desk desks))
