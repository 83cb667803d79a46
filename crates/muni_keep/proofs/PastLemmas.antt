-- The entries of a map after a key.
use Rattle.std.proofs.Common.{◌≡◌, ℕ, List, [], ◌∷◌, Option, Some, None, Bool, true, false, refl, sym, ap, ◌∙◌}
use Rattle.std.specs.Prelude.{◌&&◌, slice_get}
use Rattle.std.specs.List.{filter}
use Rattle.std.specs.List.Sorted.{IsStrictlySortedBy}
use Rattle.std.specs.Map.{keys_of}
use Rattle.std.specs.Option.{unwrap_or}
use Rattle.std.specs.FinMap.{FinMap, empty, from_entries}
use Rattle.std.specs.declared.ops.Bound.{Bound}
use Rattle.std.specs.declared.ops.Bound.TheVariants.{Unbounded}
use Rattle.std.specs.BTreeMap.Range.{entries_between, range_contains}
use Rattle.std.proofs.lemmas.List.Elements.{filter_agree}
use Rattle.muni_keep.specs.History.{History}
use Rattle.muni_keep.specs.Trades.{Trades, by_bytes, is_past, past, trades_past, bound_past}
use Rattle.muni_keep.proofs.MapLemmas.{entries-empty, entries_are}

no_end : (b : Bool) → (b && true) ≡ b
no_end true = refl
no_end false = refl

begins : {V : Type 0} (after : Option (List ℕ)) (entry : List ℕ × V) → range_contains by_bytes (bound_past after) Unbounded entry.0 ≡ is_past after entry.0
begins None entry = refl
begins (Some after) entry = no_end _

-- they are the entries of a range
pub past_is : {V : Type 0} (es found : List (List ℕ × V)) (map : FinMap by_bytes V) (after : Option (List ℕ)) (bound : Bound (List ℕ)) → from_entries es ≡ map → IsStrictlySortedBy by_bytes (keys_of es) → bound ≡ bound_past after → found ≡ entries_between by_bytes bound Unbounded es → found ≡ past after map
past_is es found map after bound is sorted begin between =
    between ∙ ap (λ bound. entries_between by_bytes bound Unbounded es) begin ∙ filter_agree _ _ (begins after) es
    ∙ ap (filter (λ entry. is_past after entry.0)) (sym (entries_are es map is sorted))

-- the first of them is the one that the range gives
pub first_is : {V : Type 0} (found rest all : List (List ℕ × V)) (entry : List ℕ × V) → found ≡ entry ∷ rest → found ≡ all → Some entry ≡ slice_get all 0
first_is found rest all entry gives is = ap (λ es. slice_get es 0) (sym gives ∙ is)

-- there is none if the range has none
pub none_is : {V : Type 0} (found all : List (List ℕ × V)) → found ≡ [] → found ≡ all → None ≡ slice_get all 0
none_is found all none is = ap (λ es. slice_get es 0) (sym none ∙ is)

-- a desk without trades has none
pub no_past : {V : Type 0} (found : Option (Trades V)) (after : Option (List ℕ)) → None ≡ found → trades_past after (unwrap_or found empty) ≡ []
no_past {V} found after none =
    ap (λ found. trades_past after (unwrap_or found (empty {X = History V} {R = by_bytes}))) (sym none)
    ∙ ap (filter (λ trade. is_past after trade.0)) entries-empty
