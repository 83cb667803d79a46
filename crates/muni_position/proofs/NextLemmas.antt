-- The positions of a desk in the order of their CUSIPs.
use Rattle.std.proofs.Common.{arith, ◌≡◌, ◌<◌, ◌≤◌, ◌++◌, append_assoc, ℕ, suc, Bool, true, false, cond, List, [], ◌∷◌, length, map, Option, Some, None, refl, sym, ap, subst, ◌∙◌}
use Rattle.std.specs.Prelude.{◌&&◌, IfSome, is_some, slice_get, nat_lt, T}
use Rattle.std.specs.List.{filter, AllByRecursion}
use Rattle.std.specs.List.Sorted.{IsStrictlySortedBy}
use Rattle.std.specs.Map.{keys_of, lookup}
use Rattle.std.specs.Option.{unwrap_or}
use Rattle.std.specs.Ordering.{eq_by_cmp, is_lt}
use Rattle.std.specs.declared.cmp.Ordering.TheVariants.{Less}
use Rattle.std.specs.declared.ops.Bound.{Bound}
use Rattle.std.specs.declared.ops.Bound.TheVariants.{Unbounded}
use Rattle.std.specs.BTreeMap as tree
use Rattle.std.specs.BTreeMap.{is_at}
use Rattle.std.specs.BTreeMap.Range.{entries_between, range_contains}
use Rattle.std.specs.Cmp.{eq_by_cmp_equiv}
use Rattle.std.specs.Cmp.Lexicographic.{nat_list_cmp_total}
use Rattle.std.specs.FinMap.{from_entries, entries_sorted, get-entries, get-from_entries, find, is_sorted}
use Rattle.std.specs.FinMap.Entries.{below_all, same_entries}
use Rattle.std.proofs.lemmas.Bool.Decides.{nat_tests}
use Rattle.std.proofs.lemmas.List.Elements.{filter_agree}
use Rattle.std.proofs.lemmas.Map.Lookups.{exact_bytes}
use Rattle.std.proofs.lemmas.Map.Views.{tells_apart}
use Rattle.std.proofs.lemmas.Map.Entries.{lookup-filter-keys}
use Rattle.std.proofs.lemmas.List.Kept.{IsStrictlySortedBy-filter}
use Rattle.muni_msg.specs.declared.version.Version.{Version}
use Rattle.muni_keep.specs.Tables.{Tables}
use Rattle.muni_keep.specs.Trades.{by_bytes, is_past}
use Rattle.muni_position.specs.Positions.{is_live, counts, last_versions, position_of, positions_of, past}
use Rattle.muni_position.specs.Holding.{nothing, position_in}
use Rattle.muni_position.specs.Holdings.{Holdings, kept, AreOf, AreRight, bound_past}
use Rattle.muni_position.specs.Line.{position_line, position_lines}
use Rattle.muni_position.specs.Laws.{AreThoseHeld, if_live}
use Rattle.muni_position.specs.declared.holding.Holding.{Holding}
use Rattle.muni_position.specs.declared.position.Position.{Position}
use Rattle.muni_position.proofs.HoldingLemmas.{position_is}
use Rattle.muni_keep.proofs.EntriesLemmas.{all_pass}
use Rattle.muni_position.proofs.PutLemmas.{keys_rise, find_lookup}

-- the positions of those entries that have a live trade
abbrev pub held_of : Holdings → List (List ℕ × Holding) → List (List ℕ × Position)
held_of holdings es = map (λ e. (e.0, position_in (kept holdings e.0))) (filter (λ e. nat_lt 0 (kept holdings e.0).live) es)

turned : (cusip named : List ℕ) → eq_by_cmp by_bytes named cusip ≡ is_at (by_bytes cusip) named
turned cusip named = (eq_by_cmp_equiv nat_list_cmp_total).symm named cusip

some_live : (n : ℕ) → 0 < n → nat_lt 0 n ≡ true
some_live n above = grind (arith, nat_tests)

none_live : (n : ℕ) → n ≤ 0 → nat_lt 0 n ≡ false
none_live n none = grind (arith, nat_tests)

-- what is at a CUSIP among the positions of these versions
found_is : (cusip : List ℕ) (all versions : List Version)
    → find by_bytes cusip (map (λ version. (version.terms.asked.cusip, position_of version.terms.asked.cusip all)) (filter (λ version. is_live version.act) versions))
    ≡ cond (nat_lt 0 (length (filter (counts cusip) versions))) (Some (position_of cusip all)) None
found_is cusip all [] = refl
found_is cusip all (v ∷ vs) =
    let named = v.terms.asked.cusip in
    let at : Version → List ℕ × Position = λ v. (v.terms.asked.cusip, position_of v.terms.asked.cusip all) in
    let live = filter (λ (version : Version). is_live version.act) vs in
    let rest = found_is cusip all vs in
    elim (is_live v.act) as (λ b. find by_bytes cusip (map at (cond b (v ∷ live) live)) ≡ cond (nat_lt 0 (length (cond (b && eq_by_cmp by_bytes named cusip) (v ∷ filter (counts cusip) vs) (filter (counts cusip) vs)))) (Some (position_of cusip all)) None) [
      | true ↦ subst (λ e. find by_bytes cusip (map at (v ∷ live)) ≡ cond (nat_lt 0 (length (cond e (v ∷ filter (counts cusip) vs) (filter (counts cusip) vs)))) (Some (position_of cusip all)) None) (sym (turned cusip named))
          (elim (is_at (by_bytes cusip) named) as (λ b. is_at (by_bytes cusip) named ≡ b → cond b (Some (position_of named all)) (find by_bytes cusip (map at live)) ≡ cond (nat_lt 0 (length (cond b (v ∷ filter (counts cusip) vs) (filter (counts cusip) vs)))) (Some (position_of cusip all)) None) [
            | true ↦ λ t.
                ap (λ k. Some (position_of k all)) (sym (tells_apart exact_bytes cusip named t))
                ∙ sym (ap (λ b. cond b (Some (position_of cusip all)) None) (some_live (suc (length (filter (counts cusip) vs))) (omega arith)))
            | false ↦ λ t. rest
          ] refl)
      | false ↦ rest
    ]

-- a CUSIP is among the positions exactly if a trade of it is live
pub held_at : (versions : List Version) (cusip : List ℕ) → lookup (is_at (by_bytes cusip)) (positions_of versions) ≡ if_live (position_of cusip versions)
unfolding positions_of position_of
held_at versions cusip =
    sym (find_lookup cusip (positions_of versions))
    ∙ sym (get-entries (from_entries {R = by_bytes} (map (λ version. (version.terms.asked.cusip, position_of version.terms.asked.cusip versions)) (filter (λ version. is_live version.act) versions))) cusip)
    ∙ get-from_entries nat_list_cmp_total (map (λ version. (version.terms.asked.cusip, position_of version.terms.asked.cusip versions)) (filter (λ version. is_live version.act) versions)) cusip
    ∙ found_is cusip versions versions

pub positions_rise : (versions : List Version) → IsStrictlySortedBy by_bytes (keys_of (positions_of versions))
unfolding positions_of
positions_rise versions = keys_rise (positions_of versions) (entries_sorted _)

pub are_those_held : (versions : List Version) → AreThoseHeld versions (positions_of versions)
are_those_held versions = record { rising = positions_rise versions; held = held_at versions }

-- entries with other values, at a key
at_key : {X Y : Type 0} (g : List ℕ → Y) (key : List ℕ) (es : List (List ℕ × X))
    → lookup (is_at (by_bytes key)) (map (λ e. (e.0, g e.0)) es) ≡ cond (is_some (lookup (is_at (by_bytes key)) es)) (Some (g key)) None
at_key g key [] = refl
at_key g key (e ∷ es) =
    elim (is_at (by_bytes key) e.0) as (λ b. is_at (by_bytes key) e.0 ≡ b → cond b (Some (g e.0)) (lookup (is_at (by_bytes key)) (map (λ e. (e.0, g e.0)) es)) ≡ cond (is_some (cond b (Some e.1) (lookup (is_at (by_bytes key)) es))) (Some (g key)) None) [
      | true ↦ λ t. ap (λ k. Some (g k)) (sym (tells_apart exact_bytes key e.0 t))
      | false ↦ λ t. at_key g key es
    ] refl

if_found : (found : Option Holding) (position : Position) → cond (is_some (cond (nat_lt 0 (unwrap_or found nothing).live) found None)) (Some position) None ≡ cond (nat_lt 0 (unwrap_or found nothing).live) (Some position) None
if_found None position = refl
if_found (Some h) position = elim (nat_lt 0 h.live) as (λ b. cond (is_some (cond b (Some h) None)) (Some position) None ≡ cond b (Some position) None) [ true ↦ refl | false ↦ refl ]

-- what is at a CUSIP among those that are kept
kept_at : (holdings : Holdings) (cusip : List ℕ) → lookup (is_at (by_bytes cusip)) (held_of holdings holdings.entries) ≡ if_live (position_in (kept holdings cusip))
kept_at holdings cusip =
    let live = λ (k : List ℕ). nat_lt 0 (kept holdings k).live in
    let position = λ (k : List ℕ). position_in (kept holdings k) in
    let test = is_at (by_bytes cusip) in
    at_key position cusip (filter (λ e. live e.0) holdings.entries)
    ∙ ap (λ found. cond (is_some found) (Some (position cusip)) None) (lookup-filter-keys test live (live cusip) (λ k t. ap live (sym (tells_apart exact_bytes cusip k t))) holdings.entries)
    ∙ if_found (tree.get by_bytes holdings cusip) (position cusip)

keys-filter : {X : Type 0} (p : List ℕ → Bool) (es : List (List ℕ × X)) → keys_of (filter (λ e. p e.0) es) ≡ filter p (keys_of es)
keys-filter p [] = refl
keys-filter p (e ∷ es) =
    elim (p e.0) as (λ b. keys_of (cond b (e ∷ filter (λ e. p e.0) es) (filter (λ e. p e.0) es)) ≡ cond b (e.0 ∷ filter p (keys_of es)) (filter p (keys_of es))) [
      | true ↦ ap (λ l. e.0 ∷ l) (keys-filter p es)
      | false ↦ keys-filter p es
    ]

keys-map : {X Y : Type 0} (g : List ℕ → Y) (es : List (List ℕ × X)) → keys_of (map (λ e. (e.0, g e.0)) es) ≡ keys_of es
keys-map g [] = refl
keys-map g (e ∷ es) = ap (λ l. e.0 ∷ l) (keys-map g es)

both : (a b : Bool) → T a → T b → T (a && b)
both true b p q = q
both false b p q = p

all_above : {X : Type 0} (key : List ℕ) (es : List (List ℕ × X)) → AllByRecursion (λ other. by_bytes key other ≡ Less) (keys_of es) → T (below_all by_bytes key es)
all_above key [] above = tt
all_above key (e ∷ es) above = both _ _ (subst (λ o. T (is_lt o)) (sym above.0) tt) (all_above key es above.1)

in_order : {X : Type 0} (es : List (List ℕ × X)) → IsStrictlySortedBy by_bytes (keys_of es) → T (is_sorted by_bytes es)
unfolding IsStrictlySortedBy
in_order [] rising = tt
in_order (e ∷ es) rising = both _ _ (all_above e.0 es rising.0) (in_order es rising.1)

-- those that are kept are the positions of the versions
held_are : (versions : List Version) (holdings : Holdings) → tree.IsOrdered by_bytes holdings → AreOf versions holdings → held_of holdings holdings.entries ≡ positions_of versions
held_are versions holdings ordered are =
    let live = λ (k : List ℕ). nat_lt 0 (kept holdings k).live in
    let position = λ (k : List ℕ). position_in (kept holdings k) in
    let held = held_of holdings holdings.entries in
    let rising : IsStrictlySortedBy by_bytes (keys_of held) =
    subst (IsStrictlySortedBy by_bytes) (sym (keys-map position (filter (λ e. live e.0) holdings.entries) ∙ keys-filter live holdings.entries)) (IsStrictlySortedBy-filter by_bytes live (keys_of holdings.entries) ordered) in
    same_entries by_bytes nat_list_cmp_total exact_bytes held (positions_of versions) (in_order held rising) (in_order (positions_of versions) (positions_rise versions))
    (λ cusip. find_lookup cusip held ∙ kept_at holdings cusip ∙ ap if_live (ap position_in (are.sums cusip) ∙ position_is cusip versions) ∙ sym (held_at versions cusip) ∙ sym (find_lookup cusip (positions_of versions)))

past_map : {X Y : Type 0} (g : List ℕ → Y) (p : List ℕ → Bool) (es : List (List ℕ × X)) → filter (λ (e : List ℕ × Y). p e.0) (map (λ e. (e.0, g e.0)) es) ≡ map (λ e. (e.0, g e.0)) (filter (λ e. p e.0) es)
past_map g p [] = refl
past_map {X} {Y} g p (e ∷ es) =
    let at : List ℕ × X → List ℕ × Y = λ e. (e.0, g e.0) in
    let rest = filter (λ (e : List ℕ × Y). p e.0) (map at es) in
    let left = filter (λ (e : List ℕ × X). p e.0) es in
    elim (p e.0) as (λ b. cond b (at e ∷ rest) rest ≡ map at (cond b (e ∷ left) left)) [
      | true ↦ ap (λ l. at e ∷ l) (past_map g p es)
      | false ↦ past_map g p es
    ]

swapped : {X : Type 0} (p q : X → Bool) (es : List X) → filter p (filter q es) ≡ filter q (filter p es)
swapped p q [] = refl
swapped p q (e ∷ es) =
    let pq = filter p (filter q es) in
    let rest = swapped p q es in
    elim (q e) as (λ b. q e ≡ b → filter p (cond b (e ∷ filter q es) (filter q es)) ≡ filter q (cond (p e) (e ∷ filter p es) (filter p es))) [
      | true ↦ λ t. elim (p e) as (λ b. cond b (e ∷ pq) pq ≡ filter q (cond b (e ∷ filter p es) (filter p es))) [
        | true ↦ ap (λ l. e ∷ l) rest ∙ sym (ap (λ b. cond b (e ∷ filter q (filter p es)) (filter q (filter p es))) t)
        | false ↦ rest
      ]
      | false ↦ λ t. elim (p e) as (λ b. pq ≡ filter q (cond b (e ∷ filter p es) (filter p es))) [
        | true ↦ rest ∙ sym (ap (λ b. cond b (e ∷ filter q (filter p es)) (filter q (filter p es))) t)
        | false ↦ rest
      ]
    ] refl

no_end : (b : Bool) → (b && true) ≡ b
no_end true = refl
no_end false = refl

begins : (after : Option (List ℕ)) (e : List ℕ × Holding) → range_contains by_bytes (bound_past after) Unbounded e.0 ≡ is_past after e.0
begins None e = refl
begins (Some after) e = no_end _

-- those past a CUSIP are those of a range
past_are : (holdings : Holdings) (after : Option (List ℕ)) (es : List (List ℕ × Holding))
    → held_of holdings (entries_between by_bytes (bound_past after) Unbounded es) ≡ past after (held_of holdings es)
past_are holdings after es =
    let live = λ (e : List ℕ × Holding). nat_lt 0 (kept holdings e.0).live in
    let position = λ (k : List ℕ). position_in (kept holdings k) in
    let at : List ℕ × Holding → List ℕ × Position = λ e. (e.0, position e.0) in
    ap (λ l. map at (filter live l)) (filter_agree _ _ (begins after) es)
    ∙ ap (map at) (swapped live (λ e. is_past after e.0) es)
    ∙ sym (past_map position (is_past after) (filter live es))

-- the first of a range is the next position
pub told_next : (watched : Option (List ℕ)) (told : Option Tables) (holdings : Holdings) (after : Option (List ℕ)) (range : List (List ℕ × Holding)) (found : Option (List ℕ × Position)) (bound : Bound (List ℕ))
    → AreRight watched told holdings → tree.IsOrdered by_bytes holdings → bound ≡ bound_past after → range ≡ entries_between by_bytes bound Unbounded holdings.entries
    → found ≡ slice_get (held_of holdings range) 0
    → IfSome watched (λ desk. IfSome told (λ t. found ≡ slice_get (past after (positions_of (last_versions desk t))) 0))
told_next None told holdings after range found bound right ordered at are is = tt
told_next (Some desk) None holdings after range found bound right ordered at are is = tt
told_next (Some desk) (Some t) holdings after range found bound right ordered at are is =
    is
    ∙ ap (λ l. slice_get (held_of holdings l) 0) (are ∙ ap (λ b. entries_between by_bytes b Unbounded holdings.entries) at)
    ∙ ap (λ l. slice_get l 0) (past_are holdings after holdings.entries ∙ ap (past after) (held_are (last_versions desk t) holdings ordered (right desk t refl refl)))

pub stop_at : (holdings : Holdings) (e : List ℕ × Holding) (old rest : List (List ℕ × Holding)) → old ≡ e ∷ rest → 0 < (kept holdings e.0).live → slice_get (held_of holdings old) 0 ≡ Some (e.0, position_in (kept holdings e.0))
stop_at holdings e old rest is live =
    ap (λ l. slice_get (held_of holdings l) 0) is
    ∙ ap (λ b. slice_get (map (λ e. (e.0, position_in (kept holdings e.0))) (cond b (e ∷ filter (λ e. nat_lt 0 (kept holdings e.0).live) rest) (filter (λ e. nat_lt 0 (kept holdings e.0).live) rest))) 0) (some_live (kept holdings e.0).live live)

-- of entries, one more line is written if a trade is live
pub line_written : (holdings : Holdings) (e : List ℕ × Holding) (old rest : List (List ℕ × Holding)) (text next all : List ℕ) → old ≡ e ∷ rest → 0 < (kept holdings e.0).live
    → next ≡ text ++ position_line e.0 (position_in (kept holdings e.0)) → text ++ position_lines (held_of holdings old) ≡ all → next ++ position_lines (held_of holdings rest) ≡ all
line_written holdings e old rest text next all is live written so_far =
    let at : List ℕ × Holding → List ℕ × Position = λ e. (e.0, position_in (kept holdings e.0)) in
    let left = filter (λ (e : List ℕ × Holding). nat_lt 0 (kept holdings e.0).live) rest in
    let first : held_of holdings old ≡ at e ∷ held_of holdings rest =
    ap (held_of holdings) is ∙ ap (λ b. map at (cond b (e ∷ left) left)) (some_live (kept holdings e.0).live live) in
    ap (λ l. l ++ position_lines (held_of holdings rest)) written
    ∙ append_assoc text (position_line e.0 (position_in (kept holdings e.0))) (position_lines (held_of holdings rest))
    ∙ ap (λ l. text ++ position_lines l) (sym first) ∙ so_far

pub line_passed : (holdings : Holdings) (e : List ℕ × Holding) (old rest : List (List ℕ × Holding)) (text all : List ℕ) → old ≡ e ∷ rest → (kept holdings e.0).live ≤ 0
    → text ++ position_lines (held_of holdings old) ≡ all → text ++ position_lines (held_of holdings rest) ≡ all
line_passed holdings e old rest text all is none so_far =
    let at : List ℕ × Holding → List ℕ × Position = λ e. (e.0, position_in (kept holdings e.0)) in
    let left = filter (λ (e : List ℕ × Holding). nat_lt 0 (kept holdings e.0).live) rest in
    let same : held_of holdings old ≡ held_of holdings rest =
    ap (held_of holdings) is ∙ ap (λ b. map at (cond b (e ∷ left) left)) (none_live (kept holdings e.0).live none) in
    ap (λ l. text ++ position_lines l) (sym same) ∙ so_far

-- the lines of a whole range are those of the positions
pub lines_are : (versions : List Version) (holdings : Holdings) (range : List (List ℕ × Holding)) (text : List ℕ) (bound : Bound (List ℕ))
    → AreOf versions holdings → tree.IsOrdered by_bytes holdings → bound ≡ bound_past None → range ≡ entries_between by_bytes bound Unbounded holdings.entries
    → text ≡ position_lines (held_of holdings range) → text ≡ position_lines (positions_of versions)
lines_are versions holdings range text bound of ordered at are is =
    is
    ∙ ap (λ l. position_lines (held_of holdings l)) (are ∙ ap (λ b. entries_between by_bytes b Unbounded holdings.entries) at)
    ∙ ap position_lines (past_are holdings None holdings.entries ∙ all_pass (held_of holdings holdings.entries) ∙ held_are versions holdings ordered of)

-- so are those of the desk that is watched
pub told_lines : (watched : Option (List ℕ)) (told : Option Tables) (holdings : Holdings) (text : List ℕ) → AreRight watched told holdings
    → ((versions : List Version) → AreOf versions holdings → text ≡ position_lines (positions_of versions))
    → IfSome watched (λ desk. IfSome told (λ t. text ≡ position_lines (positions_of (last_versions desk t))))
told_lines None told holdings text right is = tt
told_lines (Some desk) None holdings text right is = tt
told_lines (Some desk) (Some t) holdings text right is = is (last_versions desk t) (right desk t refl refl)
