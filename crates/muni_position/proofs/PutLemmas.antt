-- The holdings of a desk after a put.
use Rattle.std.proofs.Common.{◌≡◌, ℕ, ◌+◌, Bool, true, false, cond, List, [], ◌∷◌, map, Option, Some, None, refl, sym, ap, ◌∙◌}
use Rattle.std.specs.Prelude.{◌&&◌, T}
use Rattle.std.specs.Option.{unwrap_or, option_map}
use Rattle.std.specs.List.{sum_by, AllByRecursion}
use Rattle.std.specs.List.Sorted.{IsStrictlySortedBy}
use Rattle.std.specs.Map.{keys_of, values_of, lookup}
use Rattle.std.specs.BTreeMap.{is_at, insert_entry}
use Rattle.std.specs.declared.cmp.Ordering.{Ordering}
use Rattle.std.specs.declared.cmp.Ordering.TheVariants.{Less, Equal, Greater}
use Rattle.std.specs.Ordering.{is_lt, match_ordering}
use Rattle.std.specs.Cmp.{eq_by_cmp_equiv}
use Rattle.std.specs.Cmp.Lexicographic.{nat_list_cmp_total}
use Rattle.std.specs.FinMap.{FinMap, empty, get, insert, entries, find, put, is_sorted, entries_sorted, get-entries, get-insert, entries-insert}
use Rattle.std.specs.FinMap.Entries.{by_order, below_all}
use Rattle.std.proofs.lemmas.List.Sums.{sum_by-cons}
use Rattle.std.proofs.lemmas.Map.Entries.{sum_by-insert_entry}
use Rattle.muni_msg.specs.declared.command.Key.{Key}
use Rattle.muni_msg.specs.declared.version.Version.{Version}
use Rattle.muni_keep.specs.History.{History, count, grown}
use Rattle.muni_keep.specs.Tables.{Tables, trade_at, last_at, with_version}
use Rattle.muni_keep.specs.Trades as trades
use Rattle.muni_keep.specs.Trades.{by_bytes, Trades, Desks, own, put_own}
use Rattle.muni_position.specs.Positions.{last_versions}
use Rattle.muni_position.specs.Holding.{nothing, share, share_of_last, plus, holding_of}
use Rattle.muni_position.specs.declared.holding.Holding.{Holding}
use Rattle.muni_position.proofs.HoldingLemmas.{same}

pub first : (a b : Bool) → T (a && b) → T a
first true b t = tt
first false b t = t

pub second : (a b : Bool) → T (a && b) → T b
second true b t = t
second false b t = absurd t

pub less : (o : Ordering) → T (is_lt o) → o ≡ Less
less Less t = refl
less Equal t = absurd t
less Greater t = absurd t

all_below : {X : Type 0} (key : List ℕ) (es : List (List ℕ × X)) → T (below_all by_bytes key es) → AllByRecursion (λ other. by_bytes key other ≡ Less) (keys_of es)
all_below key [] t = tt
all_below key (e ∷ es) t = (less _ (first _ _ t), all_below key es (second _ _ t))

-- the keys of entries in order rise
pub keys_rise : {X : Type 0} (es : List (List ℕ × X)) → T (is_sorted by_bytes es) → IsStrictlySortedBy by_bytes (keys_of es)
unfolding IsStrictlySortedBy
keys_rise [] t = tt
keys_rise (e ∷ es) t = (all_below e.0 es (first _ _ t), keys_rise es (second _ _ t))

put_is : {X : Type 0} (key : List ℕ) (x : X) (es : List (List ℕ × X)) → put by_bytes key x es ≡ insert_entry by_bytes es key x
put_is key x [] = refl
put_is key x (e ∷ es) =
    elim (by_bytes key e.0) as (λ o. by_order o ((key, x) ∷ e ∷ es) ((e.0, x) ∷ es) (e ∷ put by_bytes key x es) ≡ match_ordering o ((key, x) ∷ e ∷ es) ((e.0, x) ∷ es) (e ∷ insert_entry by_bytes es key x)) [
      | Less ↦ refl
      | Equal ↦ refl
      | Greater ↦ ap (λ es. e ∷ es) (put_is key x es)
    ]

pub find_lookup : {X : Type 0} (key : List ℕ) (es : List (List ℕ × X)) → find by_bytes key es ≡ lookup (is_at (by_bytes key)) es
find_lookup key [] = refl
find_lookup key (e ∷ es) = ap (cond (is_at (by_bytes key) e.0) (Some e.1)) (find_lookup key es)

lasts_sum : (f : Version → ℕ) (es : List (List ℕ × History Version)) → sum_by f (map (λ trade. trade.1.last) es) ≡ sum_by (λ history. f history.last) (values_of es)
lasts_sum f [] = refl
lasts_sum f (e ∷ es) =
    sum_by-cons f e.1.last (map (λ trade. trade.1.last) es) ∙ ap (λ n. f e.1.last + n) (lasts_sum f es)
    ∙ sym (sum_by-cons (λ history. f history.last) e.1 (values_of es))

-- a sum over the last versions, with a trade more or in place of another
sum_after : (f : Version → ℕ) (m : Trades Version) (key : List ℕ) (history : History Version)
    → sum_by f (map (λ trade. trade.1.last) (entries (insert m key history))) + unwrap_or (option_map (λ history. f history.last) (get m key)) 0
    ≡ sum_by f (map (λ trade. trade.1.last) (entries m)) + f history.last
sum_after f m key history =
    let es = entries m in
    let now = ap (λ es. sum_by f (map (λ trade. trade.1.last) es)) (entries-insert nat_list_cmp_total m key history ∙ put_is key history es) ∙ lasts_sum f (insert_entry by_bytes es key history) in
    let was = ap (λ found. unwrap_or (option_map (λ history. f history.last) found) 0) (get-entries m key ∙ find_lookup key es) in
    let all = sum_by-insert_entry (λ history. f history.last) nat_list_cmp_total es key history (keys_rise es (entries_sorted m)) in
    let old = lasts_sum f es in
    rw (now, was, old) all

pub grown_last : {V : Type 0} (trade : Option (History V)) (version : V) → (grown trade version).last ≡ version
grown_last None version = refl
grown_last (Some history) version = refl

get_put : {X : Type 0} (m : FinMap by_bytes X) (key : List ℕ) (x : X) → get (insert m key x) key ≡ Some x
get_put m key x = get-insert nat_list_cmp_total m key x key ∙ ap (λ b. cond b (Some x) (get m key)) ((eq_by_cmp_equiv nat_list_cmp_total).refl key)

pub own_put : (desk reference : List ℕ) (version : Version) (desks : Desks Version) → own desk (trades.put desk reference version desks) ≡ put_own reference version (own desk desks)
own_put desk reference version desks = ap (λ found. unwrap_or found empty) (get_put desks desk (put_own reference version (own desk desks)))

field_after : (f : Version → ℕ) (key : Key) (version : Version) (tables : Tables)
    → sum_by f (last_versions key.desk (with_version key version tables)) + unwrap_or (option_map (λ history. f history.last) (trade_at tables key)) 0
    ≡ sum_by f (last_versions key.desk tables) + f version
field_after f key version tables =
    let mine = own key.desk tables.desks in
    let put = own_put key.desk key.reference version tables.desks in
    let history = grown (get mine key.reference) version in
    ap (λ m. sum_by f (map (λ trade. trade.1.last) (entries m)) + unwrap_or (option_map (λ history. f history.last) (trade_at tables key)) 0) put
    ∙ sum_after f mine key.reference history
    ∙ ap (λ v. sum_by f (last_versions key.desk tables) + f v) (grown_last (get mine key.reference) version)

last_share : (pick : Holding → ℕ) (cusip : List ℕ) (trade : Option (History Version)) → pick nothing ≡ 0
    → pick (share_of_last cusip (option_map (λ history. (count history, history.last)) trade)) ≡ unwrap_or (option_map (λ history. pick (share cusip history.last)) trade) 0
last_share pick cusip None none = none
last_share pick cusip (Some history) none = refl

-- the share of the last version goes, and that of the next one comes
pub holding_after : (cusip : List ℕ) (key : Key) (version : Version) (tables : Tables)
    → plus (holding_of cusip (last_versions key.desk (with_version key version tables))) (share_of_last cusip (last_at tables key))
    ≡ plus (holding_of cusip (last_versions key.desk tables)) (share cusip version)
unfolding holding_of
holding_after cusip key version tables =
    let field = λ (pick : Holding → ℕ) (none : pick nothing ≡ 0).
    ap (λ n. sum_by (λ v. pick (share cusip v)) (last_versions key.desk (with_version key version tables)) + n) (last_share pick cusip (trade_at tables key) none)
    ∙ field_after (λ v. pick (share cusip v)) key version tables in
    same _ _ (field (λ h. h.live) refl) (field (λ h. h.bought) refl) (field (λ h. h.sold) refl) (field (λ h. h.paid) refl) (field (λ h. h.received) refl)
