-- The pages of a desk's trades.
use Rattle.std.proofs.Common.{◌≡◌, ℕ, suc, ◌-◌, List, [], ◌∷◌, ◌++◌, length, map, take, drop, Option, Some, refl, sym, ap, subst, ◌∙◌, arith, append_assoc}
use Rattle.std.specs.Prelude.{slice_get}
use Rattle.std.specs.List.{AllByRecursion}
use Rattle.std.specs.FinMap.{get}
use Rattle.std.proofs.lemmas.List.{take-append-drop, map-append}
use Rattle.muni_msg.specs.declared.command.Line.{Line}
use Rattle.muni_msg.specs.declared.version.Version.{Version}
use Rattle.muni_keep.specs.History.{History}
use Rattle.muni_keep.specs.Tables.{Tables, line, page_at}
use Rattle.muni_keep.specs.Trades.{own, trades_past}
use Rattle.muni_keep.proofs.EntriesLemmas.{past-next, past-found}
use Rattle.muni_desk_export.specs.Trades.{AreOf}

-- the trades of a desk after a reference, each with its last version
abbrev pub lines_past : Tables → List ℕ → Option (List ℕ) → List Line
lines_past tables desk after = map line (trades_past after (own desk tables.desks))

last_split : {A B : Type 0} (f : A → B) (xs : List A) (y : B) → slice_get (map f xs) (length (map f xs) - 1) ≡ Some y → (front : List A) × (e : A) × (xs ≡ front ++ e ∷ []) × (f e ≡ y)
last_split f [] y is = absurd (cc is)
last_split f (x ∷ []) y is = let same : f x ≡ y = cc is in ([], x, refl, same)
last_split f (x ∷ next ∷ xs) y is =
    let at : length (map f (x ∷ next ∷ xs)) - 1 ≡ suc (length (map f (next ∷ xs)) - 1) = omega arith in
    let rest = last_split f (next ∷ xs) y (sym (ap (slice_get (map f (x ∷ next ∷ xs))) at) ∙ is) in
    (x ∷ rest.0, rest.1, ap (λ l. x ∷ l) rest.2, rest.3)

-- a page and those after its last trade are all that are left
pub page-left : (tables : Tables) (desk : List ℕ) (after : Option (List ℕ)) (page : List Line) (last : Line)
    → page ≡ page_at tables desk after → slice_get page (length page - 1) ≡ Some last
    → lines_past tables desk after ≡ page ++ lines_past tables desk (Some last.reference)
page-left tables desk after page last are is_last =
    let trades = own desk tables.desks in
    let rest = trades_past after trades in
    let behind = drop 50 rest in
    let split = last_split line (take 50 rest) last (subst (λ l. slice_get l (length l - 1) ≡ Some last) are is_last) in
    let whole : rest ≡ split.0 ++ split.1 ∷ behind =
    sym (take-append-drop 50 rest) ∙ ap (λ l. l ++ behind) split.2 ∙ append_assoc split.0 (split.1 ∷ []) behind in
    let past = past-next after trades split.0 split.1 behind whole in
    let key : split.1.0 ≡ last.reference = ap (λ (l : Line). l.reference) split.3 in
    ap (map line) (sym (take-append-drop 50 rest))
    ∙ map-append line (take 50 rest) behind
    ∙ ap (λ l. l ++ map line behind) (sym are)
    ∙ ap (λ l. page ++ map line l) (sym past ∙ ap (λ k. trades_past (Some k) trades) key)

no_more : {A B : Type 0} (f : A → B) (n : ℕ) (rest : List A) → length (map f (take (suc n) rest)) ≡ 0 → map f rest ≡ []
no_more f n [] none = refl
no_more f n (x ∷ rest) none = absurd (omega arith)

-- after an empty page none are left
pub page-none : (tables : Tables) (desk : List ℕ) (after : Option (List ℕ)) (page : List Line)
    → page ≡ page_at tables desk after → length page ≡ 0 → lines_past tables desk after ≡ []
page-none tables desk after page are none =
    no_more line 49 (trades_past after (own desk tables.desks)) (sym (ap length are) ∙ none)

lines_of : (tables : Tables) (desk : List ℕ) (trades : List (List ℕ × History Version)) → AllByRecursion (λ trade. get (own desk tables.desks) trade.0 ≡ Some trade.1) trades → AreOf tables desk (map line trades)
lines_of tables desk [] all = tt
lines_of tables desk (trade ∷ more) all = (record { history = trade.1; kept = all.0; is = refl }, lines_of tables desk more all.1)

-- each trade of a page is kept, and has its last version
pub page-of : (tables : Tables) (desk : List ℕ) (after : Option (List ℕ)) (page : List Line) → page ≡ page_at tables desk after → AreOf tables desk page
page-of tables desk after page are =
    let trades = own desk tables.desks in
    subst (AreOf tables desk) (sym are) (lines_of tables desk (take 50 (trades_past after trades)) (past-found after trades 50))
