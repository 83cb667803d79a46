-- The trades for which no row came, a page after another.
use Rattle.std.proofs.Common.{◌≡◌, ◌<◌, ◌+◌, ◌-◌, ◌∙◌, ℕ, suc, List, [], ◌∷◌, ◌++◌, length, map, take, drop, get_or, Bool, true, false, Option, Some, None, refl, sym, ap, subst, append_assoc, arith}
use Rattle.std.specs.Prelude.{if◌then◌else◌, slice_get, IfSome}
use Rattle.std.specs.List.{filter}
use Rattle.std.proofs.lemmas.List.{at_drop_more, take-append-drop, map-append, append-nil}
use Rattle.std.proofs.lemmas.List.Elements.{filter-append}
use Rattle.muni_msg.specs.declared.command.Line.{Line}
use Rattle.std.specs.FinMap.{entries}
use Rattle.muni_msg.specs.declared.version.Version.{Version}
use Rattle.muni_keep.specs.History.{History}
use Rattle.muni_keep.specs.Tables.{Tables, line, page_at}
use Rattle.muni_keep.specs.Trades.{own, trades_past}
use Rattle.muni_keep.proofs.EntriesLemmas.{past-next, all_pass}
use Rattle.muni_check.specs.Unseen.{is_unseen, unseen_at, unseen_of}

-- ---- the trades of a page
pub unseen-append : (is_named : List ℕ → Bool) (page more : List Line) → unseen_of is_named (page ++ more) ≡ unseen_of is_named page ++ unseen_of is_named more
unseen-append is_named page more =
    ap (map (λ (trade : Line). trade.reference)) (filter-append (is_unseen is_named) page more)
    ∙ map-append (λ (trade : Line). trade.reference) (filter (is_unseen is_named) page) (filter (is_unseen is_named) more)

pub unseen-one : (is_named : List ℕ → Bool) (trade : Line) (is : Bool) → is_unseen is_named trade ≡ is → unseen_of is_named (trade ∷ []) ≡ (if is then trade.reference ∷ [] else [])
unseen-one is_named trade true is = rw is refl
unseen-one is_named trade false is = rw is refl

pub unseen-next : (is_named : List ℕ → Bool) (page : List Line) (i : ℕ) (trade : Line) → i < length page → trade ≡ get_or page i trade
    → unseen_of is_named (drop i page) ≡ unseen_of is_named (trade ∷ []) ++ unseen_of is_named (drop (i + 1) page)
unseen-next is_named page i trade inside here =
    at_drop_more (unseen_of is_named) page i trade inside ∙ ap (λ t. unseen_of is_named (t ∷ drop (i + 1) page)) (sym here)
    ∙ unseen-append is_named (trade ∷ []) (drop (i + 1) page)

-- ---- the pages of a desk
-- the trades of a desk after a reference, each with its last version
abbrev pub lines_past : Tables → List ℕ → Option (List ℕ) → List Line
lines_past tables desk after = map line (trades_past after (own desk tables.desks))

last_split : {A B : Type 0} (f : A → B) (xs : List A) (y : B) → slice_get (map f xs) (length (map f xs) - 1) ≡ Some y → (front : List A) × (e : A) × (xs ≡ front ++ e ∷ []) × (f e ≡ y)
last_split f [] y is = absurd (cc is)
last_split f (x ∷ []) y is = let same : f x ≡ y = cc is in ([], x, refl, same)
last_split f (x ∷ next ∷ xs) y is =
    let at : length (map f (x ∷ next ∷ xs)) - 1 ≡ suc (length (map f (next ∷ xs)) - 1) = omega arith in
    let rest = last_split f (next ∷ xs) y (sym (ap (slice_get (map f (x ∷ next ∷ xs))) at) ∙ is) in
    (x ∷ rest.0, rest.1, ap (λ l. x ∷ l) rest.2, rest.3)

-- a page and those after its last trade are all that are left
page-left : (tables : Tables) (desk : List ℕ) (after : Option (List ℕ)) (page : List Line) (last : Line)
    → page ≡ page_at tables desk after → slice_get page (length page - 1) ≡ Some last
    → lines_past tables desk after ≡ page ++ lines_past tables desk (Some last.reference)
page-left tables desk after page last are is_last =
    let trades = own desk tables.desks in
    let rest = trades_past after trades in
    let behind = drop 50 rest in
    let split = last_split line (take 50 rest) last (subst (λ l. slice_get l (length l - 1) ≡ Some last) are is_last) in
    let whole : rest ≡ split.0 ++ split.1 ∷ behind =
    sym (take-append-drop 50 rest) ∙ ap (λ l. l ++ behind) split.2 ∙ append_assoc split.0 (split.1 ∷ []) behind in
    let past = past-next after trades split.0 split.1 behind whole in
    let key : split.1.0 ≡ last.reference = ap (λ (l : Line). l.reference) split.3 in
    ap (map line) (sym (take-append-drop 50 rest))
    ∙ map-append line (take 50 rest) behind
    ∙ ap (λ l. l ++ map line behind) (sym are)
    ∙ ap (λ l. page ++ map line l) (sym past ∙ ap (λ k. trades_past (Some k) trades) key)

no_more : {A B : Type 0} (f : A → B) (n : ℕ) (rest : List A) → length (map f (take (suc n) rest)) ≡ 0 → map f rest ≡ []
no_more f n [] none = refl
no_more f n (x ∷ rest) none = absurd (omega arith)

-- after an empty page none are left
page-none : (tables : Tables) (desk : List ℕ) (after : Option (List ℕ)) (page : List Line)
    → page ≡ page_at tables desk after → length page ≡ 0 → lines_past tables desk after ≡ []
page-none tables desk after page are none =
    no_more line 49 (trades_past after (own desk tables.desks)) (sym (ap length are) ∙ none)

-- these references, and those of the trades that are left, are all
abbrev pub AreBefore : Option Tables → (desk : List ℕ) → (is_named : List ℕ → Bool) → Option (List ℕ) → List (List ℕ) → Type 0
AreBefore told desk is_named after unseen =
    IfSome told (λ tables. unseen ++ unseen_of is_named (lines_past tables desk after) ≡ unseen_at tables desk is_named)

pub before-none : (told : Option Tables) (desk : List ℕ) (is_named : List ℕ → Bool) → AreBefore told desk is_named None []
before-none None desk is_named = tt
before-none (Some tables) desk is_named =
    ap (λ (trades : List (List ℕ × History Version)). unseen_of is_named (map line trades)) (all_pass (entries (own desk tables.desks)))

pub before-page : (told : Option Tables) (desk : List ℕ) (is_named : List ℕ → Bool) (after : Option (List ℕ)) (page : List Line) (last : Line) (unseen : List (List ℕ))
    → IfSome told (λ t. page ≡ page_at t desk after) → slice_get page (length page - 1) ≡ Some last → AreBefore told desk is_named after unseen
    → AreBefore told desk is_named (Some last.reference) (unseen ++ unseen_of is_named page)
before-page None desk is_named after page last unseen are is_last before = tt
before-page (Some tables) desk is_named after page last unseen are is_last before =
    append_assoc unseen (unseen_of is_named page) (unseen_of is_named (lines_past tables desk (Some last.reference)))
    ∙ ap (λ l. unseen ++ l) (sym (unseen-append is_named page (lines_past tables desk (Some last.reference))) ∙ ap (unseen_of is_named) (sym (page-left tables desk after page last are is_last)))
    ∙ before

pub before-last : (told : Option Tables) (desk : List ℕ) (is_named : List ℕ → Bool) (after : Option (List ℕ)) (page : List Line) (unseen : List (List ℕ))
    → IfSome told (λ t. page ≡ page_at t desk after) → length page ≡ 0 → AreBefore told desk is_named after unseen
    → IfSome told (λ t. unseen ≡ unseen_at t desk is_named)
before-last None desk is_named after page unseen are none before = tt
before-last (Some tables) desk is_named after page unseen are none before =
    sym (append-nil unseen) ∙ ap (λ l. unseen ++ unseen_of is_named l) (sym (page-none tables desk after page are none)) ∙ before
