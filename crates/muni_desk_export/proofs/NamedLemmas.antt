-- The CUSIPs that trades name, one trade after another.
use Rattle.std.proofs.Common.{◌≡◌, ◌≤◌, ◌<◌, ◌+◌, ◌-◌, ℕ, Bool, true, false, cond, List, [], ◌∷◌, ◌++◌, length, drop, map, get_or, Option, Some, None, refl, sym, ap, ◌∙◌, arith}
use Rattle.std.specs.Prelude.{◌||◌, slice_get, IfSome}
use Rattle.std.specs.List.{list_any}
use Rattle.std.proofs.lemmas.List.{at_drop_more, at_drop_all}
use Rattle.std.proofs.lemmas.List.Folds.{list_any-append}
use Rattle.muni_msg.specs.declared.command.Key.{Key}
use Rattle.muni_msg.specs.declared.command.Line.{Line}
use Rattle.muni_msg.specs.declared.version.Version.{Version}
use Rattle.muni_keep.specs.Tables.{Tables, line, page_at, version_at}
use Rattle.muni_keep.specs.Trades.{own}
use Rattle.muni_keep.proofs.EntriesLemmas.{past-all}
use Rattle.muni_desk_export.specs.Named.{is_of, is_named, names}
use Rattle.muni_desk_export.specs.Trades.{key_of, versions_at, IsLineOf}
use Rattle.muni_desk_export.proofs.PageLemmas.{lines_past, page-left, page-none}
use Rattle.muni_desk_export.proofs.VersionLemmas.{version-next, version-last}

-- of two tests, one of which is done
or_swap : (a b c : Bool) → ((a || b) || c) ≡ (b || (a || c))
or_swap true true c = refl
or_swap true false c = refl
or_swap false b c = refl

-- what is tested next comes from those that are left to those that are done
pub any-next : {A : Type 0} (test : A → Bool) (xs : List A) (i : ℕ) (x : A) (done all : Bool) → i < length xs → x ≡ get_or xs i x
    → (list_any test (drop i xs) || done) ≡ all → (list_any test (drop (i + 1) xs) || (test x || done)) ≡ all
any-next test xs i x done all inside is before =
    let rest = at_drop_more (list_any test) xs i x inside ∙ ap (λ y. list_any test (y ∷ drop (i + 1) xs)) (sym is) in
    sym (or_swap (test x) (list_any test (drop (i + 1) xs)) done) ∙ ap (λ b. b || done) (sym rest) ∙ before

pub any-last : {A : Type 0} (test : A → Bool) (xs : List A) (i : ℕ) (done all : Bool) → length xs ≤ i
    → (list_any test (drop i xs) || done) ≡ all → done ≡ all
any-last test xs i done all end before = ap (λ b. b || done) (sym (at_drop_all (list_any test) xs i end)) ∙ before

-- the same if those that are left are known
pub any-more : {A : Type 0} (test : A → Bool) (left some rest : List A) (done all : Bool) → left ≡ some ++ rest
    → (list_any test left || done) ≡ all → (list_any test rest || (list_any test some || done)) ≡ all
any-more test left some rest done all is before =
    sym (or_swap (list_any test some) (list_any test rest) done)
    ∙ ap (λ b. b || done) (sym (list_any-append test some rest) ∙ ap (list_any test) (sym is)) ∙ before

-- a CUSIP that is put in is there
pub put_has : (at : Bool) (new old : Bool) → new ≡ cond at true old → new ≡ (at || old)
put_has true new old is = is
put_has false new old is = is

-- ---- the versions of a trade, if the tables are known
-- of each CUSIP whether it is of a version that is left, or among those so far
abbrev pub AreFrom : List Version → (List ℕ → Bool) → (List ℕ → Bool) → Type 0
AreFrom left named all = (cusip : List ℕ) → (list_any (is_of cusip) left || named cusip) ≡ all cusip

pub version-named : (told : Option Tables) (key : Key) (trade : Line) (number : ℕ) (version : Version) (old new : List ℕ → Bool) (all : Tables → List ℕ → Bool) → 1 ≤ number
    → IfSome told (λ t. IsLineOf t key trade) → IfSome told (λ t. version_at t key number ≡ Some version)
    → ((other : List ℕ) → new other ≡ (is_of other version || old other))
    → IfSome told (λ t. AreFrom (drop (number - 1) (versions_at t key)) old (all t))
    → IfSome told (λ t. AreFrom (drop ((number + 1) - 1) (versions_at t key)) new (all t))
version-named None key trade number version old new all some of is added before = tt
version-named (Some t) key trade number version old new all some of is added before = λ cusip.
    let rest = drop ((number + 1) - 1) (versions_at t key) in
    ap (λ b. list_any (is_of cusip) rest || b) (added cusip)
    ∙ sym (or_swap (is_of cusip version) (list_any (is_of cusip) rest) (old cusip))
    ∙ ap (λ l. list_any (is_of cusip) l || old cusip) (sym (version-next t key number version some is))
    ∙ before cusip

or_none : (a : Bool) → (a || false) ≡ a
or_none true = refl
or_none false = refl

pub last-named : (told : Option Tables) (key : Key) (trade : Line) (number : ℕ) (old new : List ℕ → Bool) (all : Tables → List ℕ → Bool) → IfSome told (λ t. number ≤ trade.number) → trade.number ≤ number
    → IfSome told (λ t. IsLineOf t key trade)
    → ((other : List ℕ) → new other ≡ (is_of other trade.version || old other))
    → IfSome told (λ t. AreFrom (drop (number - 1) (versions_at t key)) old (all t))
    → IfSome told (λ t. (cusip : List ℕ) → new cusip ≡ all t cusip)
last-named None key trade number old new all most least of added before = tt
last-named (Some t) key trade number old new all most least of added before = λ cusip.
    let same : number ≡ trade.number = omega arith in
    let last : drop (number - 1) (versions_at t key) ≡ trade.version ∷ [] = rw same (version-last t key trade of) in
    added cusip
    ∙ ap (λ b. b || old cusip) (sym (or_none (is_of cusip trade.version)))
    ∙ ap (λ l. list_any (is_of cusip) l || old cusip) (sym last) ∙ before cusip

-- ---- the trades of a page
pub trade-named : (told : Option Tables) (desk : List ℕ) (page : List Line) (i : ℕ) (trade : Line) (old new : List ℕ → Bool) (all : Tables → List ℕ → Bool) → i < length page → trade ≡ get_or page i trade
    → IfSome told (λ t. (cusip : List ℕ) → new cusip ≡ (list_any (is_of cusip) (versions_at t (key_of desk trade.reference)) || old cusip))
    → IfSome told (λ t. (cusip : List ℕ) → (list_any (names t desk cusip) (drop i page) || old cusip) ≡ all t cusip)
    → IfSome told (λ t. (cusip : List ℕ) → (list_any (names t desk cusip) (drop (i + 1) page) || new cusip) ≡ all t cusip)
trade-named None desk page i trade old new all inside is added before = tt
trade-named (Some t) desk page i trade old new all inside is added before = λ cusip.
    ap (λ b. list_any (names t desk cusip) (drop (i + 1) page) || b) (added cusip)
    ∙ any-next (names t desk cusip) page i trade (old cusip) (all t cusip) inside is (before cusip)

pub page-named : (told : Option Tables) (desk : List ℕ) (page : List Line) (i : ℕ) (named : List ℕ → Bool) (all : Tables → List ℕ → Bool) → length page ≤ i
    → IfSome told (λ t. (cusip : List ℕ) → (list_any (names t desk cusip) (drop i page) || named cusip) ≡ all t cusip)
    → IfSome told (λ t. (cusip : List ℕ) → named cusip ≡ all t cusip)
page-named None desk page i named all end before = tt
page-named (Some t) desk page i named all end before = λ cusip. any-last (names t desk cusip) page i (named cusip) (all t cusip) end (before cusip)

-- ---- the pages of a desk
pub pages-named : (told : Option Tables) (desk : List ℕ) (after : Option (List ℕ)) (page : List Line) (last : Line) (old new : List ℕ → Bool) → IfSome told (λ t. page ≡ page_at t desk after) → slice_get page (length page - 1) ≡ Some last
    → IfSome told (λ t. (cusip : List ℕ) → new cusip ≡ (list_any (names t desk cusip) page || old cusip))
    → IfSome told (λ t. (cusip : List ℕ) → (list_any (names t desk cusip) (lines_past t desk after) || old cusip) ≡ is_named t desk cusip)
    → IfSome told (λ t. (cusip : List ℕ) → (list_any (names t desk cusip) (lines_past t desk (Some last.reference)) || new cusip) ≡ is_named t desk cusip)
pages-named None desk after page last old new are is added before = tt
pages-named (Some t) desk after page last old new are is added before = λ cusip.
    ap (λ b. list_any (names t desk cusip) (lines_past t desk (Some last.reference)) || b) (added cusip)
    ∙ any-more (names t desk cusip) (lines_past t desk after) page (lines_past t desk (Some last.reference)) (old cusip) (is_named t desk cusip)
    (page-left t desk after page last are is) (before cusip)

pub all-named : (told : Option Tables) (desk : List ℕ) (after : Option (List ℕ)) (page : List Line) (named : List ℕ → Bool) → IfSome told (λ t. page ≡ page_at t desk after) → length page ≡ 0
    → IfSome told (λ t. (cusip : List ℕ) → (list_any (names t desk cusip) (lines_past t desk after) || named cusip) ≡ is_named t desk cusip)
    → IfSome told (λ t. (cusip : List ℕ) → named cusip ≡ is_named t desk cusip)
all-named None desk after page named are none before = tt
all-named (Some t) desk after page named are none before = λ cusip.
    ap (λ l. list_any (names t desk cusip) l || named cusip) (sym (page-none t desk after page are none)) ∙ before cusip

pub none-named : (told : Option Tables) (desk : List ℕ) (named : List ℕ → Bool) → ((cusip : List ℕ) → named cusip ≡ false)
    → IfSome told (λ t. (cusip : List ℕ) → (list_any (names t desk cusip) (lines_past t desk None) || named cusip) ≡ is_named t desk cusip)
none-named None desk named none = tt
none-named (Some t) desk named none = λ cusip.
    ap (λ b. list_any (names t desk cusip) (lines_past t desk None) || b) (none cusip)
    ∙ or_none (list_any (names t desk cusip) (lines_past t desk None))
    ∙ ap (λ l. list_any (names t desk cusip) (map line l)) (past-all (own desk t.desks))
