-- The versions of a trade, one after another.
use Rattle.std.proofs.Common.{◌≡◌, ◌≤◌, ◌<◌, ◌+◌, ◌-◌, ℕ, zero, suc, true, false, List, [], ◌∷◌, ◌++◌, length, drop, Option, Some, None, refl, sym, ap, subst, ◌∙◌, arith, append_assoc}
use Rattle.std.specs.Prelude.{slice_get, ◌==◌, if◌then◌else◌, IsSome, IfSome}
use Rattle.std.specs.Option.{option_and_then}
use Rattle.std.proofs.lemmas.Bool.{eqb-true}
use Rattle.std.proofs.lemmas.List.{append-nil}
use Rattle.muni_msg.specs.declared.command.Key.{Key}
use Rattle.muni_msg.specs.declared.command.Line.{Line}
use Rattle.muni_msg.specs.declared.version.Version.{Version}
use Rattle.muni_keep.specs.History.{History, versions, version_in}
use Rattle.muni_keep.specs.Tables.{Tables, trade_at, version_at}
use Rattle.muni_desk_export.specs.Trades.{kept_versions, version_rows, version_text, versions_at, trade_rows, IsLineOf}

pub drop_at : {A : Type 0} (xs : List A) (n : ℕ) (x : A) → slice_get xs n ≡ Some x → drop n xs ≡ x ∷ drop (suc n) xs
drop_at [] n x is = absurd (cc is)
drop_at (y ∷ xs) zero x is = let same : y ≡ x = cc is in ap (λ l. l ∷ xs) same
drop_at (y ∷ xs) (suc n) x is = drop_at xs n x is

pub drop_all : {A : Type 0} (xs : List A) (x : A) → drop (length xs) (xs ++ x ∷ []) ≡ x ∷ []
drop_all [] x = refl
drop_all (y ∷ xs) x = drop_all xs x

read_version : {V : Type 0} (history : History V) (number : ℕ) (version : V) → version_in history number ≡ Some version → slice_get (versions history) (number - 1) ≡ Some version
read_version history number version is =
    elim (number == 0) as (λ b. (if b then None else slice_get (versions history) (number - 1)) ≡ Some version → slice_get (versions history) (number - 1) ≡ Some version) [
      | true ↦ λ none. absurd (cc none)
      | false ↦ λ there. there
    ] is

-- those that are kept from a number on are that one and those after it
pub kept-next : {V : Type 0} (kept : Option (History V)) (number : ℕ) (version : V) → 1 ≤ number
    → option_and_then (λ history. version_in history number) kept ≡ Some version → drop (number - 1) (kept_versions kept) ≡ version ∷ drop ((number + 1) - 1) (kept_versions kept)
kept-next None number version some is = absurd (cc is)
kept-next (Some history) number version some is =
    let next : suc (number - 1) ≡ (number + 1) - 1 = omega arith in
    drop_at (versions history) (number - 1) version (read_version history number version is) ∙ ap (λ n. version ∷ drop n (versions history)) next

-- so it is with the versions of a trade
pub version-next : (tables : Tables) (key : Key) (number : ℕ) (version : Version) → 1 ≤ number
    → version_at tables key number ≡ Some version → drop (number - 1) (versions_at tables key) ≡ version ∷ drop ((number + 1) - 1) (versions_at tables key)
version-next tables key number version some is = kept-next (trade_at tables key) number version some is

pub get_within : {A : Type 0} (xs : List A) (n : ℕ) → n < length xs → IsSome (slice_get xs n)
get_within [] n inside = absurd (omega arith)
get_within (x ∷ xs) zero inside = refl
get_within (x ∷ xs) (suc n) inside = get_within xs n (omega arith)

-- a list that has no last element is empty
pub last-none : {A : Type 0} (xs : List A) → slice_get xs (length xs - 1) ≡ None → length xs ≡ 0
last-none [] is = refl
last-none (x ∷ xs) is = absurd (cc (subst IsSome is (get_within (x ∷ xs) (length (x ∷ xs) - 1) (omega arith))))

pub length_last : {A : Type 0} (xs : List A) (x : A) → length (xs ++ x ∷ []) ≡ length xs + 1
length_last [] x = refl
length_last (y ∷ xs) x = let rest = length_last xs x in omega arith

-- a version before the last one is kept
pub version-kept : (tables : Tables) (key : Key) (trade : Line) (number : ℕ) → IsLineOf tables key trade → 1 ≤ number → number < trade.number → IsSome (version_at tables key number)
version-kept tables key trade number of some before =
    let all = length_last of.history.earlier of.history.last in
    let most = ap (λ (l : Line). l.number) of.is in
    rw of.kept (elim (number == 0) as (λ b. number == 0 ≡ b → IsSome (if b then None else slice_get (versions of.history) (number - 1))) [
      | true ↦ λ z. let zero_is : number ≡ 0 = eqb-true number 0 z in absurd (omega arith)
      | false ↦ λ _. get_within (versions of.history) (number - 1) (omega (arith, all, most))
    ] refl)

-- the same if the tables are known
pub told-kept : (told : Option Tables) (key : Key) (trade : Line) (number : ℕ) → IfSome told (λ t. IsLineOf t key trade) → 1 ≤ number → number < trade.number → IfSome told (λ t. IsSome (version_at t key number))
told-kept None key trade number of some before = tt
told-kept (Some t) key trade number of some before = version-kept t key trade number of some before

-- if a version that is kept was not found, no tables are known
pub not-told : (told : Option Tables) (key : Key) (number : ℕ) → IfSome told (λ t. IsSome (version_at t key number)) → IfSome told (λ t. None ≡ version_at t key number) → told ≡ None
not-told None key number kept found = refl
not-told (Some t) key number kept found = absurd (cc (subst IsSome (sym found) kept))

-- the last version is that of the line
pub version-last : (tables : Tables) (key : Key) (trade : Line) → IsLineOf tables key trade → drop (trade.number - 1) (versions_at tables key) ≡ trade.version ∷ []
version-last tables key trade of =
    let number : trade.number - 1 ≡ length of.history.earlier = omega (arith, ap (λ (l : Line). l.number) of.is) in
    rw (of.kept, number) (drop_all of.history.earlier of.history.last ∙ ap (λ v. v ∷ []) (sym (ap (λ (l : Line). l.version) of.is)))

-- it has a number
pub line-number : (tables : Tables) (key : Key) (trade : Line) → IsLineOf tables key trade → 1 ≤ trade.number
line-number tables key trade of = omega (arith, ap (λ (l : Line). l.number) of.is)

-- the row of one more version
rows-next : (tables : Tables) (key : Key) (number : ℕ) (version : Version) (left rest : List Version) (had all : List ℕ) → left ≡ version ∷ rest
    → had ++ version_rows tables key number left ≡ all → (had ++ version_text tables key number version) ++ version_rows tables key (number + 1) rest ≡ all
rows-next tables key number version left rest had all is before =
    append_assoc had (version_text tables key number version) (version_rows tables key (number + 1) rest)
    ∙ ap (λ l. had ++ version_rows tables key number l) (sym is) ∙ before

-- the row of the last one
rows-last : (tables : Tables) (key : Key) (number : ℕ) (version : Version) (left : List Version) (had all : List ℕ) → left ≡ version ∷ []
    → had ++ version_rows tables key number left ≡ all → had ++ version_text tables key number version ≡ all
rows-last tables key number version left had all is before =
    sym (append-nil (had ++ version_text tables key number version)) ∙ rows-next tables key number version left [] had all is before

-- the same of a text of the tables, if they are known
pub told-rows : (told : Option Tables) (key : Key) (number : ℕ) (version : Version) (had next first : List ℕ) → 1 ≤ number
    → IfSome told (λ t. version_at t key number ≡ Some version)
    → IfSome told (λ t. next ≡ had ++ version_text t key number version)
    → IfSome told (λ t. had ++ version_rows t key number (drop (number - 1) (versions_at t key)) ≡ first ++ trade_rows t key)
    → IfSome told (λ t. next ++ version_rows t key (number + 1) (drop ((number + 1) - 1) (versions_at t key)) ≡ first ++ trade_rows t key)
told-rows None key number version had next first some is put before = tt
told-rows (Some t) key number version had next first some is put before =
    let rest = drop ((number + 1) - 1) (versions_at t key) in
    ap (λ l. l ++ version_rows t key (number + 1) rest) put
    ∙ rows-next t key number version (drop (number - 1) (versions_at t key)) rest had (first ++ trade_rows t key) (version-next t key number version some is) before

pub told-last : (told : Option Tables) (key : Key) (trade : Line) (number : ℕ) (had next first : List ℕ) → IfSome told (λ t. number ≤ trade.number) → trade.number ≤ number
    → IfSome told (λ t. IsLineOf t key trade)
    → IfSome told (λ t. next ≡ had ++ version_text t key trade.number trade.version)
    → IfSome told (λ t. had ++ version_rows t key number (drop (number - 1) (versions_at t key)) ≡ first ++ trade_rows t key)
    → IfSome told (λ t. next ≡ first ++ trade_rows t key)
told-last None key trade number had next first most least of put before = tt
told-last (Some t) key trade number had next first most least of put before =
    let same : number ≡ trade.number = omega arith in
    put ∙ rows-last t key trade.number trade.version (drop (trade.number - 1) (versions_at t key)) had (first ++ trade_rows t key) (version-last t key trade of) (rw same at before)

-- the first number is one of the trade's
pub told-first : (told : Option Tables) (key : Key) (trade : Line) → IfSome told (λ t. IsLineOf t key trade) → IfSome told (λ t. 1 ≤ trade.number)
told-first None key trade of = tt
told-first (Some t) key trade of = line-number t key trade of
