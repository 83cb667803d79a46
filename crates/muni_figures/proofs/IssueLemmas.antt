-- The issues that rows name.
use Rattle.std.proofs.Common.{◌≡◌, ◌<◌, ◌≤◌, ◌+◌, ◌-◌, ◌⊎◌, ◌∙◌, ℕ, Bool, true, false, inl, inr, List, [], ◌∷◌, ◌++◌, length, take, get_or, Option, Some, None, Result, Ok, Err, refl, sym, ap, subst, arith}
use Rattle.std.specs.Prelude.{Contains, IfOk, IfSome, IsOk, nat_lt}
use Rattle.std.specs.List.{AllByRecursion, AllZip, flat_map}
use Rattle.std.proofs.lemmas.List.{append-nil, get_or_append_left, get_or-append-add, get_or-append_right, get_or_push, length-append, take_more}
use Rattle.std.proofs.lemmas.Bool.Decides.{nat_tests}
use Rattle.std.proofs.lemmas.Grind.{flat_map-append}
use Rattle.muni_terms.specs.declared.row.IssueRow.{IssueRow}
use Rattle.muni_keep.specs.Tables.{Tables}
use Rattle.muni_marks.specs.Portfolio.{AreKnown, IsFetched, IsKnown, IsKnownNext}
use Rattle.muni_marks.proofs.PortfolioLemmas.{all_push}
use Rattle.muni_figures.specs.Issues.{AreAsked, AreFound, IsNamed, IsScan, NamesRow}
use Rattle.muni_edge.specs.declared.fault.NoMemory.{NoMemory}
use Rattle.muni_figures.specs.Rows.{Row}
use Rattle.muni_figures.specs.Shares.{HasScan, IsScanned, rows_of_share, rows_of_shares, unknown_of, unknown_of_share, unknown_of_shares}
use Rattle.muni_figures.specs.declared.scan.Scan.{Scan}
use Rattle.muni_figures.specs.declared.shares.Share.{Share}

contains-push : {X : Type 0} (xs : List X) (y x : X) → Contains xs x → Contains (xs ++ y ∷ []) x
contains-push xs y x (k, inside, there) =
    (k, omega (arith, inside, length-append xs (y ∷ [])), get_or_append_left xs (y ∷ []) x k inside ∙ there)

named-push : (issue : List ℕ → Option IssueRow) (row : Row) (old new : List (List ℕ)) → ((cusip : List ℕ) → Contains old cusip → Contains new cusip) → IsNamed issue old row → IsNamed issue new row
named-push issue (Err fault) old new kept named = tt
named-push issue (Ok asked) old new kept (inl had) = inl had
named-push issue (Ok asked) old new kept (inr there) = inr (kept asked.cusip there)

pub all-named : (issue : List ℕ → Option IssueRow) (rows : List Row) (old new : List (List ℕ)) → ((cusip : List ℕ) → Contains old cusip → Contains new cusip) → AllByRecursion (IsNamed issue old) rows → AllByRecursion (IsNamed issue new) rows
all-named issue [] old new kept named = tt
all-named issue (row ∷ rows) old new kept named = (named-push issue row old new kept named.0, all-named issue rows old new kept named.1)

-- one row more is named
pub one-named : (issue : List ℕ → Option IssueRow) (rows : List Row) (row : Row) (old new : List (List ℕ)) → NamesRow issue row old new → AllByRecursion (IsNamed issue old) rows → AllByRecursion (IsNamed issue new) (rows ++ row ∷ [])
one-named issue rows row old new names named = all_push (IsNamed issue new) rows row (all-named issue rows old new names.kept named) names.named

-- ---- asking for CUSIPs one after another
either-of : {X : Type 0} (xs : List X) (y x : X) → Contains (xs ++ y ∷ []) x → Contains xs x ⊎ (y ≡ x)
either-of xs y x (k, inside, there) = by (nat_lt k (length xs)) refl
  where
    by : (test : Bool) → nat_lt k (length xs) ≡ test → Contains xs x ⊎ (y ≡ x)
    by true is =
        let within : k < length xs = grind (arith, nat_tests, is) in
        inl (k, within, sym (get_or_append_left xs (y ∷ []) x k within) ∙ there)
    by false is =
        let past : length xs ≤ k = grind (arith, nat_tests, is) in
        let last : length xs ≡ k = omega (arith, past, inside, length-append xs (y ∷ [])) in
        inr (sym (get_or_push xs y x k last) ∙ there)

asked-next : (tables : Tables) (unknown : List (List ℕ)) (cusip : List ℕ) (old mid new : List ℕ → Option IssueRow) (is_missing : List ℕ → Bool) → AreAsked tables unknown old mid → IsKnownNext tables cusip mid new is_missing
    → AreAsked tables (unknown ++ cusip ∷ []) old new
asked-next tables unknown cusip old mid new is_missing asked next = record {
  found = next.are.found;
  these = λ other there. by other (either-of unknown cusip other there);
  others = λ other was. next.others other (asked.others other was);
}
  where
    by : (other : List ℕ) → Contains unknown other ⊎ (cusip ≡ other) → IsKnown tables new other
    by other (inl there) = next.others other (asked.these other there)
    by other (inr is) = subst (IsKnown tables new) is next.this

pub told-asked : (told : Option Tables) (all : List (List ℕ)) (i : ℕ) (d : List ℕ) (old mid new : List ℕ → Option IssueRow) (is_missing : List ℕ → Bool) → i < length all
    → IfSome told (λ t. AreAsked t (take i all) old mid) → IfSome told (λ t. IsKnownNext t (get_or all i d) mid new is_missing) → IfSome told (λ t. AreAsked t (take (i + 1) all) old new)
told-asked None all i d old mid new is_missing within asked next = tt
told-asked (Some t) all i d old mid new is_missing within asked next =
    subst (λ l. AreAsked t l old new) (sym (take_more all i d within)) (asked-next t (take i all) (get_or all i d) old mid new is_missing asked next)

pub told-next : (told : Option Tables) (cusip : List ℕ) (mid new : List ℕ → Option IssueRow) (is_missing : List ℕ → Bool) → IfSome told (λ t. IsKnownNext t cusip mid new is_missing) → IfSome told (λ t. AreKnown t new is_missing)
told-next None cusip mid new is_missing next = tt
told-next (Some t) cusip mid new is_missing next = next.are

-- ---- the CUSIPs of blocks one after another
in-either : {X : Type 0} (xs ys : List X) (x : X) → Contains (xs ++ ys) x → Contains xs x ⊎ Contains ys x
in-either xs ys x (k, inside, there) = by (nat_lt k (length xs)) refl
  where
    by : (test : Bool) → nat_lt k (length xs) ≡ test → Contains xs x ⊎ Contains ys x
    by true is =
        let within : k < length xs = grind (arith, nat_tests, is) in
        inl (k, within, sym (get_or_append_left xs ys x k within) ∙ there)
    by false is =
        let past : length xs ≤ k = grind (arith, nat_tests, is) in
        inr (k - length xs, omega (arith, past, inside, length-append xs ys), sym (get_or-append_right xs ys (length xs) k x refl past) ∙ there)

asked-joined : (tables : Tables) (unknown more : List (List ℕ)) (old mid new : List ℕ → Option IssueRow) → AreAsked tables unknown old mid → AreAsked tables more mid new → AreAsked tables (unknown ++ more) old new
asked-joined tables unknown more old mid new asked then = record {
  found = then.found;
  these = λ other there. by other (in-either unknown more other there);
  others = λ other was. then.others other (asked.others other was);
}
  where
    by : (other : List ℕ) → Contains unknown other ⊎ Contains more other → IsKnown tables new other
    by other (inl there) = then.others other (asked.these other there)
    by other (inr there) = then.these other there

pub told-joined : {Z : Type 0} (f : Z → List (List ℕ)) (told : Option Tables) (all : List Z) (i : ℕ) (z : Z) (old mid new : List ℕ → Option IssueRow) → i < length all → z ≡ get_or all i z
    → IfSome told (λ t. AreAsked t (flat_map f (take i all)) old mid) → IfSome told (λ t. AreAsked t (f z) mid new) → IfSome told (λ t. AreAsked t (flat_map f (take (i + 1) all)) old new)
told-joined f None all i z old mid new within is asked then = tt
told-joined f (Some t) all i z old mid new within is asked then =
    let more = take_more all i z within ∙ ap (λ z. take i all ++ z ∷ []) (sym is) in
    subst (λ l. AreAsked t l old new)
    (sym (ap (flat_map f) more ∙ flat_map-append f (take i all) (z ∷ []) ∙ ap (λ l. flat_map f (take i all) ++ l) (append-nil (f z))))
    (asked-joined t (flat_map f (take i all)) (f z) old mid new asked then)

pub scan-more : (xs : List Share) (i : ℕ) (share : Share) (scan : Scan) → i < length xs → share ≡ get_or xs i share → share.scan ≡ Ok scan → AllByRecursion HasScan (take i xs) → AllByRecursion HasScan (take (i + 1) xs)
scan-more xs i share scan within is some are =
    subst (AllByRecursion HasScan) (sym (take_more xs i share within ∙ ap (λ s. take i xs ++ s ∷ []) (sym is))) (all_push HasScan (take i xs) share are (subst IsOk (sym some) refl))

-- ---- the rows of blocks whose CUSIPs were asked for
row-fetched : (tables : Tables) (unknown all : List (List ℕ)) (old new : List ℕ → Option IssueRow) (row : Row) → AreFound tables old → AreAsked tables all old new → ((cusip : List ℕ) → Contains unknown cusip → Contains all cusip)
    → IsNamed old unknown row → IsFetched tables new row
row-fetched tables unknown all old new (Err fault) found asked among named = tt
row-fetched tables unknown all old new (Ok one) found asked among (inl had) = asked.others one.cusip (found one.cusip had)
row-fetched tables unknown all old new (Ok one) found asked among (inr there) = asked.these one.cusip (among one.cusip there)

rows-fetched : (tables : Tables) (unknown all : List (List ℕ)) (old new : List ℕ → Option IssueRow) (rows : List Row) → AreFound tables old → AreAsked tables all old new → ((cusip : List ℕ) → Contains unknown cusip → Contains all cusip)
    → AllByRecursion (IsNamed old unknown) rows → AllByRecursion (IsFetched tables new) rows
rows-fetched tables unknown all old new [] found asked among named = tt
rows-fetched tables unknown all old new (row ∷ rows) found asked among named =
    (row-fetched tables unknown all old new row found asked among named.0, rows-fetched tables unknown all old new rows found asked among named.1)

all-append : {X : Type 0} (P : X → Type 0) (xs ys : List X) → AllByRecursion P xs → AllByRecursion P ys → AllByRecursion P (xs ++ ys)
all-append P [] ys are also = also
all-append P (x ∷ xs) ys are also = (are.0, all-append P xs ys are.1 also)

contains-left : {X : Type 0} (xs ys : List X) (x : X) → Contains xs x → Contains (xs ++ ys) x
contains-left xs ys x (k, inside, there) = (k, omega (arith, inside, length-append xs ys), get_or_append_left xs ys x k inside ∙ there)

contains-right : {X : Type 0} (xs ys : List X) (x : X) → Contains ys x → Contains (xs ++ ys) x
contains-right xs ys x (k, inside, there) = (length xs + k, omega (arith, inside, length-append xs ys), get_or-append-add xs ys k x ∙ there)

share-fetched : (tables : Tables) (all : List (List ℕ)) (first new : List ℕ → Option IssueRow) (old share : Share) (scan : Result Scan NoMemory) → share.scan ≡ scan → IsOk scan → IsScanned first old share → AreFound tables first → AreAsked tables all first new
    → ((cusip : List ℕ) → Contains (unknown_of_share share) cusip → Contains all cusip) → AllByRecursion (IsFetched tables new) (rows_of_share old)
share-fetched tables all first new old share (Err none) is ok scanned found asked among = absurd (cc ok)
share-fetched tables all first new old share (Ok scan) is ok scanned found asked among =
    let named = subst (λ s. IfOk s (λ scan. IsScan first (rows_of_share old) scan)) is scanned.scanned in
    rows-fetched tables scan.unknown.items all first new (rows_of_share old) found asked
    (λ cusip there. among cusip (subst (λ s. Contains (unknown_of s) cusip) (sym is) there)) named.named

shares-fetched : (tables : Tables) (all : List (List ℕ)) (first new : List ℕ → Option IssueRow) (olds shares : List Share) → AllZip (IsScanned first) olds shares → AllByRecursion HasScan shares → AreFound tables first → AreAsked tables all first new
    → ((cusip : List ℕ) → Contains (unknown_of_shares shares) cusip → Contains all cusip) → AllByRecursion (IsFetched tables new) (rows_of_shares olds)
shares-fetched tables all first new [] [] scanned has found asked among = tt
shares-fetched tables all first new [] (share ∷ shares) scanned has found asked among = absurd scanned
shares-fetched tables all first new (old ∷ olds) [] scanned has found asked among = absurd scanned
shares-fetched tables all first new (old ∷ olds) (share ∷ shares) scanned has found asked among =
    all-append (IsFetched tables new) (rows_of_share old) (rows_of_shares olds)
    (share-fetched tables all first new old share share.scan refl has.0 scanned.0 found asked (λ cusip there. among cusip (contains-left (unknown_of_share share) (unknown_of_shares shares) cusip there)))
    (shares-fetched tables all first new olds shares scanned.1 has.1 found asked (λ cusip there. among cusip (contains-right (unknown_of_share share) (unknown_of_shares shares) cusip there)))

none-told : (told : Option Tables) (issue : List ℕ → Option IssueRow) (rows : List Row) → told ≡ None → AllByRecursion (λ row. IfSome told (λ t. IsFetched t issue row)) rows
none-told told issue [] is = tt
none-told told issue (row ∷ rows) is = (subst (λ told. IfSome told (λ t. IsFetched t issue row)) (sym is) tt, none-told told issue rows is)

pub all-fetched : (told : Option Tables) (first new : List ℕ → Option IssueRow) (olds shares : List Share) → AllZip (IsScanned first) olds shares → AllByRecursion HasScan shares → IfSome told (λ t. AreFound t first)
    → IfSome told (λ t. AreAsked t (unknown_of_shares shares) first new) → AllByRecursion (λ row. IfSome told (λ t. IsFetched t new row)) (rows_of_shares olds)
all-fetched None first new olds shares scanned has found asked = none-told None new (rows_of_shares olds) refl
all-fetched (Some t) first new olds shares scanned has found asked =
    shares-fetched t (unknown_of_shares shares) first new olds shares scanned has found asked (λ cusip there. there)
