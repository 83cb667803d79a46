-- The part of the tables that an export of one desk has.
use Rattle.std.proofs.Common.{◌≡◌, ◌≤◌, ℕ, Bool, true, false, cond, All, List, [], ◌∷◌, ◌++◌, map, Option, Some, None, refl, sym, ap, subst, ◌∙◌, arith, append_assoc}
use Rattle.std.specs.Prelude.{◌||◌}
use Rattle.std.specs.List.{AllByRecursion, list_any}
use Rattle.std.specs.Option.{option_and_then, unwrap_or}
use Rattle.std.specs.Ordering.{eq_by_cmp}
use Rattle.std.specs.Cmp.Lexicographic.{nat_list_cmp_total}
use Rattle.std.specs.FinMap.{empty, entries, find, get, len, get-empty, get-entries, get-insert, get-retain_keys, len-empty}
use Rattle.std.proofs.lemmas.List.Elements.{All-from_recursion, recursion_from_All}
use Rattle.std.proofs.lemmas.Map.Lookups.{exact_bytes}
use Rattle.std.proofs.lemmas.Option.{none-some, same_Some}
use Rattle.muni_terms.specs.declared.row.IssueRow.{IssueRow}
use Rattle.muni_msg.specs.declared.command.Key.{Key}
use Rattle.muni_msg.specs.declared.version.Version.{Version}
use Rattle.muni_keep.specs.History.{History, version_in, versions}
use Rattle.muni_keep.specs.Tables.{Tables, issue_history, line, trade_at}
use Rattle.muni_keep.specs.Trades.{by_bytes, Trades, own}
use Rattle.muni_book_step.specs.Sound.{Rightness, IsRightVersion, HasAtMost, IsSound}
use Rattle.muni_book.specs.Rules.{book_rules}
use Rattle.muni_book.proofs.PutLemmas.{itself, same-name}
use Rattle.muni_desk_export.specs.Named.{is_named, is_of, names}
use Rattle.muni_desk_export.specs.Trades.{kept_versions}
use Rattle.muni_desk_export.specs.Laws.{DesksAreImportedAgain}
use Rattle.muni_desk_export.specs.Part.{one_desk, part_of}
use Rattle.muni_desk_export.proofs.ExportLemmas.{again, filled-run, sound-run}
use Rattle.muni_desk_export.proofs.RunLemmas.{all-still}
use Rattle.muni_desk_export.proofs.StepLemmas.{ArePriced}
use Rattle.muni_desk_export.proofs.TableLemmas.{AreFilled}

-- ---- its desk
both-empty : {A : Type 0} (b : Bool) (x : A) → cond b x x ≡ x
both-empty true x = refl
both-empty false x = refl

unwrapped : {A : Type 0} (b : Bool) (x d : A) (o : Option A) → o ≡ None → unwrap_or (cond b (Some x) o) d ≡ cond b x d
unwrapped true x d o none = refl
unwrapped false x d o none = ap (λ o. unwrap_or o d) none

own-one_desk : (desk q : List ℕ) (kept : Option (Trades Version)) → own q (one_desk desk kept) ≡ cond (eq_by_cmp by_bytes q desk) (unwrap_or kept empty) empty
own-one_desk desk q None = ap (λ o. unwrap_or o empty) (get-empty by_bytes q) ∙ sym (both-empty (eq_by_cmp by_bytes q desk) empty)
own-one_desk desk q (Some trades) =
    ap (λ o. unwrap_or o empty) (get-insert nat_list_cmp_total empty desk trades q)
    ∙ unwrapped (eq_by_cmp by_bytes q desk) trades empty (get empty q) (get-empty by_bytes q)

-- a trade of the part is one of the desk
trade-of : (t : Tables) (desk : List ℕ) (key : Key) (history : History Version) → trade_at (part_of desk t) key ≡ Some history → (key.desk ≡ desk) × (trade_at t key ≡ Some history)
trade-of t desk key history is =
    let o = get t.desks desk in
    elim (eq_by_cmp by_bytes key.desk desk) as (λ b. eq_by_cmp by_bytes key.desk desk ≡ b → get (cond b (unwrap_or o empty) empty) key.reference ≡ Some history → (key.desk ≡ desk) × (trade_at t key ≡ Some history)) [
      | true ↦ λ same there.
          let name = same-name key.desk desk same in
          (name, ap (λ d. get (own d t.desks) key.reference) name ∙ there)
      | false ↦ λ other there. absurd (none-some history (sym (get-empty by_bytes key.reference) ∙ there))
    ] refl (sym (ap (λ trades. get trades key.reference) (own-one_desk desk key.desk o)) ∙ is)

few-part : (most : ℕ) (t : Tables) (desk q : List ℕ) → HasAtMost most desk t → HasAtMost most q (part_of desk t)
few-part most t desk q few =
    rw (own-one_desk desk q (get t.desks desk))
    (elim (eq_by_cmp by_bytes q desk) as (λ b. len (cond b (own desk t.desks) empty) ≤ most) [
      | true ↦ few
      | false ↦ rw (len-empty by_bytes (History Version)) (omega arith)
    ])

kept-one_desk : (desk q : List ℕ) (kept : Option (Trades Version)) (trades : Trades Version) → get (one_desk desk kept) q ≡ Some trades → kept ≡ Some trades
kept-one_desk desk q None trades is = absurd (none-some trades (sym (get-empty by_bytes q) ∙ is))
kept-one_desk desk q (Some some) trades is =
    elim (eq_by_cmp by_bytes q desk) as (λ b. cond b (Some some) (get (empty {X = Trades Version} {R = by_bytes}) q) ≡ Some trades → Some some ≡ Some trades) [
      | true ↦ λ there. there
      | false ↦ λ there. absurd (none-some trades (sym (get-empty by_bytes q) ∙ there))
    ] (sym (get-insert nat_list_cmp_total empty desk some q) ∙ is)

filled-part : (t : Tables) (desk : List ℕ) → AreFilled t → AreFilled (part_of desk t)
filled-part t desk filled q trades is = filled desk trades (kept-one_desk desk q (get t.desks desk) trades is)

-- ---- its issues
issue-part : (t : Tables) (desk q : List ℕ) → issue_history (part_of desk t) q ≡ cond (is_named t desk q) (issue_history t q) None
issue-part t desk q =
    get-retain_keys t.issues (is_named t desk) q (λ other tied. ap (is_named t desk) (sym (exact_bytes q other tied)))

issue-of : (t : Tables) (desk q : List ℕ) (terms : History IssueRow) → issue_history (part_of desk t) q ≡ Some terms → issue_history t q ≡ Some terms
issue-of t desk q terms is =
    elim (is_named t desk q) as (λ b. cond b (issue_history t q) None ≡ Some terms → issue_history t q ≡ Some terms) [
      | true ↦ λ there. there
      | false ↦ λ none. absurd (none-some terms none)
    ] (sym (issue-part t desk q) ∙ is)

-- one that is named is as it was
named-part : (t : Tables) (desk q : List ℕ) → is_named t desk q ≡ true → issue_history (part_of desk t) q ≡ issue_history t q
named-part t desk q named = issue-part t desk q ∙ ap (λ b. cond b (issue_history t q) None) named

or-left : (a b : Bool) → a ≡ true → (a || b) ≡ true
or-left true b is = refl
or-left false b is = absurd (cc is)

or-right : (a b : Bool) → b ≡ true → (a || b) ≡ true
or-right true b is = refl
or-right false b is = is

-- a test that one of the entries passes
any-entry : {X Y : Type 0} (f : List ℕ × X → Y) (p : Y → Bool) (es : List (List ℕ × X)) (key : List ℕ) (x : X) → find by_bytes key es ≡ Some x → p (f (key, x)) ≡ true → list_any p (map f es) ≡ true
any-entry f p [] key x is passes = absurd (none-some x is)
any-entry {X} f p (e ∷ es) key x is passes =
    elim (eq_by_cmp by_bytes key e.0) as (λ b. eq_by_cmp by_bytes key e.0 ≡ b → cond b (Some e.1) (find by_bytes key es) ≡ Some x → list_any p (map f (e ∷ es)) ≡ true) [
      | true ↦ λ same here.
          let keys : key ≡ e.0 = same-name key e.0 same in
          let values : x ≡ e.1 = sym (same_Some e.1 x here) in
          let pair : ◌≡◌ {A = List ℕ × X} (key, x) e = λ i. (keys i, values i) in
          or-left (p (f e)) (list_any p (map f es)) (sym (ap (λ entry. p (f entry)) pair) ∙ passes)
      | false ↦ λ other there. or-right (p (f e)) (list_any p (map f es)) (any-entry f p es key x there passes)
    ] refl is

any-of : {A : Type 0} (p : A → Bool) (front : List A) (x : A) (back : List A) → p x ≡ true → list_any p (front ++ x ∷ back) ≡ true
any-of p [] x back passes = or-left (p x) (list_any p back) passes
any-of p (y ∷ front) x back passes = or-right (p y) (list_any p (front ++ x ∷ back)) (any-of p front x back passes)

-- each version is of its own issue, and so one of them is
each-own : (front list : List Version) → AllByRecursion (λ version. list_any (is_of version.terms.asked.cusip) (front ++ list) ≡ true) list
each-own front [] = tt
each-own front (version ∷ more) = (
  any-of (is_of version.terms.asked.cusip) front version more (itself version.terms.asked.cusip),
  subst (λ (all : List Version). AllByRecursion (λ version. list_any (is_of version.terms.asked.cusip) all ≡ true) more)
      (append_assoc front (version ∷ []) more) (each-own (front ++ version ∷ []) more),
)

-- what names the issue of a version of a trade of the desk
names-own : (t : Tables) (desk reference : List ℕ) (history : History Version) (version : Version) → get (own desk t.desks) reference ≡ Some history
    → list_any (is_of version.terms.asked.cusip) (versions history) ≡ true → is_named t desk version.terms.asked.cusip ≡ true
names-own t desk reference history version is among =
    let cusip = version.terms.asked.cusip in
    any-entry line (names t desk cusip) (entries (own desk t.desks)) reference history (sym (get-entries (own desk t.desks) reference) ∙ is)
    (ap (λ kept. list_any (is_of cusip) (kept_versions kept)) is ∙ among)

both-all : {A : Type 0} (P Q S : A → Type 0) (xs : List A) → AllByRecursion P xs → AllByRecursion Q xs → ((x : A) → P x → Q x → S x) → AllByRecursion S xs
both-all P Q S [] all also f = tt
both-all P Q S (x ∷ xs) all also f = (f x all.0 also.0, both-all P Q S xs all.1 also.1 f)

-- so the issues of the versions of its trades are as they were
abbrev pub HasOwnIssue : Tables → Tables → Version → Type 0
HasOwnIssue t part version = issue_history part version.terms.asked.cusip ≡ issue_history t version.terms.asked.cusip

pub own-issues : (t : Tables) (desk reference : List ℕ) (history : History Version) → get (own desk t.desks) reference ≡ Some history → AllByRecursion (HasOwnIssue t (part_of desk t)) (versions history)
own-issues t desk reference history is =
    let list = versions history in
    all-still (λ version. list_any (is_of version.terms.asked.cusip) list ≡ true) (HasOwnIssue t (part_of desk t)) list
    (λ version among. named-part t desk version.terms.asked.cusip (names-own t desk reference history version is among)) (each-own [] list)

right-part : (R : Rightness) (t : Tables) (desk reference : List ℕ) (history : History Version) → get (own desk t.desks) reference ≡ Some history
    → All (IsRightVersion R t.issues) (versions history) → All (IsRightVersion R (part_of desk t).issues) (versions history)
right-part R t desk reference history is right =
    let list = versions history in
    All-from_recursion (IsRightVersion R (part_of desk t).issues) list
    (both-all (IsRightVersion R t.issues) (HasOwnIssue t (part_of desk t)) (IsRightVersion R (part_of desk t).issues) list
    (recursion_from_All (IsRightVersion R t.issues) list right) (own-issues t desk reference history is)
    (λ version right same. record {
      issue = right.issue;
      kept = ap (option_and_then (λ terms. version_in terms version.issue_number)) same ∙ right.kept;
      right = right.right;
    }))

-- ---- it is sound
sound-part : (R : Rightness) (t : Tables) (desk : List ℕ) → IsSound R t → IsSound R (part_of desk t)
sound-part R t desk sound = record {
  issues = λ cusip terms is. sound.issues cusip terms (issue-of t desk cusip terms is);
  trades = λ key history is.
      let found = trade-of t desk key history is in
      let trade = sound.trades key history found.1 in
      record {
        few = trade.few;
        acts = trade.acts;
        right = right-part R t desk key.reference history (ap (λ d. get (own d t.desks) key.reference) (sym found.0) ∙ found.1) trade.right;
      };
  few = λ q. few-part 100_000_000 t desk q (sound.few desk);
}

pub desks-again : DesksAreImportedAgain
desks-again limit most ends tables desk commands replies small run few =
    let P = book_rules limit ends in
    again (book_rules most ends) (part_of desk tables)
    (record { sound = sound-part (ArePriced P) tables desk (sound-run P tables commands replies small run); few = λ q. few-part most tables desk q few })
    (filled-part tables desk (filled-run P tables commands replies run))
