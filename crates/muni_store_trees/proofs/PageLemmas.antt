-- What a scan of the trades of a desk has passed.
use Rattle.std.proofs.Common.{◌≡◌, ℕ, zero, suc, not, ◌+◌, ◌-◌, ◌^◌, ◌<◌, ◌≤◌, Bool, true, false, List, [], ◌∷◌, ◌++◌, length, take, min, filter, slice_get, Some, None, if◌then◌else◌, refl, sym, ap, ◌∙◌, subst, arith, cond}
use Rattle.std.specs.Str.{bytes_eq}
use Rattle.std.proofs.lemmas.List.{take-append-le}
use Rattle.sqlite_value.specs.Order.{Row}
use Rattle.sqlite_trees.specs.View.{View}
use Rattle.muni_msg.specs.declared.command.Line.{Line}
use Rattle.muni_store_trees.specs.Entries.{Scans, Gives, from, matching}
use Rattle.muni_store_trees.specs.Found.{AreLines, IsLineAt, IsPast, is_first_version, last_of_each}
use Rattle.muni_store_trees.specs.Rows.{text_in}

-- of these trades a scan has passed some, and stands at the first entry of the next one, if there is one
abbrev pub IsAt : View → Row → List Row → List Row → Row → Bool → Type 0
IsAt view key done all entry true = (left : List Row) × (all ≡ done ++ last_of_each (entry ∷ left)) × Scans view key left
IsAt view key done all entry false = all ≡ done

-- the first entry of all
pub at_first : (view : View) (key entry : Row) (entries : List Row) (more : Bool) → Gives view key entries entry more → IsAt view key [] (last_of_each entries) entry more
at_first view key entry entries true gives = (gives.0, ap last_of_each gives.1, gives.2)
at_first view key entry entries false gives = ap last_of_each gives

append-one : (xs ys : List Row) (x : Row) → xs ++ x ∷ ys ≡ (xs ++ x ∷ []) ++ ys
append-one [] ys x = refl
append-one (y ∷ xs) ys x = ap (λ l. y ∷ l) (append-one xs ys x)

-- one trade more is passed
pub at_next : (view : View) (key entry last following : Row) (done all left : List Row) (more : Bool) → all ≡ done ++ last_of_each (entry ∷ left)
    → IsPast view key (entry ∷ left) last following more → IsAt view key (done ++ last ∷ []) all following more
at_next view key entry last following done all left true is past =
    (past.0, is ∙ ap (λ l. done ++ l) past.1 ∙ append-one done (last_of_each (following ∷ past.0)) last, past.2)
at_next view key entry last following done all left false is past = is ∙ ap (λ l. done ++ l) past

pub lines_more : (rows : List Row) (desk : List ℕ) (done : List Row) (lines : List Line) (entry : Row) (line : Line) → AreLines rows desk done lines → IsLineAt rows desk entry line
    → AreLines rows desk (done ++ entry ∷ []) (lines ++ line ∷ [])
lines_more rows desk [] [] entry line are is = (is, tt)
lines_more rows desk [] (l ∷ lines) entry line are is = elim are [ ]
lines_more rows desk (d ∷ done) [] entry line are is = elim are [ ]
lines_more rows desk (d ∷ done) (l ∷ lines) entry line are is = (are.0, lines_more rows desk done lines entry line are.1 is)

lines_length : (rows : List Row) (desk : List ℕ) (done : List Row) (lines : List Line) → AreLines rows desk done lines → length done ≡ length lines
lines_length rows desk [] [] are = refl
lines_length rows desk [] (l ∷ lines) are = elim are [ ]
lines_length rows desk (d ∷ done) [] are = elim are [ ]
lines_length rows desk (d ∷ done) (l ∷ lines) are = ap suc (lines_length rows desk done lines are.1)

take-whole : (n : ℕ) (xs : List Row) → length xs ≤ n → take n xs ≡ xs
take-whole n [] short = take-none n
  where
    take-none : (m : ℕ) → take {A = Row} m [] ≡ []
    take-none zero = refl
    take-none (suc m) = refl
take-whole zero (x ∷ xs) short = absurd (omega arith)
take-whole (suc n) (x ∷ xs) short = ap (λ l. x ∷ l) (take-whole n xs (omega arith))

take-front : (n : ℕ) (xs ys : List Row) → length xs ≡ n → take n (xs ++ ys) ≡ xs
take-front n xs ys is = take-append-le n xs ys (omega arith) ∙ take-whole n xs (omega arith)

-- a page is full, or has all trades
pub page_is : (rows : List Row) (desk : List ℕ) (view : View) (key entry : Row) (done all : List Row) (lines : List Line) (more : Bool)
    → AreLines rows desk done lines → IsAt view key done all entry more → length lines ≤ 50 → (more ≡ true → 50 ≤ length lines) → AreLines rows desk (take 50 all) lines
page_is rows desk view key entry done all lines true are at most full =
    let enough = full refl in
    let is : length done ≡ 50 = (let same = lines_length rows desk done lines are in omega arith) in
    subst (λ l. AreLines rows desk l lines) (sym (ap (take 50) at.1 ∙ take-front 50 done (last_of_each (entry ∷ at.0)) is)) are
page_is rows desk view key entry done all lines false are at most full =
    let short : length done ≤ 50 = (let same = lines_length rows desk done lines are in omega arith) in
    subst (λ l. AreLines rows desk l lines) (sym (ap (take 50) at ∙ take-whole 50 done short)) are

same_trade : (entry following : Row) (left : List Row) → bytes_eq (text_in entry 1) (text_in following 1) ≡ true
    → last_of_each (entry ∷ following ∷ left) ≡ last_of_each (following ∷ left)
same_trade entry following left same = ap (λ b. if b then last_of_each (following ∷ left) else entry ∷ last_of_each (following ∷ left)) same

other_trade : (entry following : Row) (left : List Row) → bytes_eq (text_in entry 1) (text_in following 1) ≡ false
    → last_of_each (entry ∷ following ∷ left) ≡ entry ∷ last_of_each (following ∷ left)
other_trade entry following left other = ap (λ b. if b then last_of_each (following ∷ left) else entry ∷ last_of_each (following ∷ left)) other

not-is : (b c d : Bool) → c ≡ not b → c ≡ d → b ≡ not d
not-is true c d is here = let e = sym is ∙ here in ap not e
not-is false c d is here = let e = sym is ∙ here in ap not e

-- whether two entries are of one trade, by a test of their references
tested : (entry following : Row) (a b : List ℕ) (differ here : Bool) → a ≡ text_in entry 1 → b ≡ text_in following 1 → differ ≡ not (bytes_eq a b) → differ ≡ here
    → bytes_eq (text_in entry 1) (text_in following 1) ≡ not here
tested entry following a b differ here a_is b_is test is =
    ap (λ x. bytes_eq x (text_in following 1)) (sym a_is) ∙ ap (λ x. bytes_eq a x) (sym b_is) ∙ not-is (bytes_eq a b) differ here test is

-- an entry of another trade follows
pub passes : (view : View) (key first entry following : Row) (left now : List Row) (a b : List ℕ) (differ : Bool)
    → last_of_each (first ∷ left) ≡ last_of_each (entry ∷ now) → a ≡ text_in entry 1 → b ≡ text_in following 1 → differ ≡ not (bytes_eq a b) → differ ≡ true
    → Gives view key now following true → IsPast view key (first ∷ left) entry following true
passes view key first entry following left now a b differ so_far a_is b_is test is gives =
    (gives.0, so_far ∙ ap (λ l. last_of_each (entry ∷ l)) gives.1 ∙ other_trade entry following gives.0 (tested entry following a b differ true a_is b_is test is), gives.2)

-- an entry of the same trade follows
pub goes_on : (view : View) (key first entry following next : Row) (left now : List Row) (a b : List ℕ) (differ : Bool)
    → last_of_each (first ∷ left) ≡ last_of_each (entry ∷ now) → a ≡ text_in entry 1 → b ≡ text_in following 1 → differ ≡ not (bytes_eq a b) → differ ≡ false
    → Gives view key now following true → next ≡ following → (more : List Row) × (last_of_each (first ∷ left) ≡ last_of_each (next ∷ more)) × Scans view key more
goes_on view key first entry following next left now a b differ so_far a_is b_is test is gives next_is = (
  gives.0,
  so_far ∙ ap (λ l. last_of_each (entry ∷ l)) gives.1 ∙ same_trade entry following gives.0 (tested entry following a b differ false a_is b_is test is)
      ∙ ap (λ e. last_of_each (e ∷ gives.0)) (sym next_is),
  gives.2,
)

-- what a scan gives, by its key
pub given : (old new : View) (key wanted entry : Row) (now : List Row) (found here : Bool) → key ≡ wanted → found ≡ here
    → ((left : List Row) → Scans old key left → Gives new key left entry found) → Scans old wanted now → Gives new wanted now entry here
given old new key wanted entry now found here key_is is gives scans =
    subst (λ k. Gives new k now entry here) key_is (subst (Gives new key now entry) is (gives now (subst (λ k. Scans old k now) (sym key_is) scans)))

abbrev pub firsts : List Row → ℕ
firsts entries = length (filter is_first_version entries)

first_version : (entry : Row) (left : List Row) → is_first_version entry ≡ true → filter is_first_version (entry ∷ left) ≡ entry ∷ filter is_first_version left
first_version entry left is = ap (λ b. cond b (entry ∷ filter is_first_version left) (filter is_first_version left)) is

later_version : (entry : Row) (left : List Row) → is_first_version entry ≡ false → filter is_first_version (entry ∷ left) ≡ filter is_first_version left
later_version entry left is = ap (λ b. cond b (entry ∷ filter is_first_version left) (filter is_first_version left)) is

-- all are counted
pub count_done : (all now : List Row) (count : ℕ) → count < 2 ^ 32 → min (firsts all) (2 ^ 32 - 1) ≡ min (count + firsts now) (2 ^ 32 - 1) → now ≡ []
    → count ≡ min (firsts all) (2 ^ 32 - 1)
count_done all now count bound is none =
    let nothing : firsts now ≡ 0 = ap firsts none in
    omega arith

-- one entry more is counted, or is not of a first version
pub count_more : (view : View) (key entry : Row) (all now : List Row) (old new : ℕ) (is_first here : Bool) → is_first ≡ is_first_version entry → is_first ≡ here
    → new ≡ (if here then min (old + 1) (2 ^ 32 - 1) else old) → min (firsts all) (2 ^ 32 - 1) ≡ min (old + firsts now) (2 ^ 32 - 1) → Gives view key now entry true
    → (more : List Row) × Scans view key more × (min (firsts all) (2 ^ 32 - 1) ≡ min (new + firsts more) (2 ^ 32 - 1))
count_more view key entry all now old new is_first true test is new_is so_far gives =
    let one : firsts now ≡ suc (firsts gives.0) = ap firsts gives.1 ∙ ap length (first_version entry gives.0 (sym test ∙ is)) in
    (gives.0, gives.2, omega arith)
count_more view key entry all now old new is_first false test is new_is so_far gives =
    let none : firsts now ≡ firsts gives.0 = ap firsts gives.1 ∙ ap length (later_version entry gives.0 (sym test ∙ is)) in
    (gives.0, gives.2, omega arith)

get_none : (rows : List Row) (n : ℕ) → rows ≡ [] → slice_get rows n ≡ None
get_none [] zero is = refl
get_none [] (suc n) is = refl
get_none (row ∷ rows) n is = absurd (let e = is in cc)

-- no entry is left before the one that is sought
pub none_before : (all now : List Row) (n : ℕ) → slice_get (filter is_first_version all) 50 ≡ slice_get (filter is_first_version now) n → now ≡ []
    → slice_get (filter is_first_version all) 50 ≡ None
none_before all now n so_far none = so_far ∙ get_none (filter is_first_version now) n (ap (filter is_first_version) none)

-- this entry is the one that is sought
pub is_before : (view : View) (key entry : Row) (all now : List Row) (n : ℕ) (is_first : Bool) → is_first ≡ is_first_version entry → is_first ≡ true → n ≡ 50
    → slice_get (filter is_first_version all) 50 ≡ slice_get (filter is_first_version now) (50 - n) → Gives view key now entry true
    → slice_get (filter is_first_version all) 50 ≡ Some entry
is_before view key entry all now n is_first test is full so_far gives =
    so_far ∙ ap (λ k. slice_get (filter is_first_version now) (50 - k)) full
    ∙ ap (λ l. slice_get (filter is_first_version l) 0) gives.1 ∙ ap (λ l. slice_get l 0) (first_version entry gives.0 (sym test ∙ is))

-- one entry more is passed
pub before_more : (view : View) (key entry : Row) (all now : List Row) (old new : ℕ) (is_first here : Bool) → is_first ≡ is_first_version entry → is_first ≡ here
    → new ≡ (if here then old + 1 else old) → new ≤ 50
    → slice_get (filter is_first_version all) 50 ≡ slice_get (filter is_first_version now) (50 - old) → Gives view key now entry true
    → (more : List Row) × Scans view key more × (slice_get (filter is_first_version all) 50 ≡ slice_get (filter is_first_version more) (50 - new))
before_more view key entry all now old new is_first true test is new_is bound so_far gives =
    let step : 50 - old ≡ suc (50 - new) = omega arith in (
      gives.0,
      gives.2,
      so_far ∙ ap (λ k. slice_get (filter is_first_version now) k) step ∙ ap (λ l. slice_get (filter is_first_version l) (suc (50 - new))) gives.1
          ∙ ap (λ l. slice_get l (suc (50 - new))) (first_version entry gives.0 (sym test ∙ is)),
    )
before_more view key entry all now old new is_first false test is new_is bound so_far gives = (
  gives.0,
  gives.2,
  so_far ∙ ap (λ k. slice_get (filter is_first_version now) (50 - k)) (sym new_is) ∙ ap (λ l. slice_get (filter is_first_version l) (50 - new)) gives.1
      ∙ ap (λ l. slice_get l (50 - new)) (later_version entry gives.0 (sym test ∙ is)),
)

-- the first entry of a page
pub page_begins : (old new : View) (key wanted start begun entry : Row) (entries : List Row) (found : Bool) → key ≡ wanted → start ≡ begun
    → ((left : List Row) → Scans old key left → Gives new key left entry found) → Scans old key (matching key (from start entries))
    → IsAt new wanted [] (last_of_each (matching wanted (from begun entries))) entry found
page_begins old new key wanted start begun entry entries found key_is start_is gives scans =
    subst (λ s. IsAt new wanted [] (last_of_each (matching wanted (from s entries))) entry found) start_is
    (subst (λ k. IsAt new k [] (last_of_each (matching k (from start entries))) entry found) key_is
    (at_first new key entry (matching key (from start entries)) found (gives (matching key (from start entries)) scans)))

-- one trade of a page is passed
pub page_next : (old mid new : View) (key wanted entry last following next : Row) (done all : List Row) (is_more more : Bool) → key ≡ wanted → is_more ≡ true → next ≡ following → new ≡ mid
    → IsAt old wanted done all entry is_more → ((left : List Row) → Scans old key left → IsPast mid key (entry ∷ left) last following more)
    → IsAt new wanted (done ++ last ∷ []) all next more
page_next old mid new key wanted entry last following next done all is_more more key_is more_is next_is same at past =
    let here : IsAt old wanted done all entry true = subst (IsAt old wanted done all entry) more_is at in
    subst (λ v. IsAt v wanted (done ++ last ∷ []) all next more) (sym same)
    (subst (λ e. IsAt mid wanted (done ++ last ∷ []) all e more) (sym next_is)
    (at_next mid wanted entry last following done all here.0 more here.1
    (subst (λ k. IsPast mid k (entry ∷ here.0) last following more) key_is (past here.0 (subst (λ k. Scans old k here.0) (sym key_is) here.2)))))
