-- The rows of a portfolio, the issues that they name, and their lines.
use Rattle.std.proofs.Common.{◌≡◌, ◌≤◌, ◌<◌, ℕ, ◌+◌, Bool, true, false, cond, List, [], ◌∷◌, ◌++◌, length, take, get_or, Option, Some, None, Result, Ok, Err, refl, sym, ap, subst, ◌∙◌, arith}
use Rattle.std.specs.Prelude.{IfSome, IsSome, is_some}
use Rattle.std.specs.List.{AllByRecursion, AllZip}
use Rattle.std.specs.BTreeMap.{is_at}
use Rattle.std.proofs.lemmas.List.{length-map, take_more}
use Rattle.std.proofs.lemmas.Map.Lookups.{exact_bytes}
use Rattle.std.proofs.lemmas.Map.Views.{tells_apart}
use Rattle.std.specs.Cmp.{eq_by_cmp_equiv}
use Rattle.std.specs.Cmp.Lexicographic.{nat_list_cmp_total}
use Rattle.csv.specs.Reading.{default_config, records, strip_bom}
use Rattle.muni_terms.specs.declared.row.IssueRow.{IssueRow}
use Rattle.muni_msg.specs.Refusal.{number_of}
use Rattle.muni_msg.specs.declared.asked.Asked.{Asked}
use Rattle.muni_msg.specs.declared.figures.Figures.{Figures}
use Rattle.muni_msg.specs.declared.refusal.Refusal.{Refusal}
use Rattle.muni_msg.specs.declared.refusal.Refusal.TheVariants.{UnknownIssue, UnknownTrade, Conflict, BadTerms, SettleOutside, GivenOutOfRange, YieldBelow, YieldAbove, NoTime, Undecided, Canceled, WrongNumber, VersionsFull, DeskFull, WrongBasis}
use Rattle.muni_keep.specs.Tables.{Tables, issue_at}
use Rattle.muni_keep.specs.Trades.{by_bytes}
use Rattle.muni_import.specs.declared.row.RowFault.{RowFault}
use Rattle.muni_import.proofs.LawLemmas.{few-records}
use Rattle.muni_marks.specs.Rows.{row_of, rows_of}
use Rattle.muni_marks.specs.Line.{HasName, marks_text}
use Rattle.muni_marks.specs.Marks.{Pricing, IsMark, IsMarkBy, IsMarkOf, said_of}
use Rattle.muni_marks.specs.Portfolio.{IsKnown, AreKnown, HasLineOnEach, IsKnownNext, IsFetched, AreFetched, IsPortfolioText}
use Rattle.muni_marks.specs.declared.pricing.MarkSaid.{MarkSaid}

-- there are no more rows than bytes
pub few : (text : List ℕ) (rows : List (Result Asked RowFault)) → rows ≡ rows_of text → length rows ≤ length text
unfolding rows_of
few text rows are =
    omega (arith, ap length are, length-map (records default_config (strip_bom text)) row_of, few-records text)

-- a refusal has a number from 1 to 15
pub numbered : (refusal : Refusal) → (1 ≤ number_of refusal) × (number_of refusal ≤ 15)
numbered UnknownIssue = (omega arith, omega arith)
numbered UnknownTrade = (omega arith, omega arith)
numbered (Conflict kept) = (omega arith, omega arith)
numbered (BadTerms fault) = (omega arith, omega arith)
numbered SettleOutside = (omega arith, omega arith)
numbered (GivenOutOfRange range) = (omega arith, omega arith)
numbered (YieldBelow date) = (omega arith, omega arith)
numbered YieldAbove = (omega arith, omega arith)
numbered (NoTime date) = (omega arith, omega arith)
numbered (Undecided date boundary) = (omega arith, omega arith)
numbered Canceled = (omega arith, omega arith)
numbered (WrongNumber next) = (omega arith, omega arith)
numbered VersionsFull = (omega arith, omega arith)
numbered DeskFull = (omega arith, omega arith)
numbered WrongBasis = (omega arith, omega arith)

answer_named : (asked : Asked) (answer : Result Figures Refusal) → HasName (said_of asked answer)
answer_named asked (Ok figures) = tt
answer_named asked (Err refusal) = numbered refusal

mark_named : (Prices : Pricing) (found : Option IssueRow) (asked : Asked) (said : MarkSaid) → IsMarkBy Prices found asked said → HasName said
mark_named Prices None asked said is = subst HasName (sym is) (omega arith, omega arith)
mark_named Prices (Some issue) asked said (answer, priced, is) = subst HasName (sym is) (answer_named asked answer)

row_named : (Prices : Pricing) (kept : List ℕ → Option IssueRow) (row : Result Asked RowFault) (said : MarkSaid) → IsMark Prices kept row said → HasName said
unfolding IsMark
row_named Prices kept (Err fault) said is = subst HasName (sym is) tt
row_named Prices kept (Ok asked) said is = mark_named Prices (kept asked.cusip) asked said is

-- each refusal has a name
pub all_named : (Prices : Pricing) (kept : List ℕ → Option IssueRow) (rows : List (Result Asked RowFault)) (said : List MarkSaid) → AllZip (IsMark Prices kept) rows said → AllByRecursion HasName said
all_named Prices kept [] [] are = tt
all_named Prices kept [] (mark ∷ said) are = absurd are
all_named Prices kept (row ∷ rows) [] are = absurd are
all_named Prices kept (row ∷ rows) (mark ∷ said) are = (row_named Prices kept row mark are.0, all_named Prices kept rows said are.1)

row_kept : (Prices : Pricing) (tables : Tables) (issue : List ℕ → Option IssueRow) (row : Result Asked RowFault) (said : MarkSaid) → IsFetched tables issue row → IsMark Prices issue row said → IsMark Prices (issue_at tables) row said
unfolding IsMark
row_kept Prices tables issue (Err fault) said fetched is = is
row_kept Prices tables issue (Ok asked) said fetched is = subst (λ found. IsMarkBy Prices found asked said) fetched is

-- marks by the issues that were fetched are marks by the tables
pub all_kept : (Prices : Pricing) (tables : Tables) (issue : List ℕ → Option IssueRow) (rows : List (Result Asked RowFault)) (said : List MarkSaid)
    → AreFetched tables issue rows → AllZip (IsMark Prices issue) rows said → AllZip (IsMark Prices (issue_at tables)) rows said
all_kept Prices tables issue [] [] fetched are = tt
all_kept Prices tables issue [] (mark ∷ said) fetched are = absurd are
all_kept Prices tables issue (row ∷ rows) [] fetched are = absurd are
all_kept Prices tables issue (row ∷ rows) (mark ∷ said) fetched are = (row_kept Prices tables issue row mark fetched.0 are.0, all_kept Prices tables issue rows said fetched.1 are.1)

-- a CUSIP that was asked for and found
pub asked_found : (tables : Tables) (old new : List ℕ → Option IssueRow) (is_missing : List ℕ → Bool) (key : List ℕ) (issue : IssueRow) → AreKnown tables old is_missing
    → Some issue ≡ issue_at tables key → ((other : List ℕ) → new other ≡ cond (is_at (by_bytes key) other) (Some issue) (old other))
    → IsKnownNext tables key old new is_missing
asked_found tables old new is_missing key issue known is updates = record {
  are = record {
    found = λ other some. by_key other (is_at (by_bytes key) other) refl (λ apart. known.found other (subst IsSome (same other apart) some));
    missing = λ other missing. others other (known.missing other missing);
  };
  this = here key (itself key);
  others = others;
}
  where
    here : (other : List ℕ) → is_at (by_bytes key) other ≡ true → IsKnown tables new other
    here other at = updates other ∙ ap (λ b. cond b (Some issue) (old other)) at ∙ is ∙ ap (issue_at tables) (tells_apart exact_bytes key other at)

    same : (other : List ℕ) → is_at (by_bytes key) other ≡ false → new other ≡ old other
    same other apart = updates other ∙ ap (λ b. cond b (Some issue) (old other)) apart

    by_key : (other : List ℕ) (at : Bool) → is_at (by_bytes key) other ≡ at → (is_at (by_bytes key) other ≡ false → IsKnown tables old other) → IsKnown tables new other
    by_key other true at apart = here other at
    by_key other false at apart = same other at ∙ apart at

    others : (other : List ℕ) → IsKnown tables old other → IsKnown tables new other
    others other was = by_key other (is_at (by_bytes key) other) refl (λ apart. was)

    itself : (key : List ℕ) → is_at (by_bytes key) key ≡ true
    itself key = (eq_by_cmp_equiv nat_list_cmp_total).refl key

-- one that is known already
pub asked_before : (tables : Tables) (old : List ℕ → Option IssueRow) (is_missing : List ℕ → Bool) (key : List ℕ) → AreKnown tables old is_missing → is_some (old key) ≡ true → IsKnownNext tables key old old is_missing
asked_before tables old is_missing key known some = record { are = known; this = known.found key some; others = λ other was. was }

pub missed_before : (tables : Tables) (old : List ℕ → Option IssueRow) (is_missing : List ℕ → Bool) (key : List ℕ) → AreKnown tables old is_missing → is_missing key ≡ true → IsKnownNext tables key old old is_missing
missed_before tables old is_missing key known missing = record { are = known; this = known.missing key missing; others = λ other was. was }

none_is : {A : Type 0} (o : Option A) → is_some o ≡ false → o ≡ None
none_is None none = refl
none_is (Some x) none = absurd (cc none)

-- one that is not kept
pub asked_none : (tables : Tables) (old : List ℕ → Option IssueRow) (is_missing now_missing : List ℕ → Bool) (key : List ℕ) → AreKnown tables old is_missing
    → is_some (old key) ≡ false → None ≡ issue_at tables key → ((other : List ℕ) → now_missing other ≡ cond (is_at (by_bytes key) other) true (is_missing other))
    → IsKnownNext tables key old old now_missing
asked_none tables old is_missing now_missing key known none is updates = record {
  are = record {
    found = known.found;
    missing = λ other missing. by_key other (is_at (by_bytes key) other) refl missing;
  };
  this = this;
  others = λ other was. was;
}
  where
    this : IsKnown tables old key
    this = none_is (old key) none ∙ is

    by_key : (other : List ℕ) (at : Bool) → is_at (by_bytes key) other ≡ at → now_missing other ≡ true → IsKnown tables old other
    by_key other true at missing = subst (IsKnown tables old) (tells_apart exact_bytes key other at) this
    by_key other false at missing = known.missing other (sym (ap (λ b. cond b true (is_missing other)) at) ∙ sym (updates other) ∙ missing)

-- one element more
pub all_push : {X : Type 0} (P : X → Type 0) (xs : List X) (x : X) → AllByRecursion P xs → P x → AllByRecursion P (xs ++ x ∷ [])
all_push P [] x are is = (is, tt)
all_push P (y ∷ ys) x are is = (are.0, all_push P ys x are.1 is)

still : (tables : Tables) (cusip : List ℕ) (old new : List ℕ → Option IssueRow) (is_missing : List ℕ → Bool) (rows : List (Result Asked RowFault)) → IsKnownNext tables cusip old new is_missing → AreFetched tables old rows → AreFetched tables new rows
still tables cusip old new is_missing [] next are = tt
still tables cusip old new is_missing (Ok asked ∷ rows) next are = (next.others asked.cusip are.0, still tables cusip old new is_missing rows next are.1)
still tables cusip old new is_missing (Err fault ∷ rows) next are = (tt, still tables cusip old new is_missing rows next are.1)

-- this many rows are fetched, and what is known of their CUSIPs
pub record IsSoFar (tables : Tables) (issue : List ℕ → Option IssueRow) (is_missing : List ℕ → Bool) (rows : List (Result Asked RowFault)) : Type 0 where
  pub known : AreKnown tables issue is_missing
  pub fetched : AreFetched tables issue rows

pub row_fetched : (told : Option Tables) (old new : List ℕ → Option IssueRow) (was_missing is_missing : List ℕ → Bool) (rows : List (Result Asked RowFault)) (i : ℕ) (asked : Asked)
    → i < length rows → Ok asked ≡ get_or rows i (Ok asked) → IfSome told (λ t. IsSoFar t old was_missing (take i rows)) → IfSome told (λ t. IsKnownNext t asked.cusip old new is_missing)
    → IfSome told (λ t. IsSoFar t new is_missing (take (i + 1) rows))
row_fetched None old new was_missing is_missing rows i asked within is far next = tt
row_fetched (Some t) old new was_missing is_missing rows i asked within is far next = record {
  known = next.are;
  fetched = subst (AreFetched t new) (sym (take_more rows i (Ok asked) within ∙ ap (λ r. take i rows ++ r ∷ []) (sym is))) (all_push (IsFetched t new) (take i rows) (Ok asked) (still t asked.cusip old new is_missing (take i rows) next far.fetched) next.this);
}

pub row_passed : (told : Option Tables) (issue : List ℕ → Option IssueRow) (is_missing : List ℕ → Bool) (rows : List (Result Asked RowFault)) (i : ℕ) (fault : RowFault)
    → i < length rows → Err fault ≡ get_or rows i (Err fault) → IfSome told (λ t. IsSoFar t issue is_missing (take i rows)) → IfSome told (λ t. IsSoFar t issue is_missing (take (i + 1) rows))
row_passed None issue is_missing rows i fault within is far = tt
row_passed (Some t) issue is_missing rows i fault within is far = record {
  known = far.known;
  fetched = subst (AreFetched t issue) (sym (take_more rows i (Err fault) within ∙ ap (λ r. take i rows ++ r ∷ []) (sym is))) (all_push (IsFetched t issue) (take i rows) (Err fault) far.fetched tt);
}

pub row_default : (told : Option Tables) (issue : List ℕ → Option IssueRow) (is_missing : List ℕ → Bool) (rows : List (Result Asked RowFault)) (i : ℕ) (row : Result Asked RowFault)
    → i < length rows → row ≡ get_or rows i row → ((asked : Asked) → row ≡ Ok asked → ⊥) → IfSome told (λ t. IsSoFar t issue is_missing (take i rows)) → IfSome told (λ t. IsSoFar t issue is_missing (take (i + 1) rows))
row_default told issue is_missing rows i (Ok asked) within is other far = absurd (other asked refl)
row_default told issue is_missing rows i (Err fault) within is other far = row_passed told issue is_missing rows i fault within is far

-- the same if tables are known
pub told_found : (told : Option Tables) (old new : List ℕ → Option IssueRow) (is_missing : List ℕ → Bool) (key : List ℕ) (issue : IssueRow) → IfSome told (λ t. AreKnown t old is_missing)
    → IfSome told (λ t. Some issue ≡ issue_at t key) → ((other : List ℕ) → new other ≡ cond (is_at (by_bytes key) other) (Some issue) (old other))
    → IfSome told (λ t. IsKnownNext t key old new is_missing)
told_found None old new is_missing key issue known is updates = tt
told_found (Some t) old new is_missing key issue known is updates = asked_found t old new is_missing key issue known is updates

pub told_none : (told : Option Tables) (old : List ℕ → Option IssueRow) (is_missing now_missing : List ℕ → Bool) (key : List ℕ) → IfSome told (λ t. AreKnown t old is_missing)
    → is_some (old key) ≡ false → IfSome told (λ t. None ≡ issue_at t key) → ((other : List ℕ) → now_missing other ≡ cond (is_at (by_bytes key) other) true (is_missing other))
    → IfSome told (λ t. IsKnownNext t key old old now_missing)
told_none None old is_missing now_missing key known none is updates = tt
told_none (Some t) old is_missing now_missing key known none is updates = asked_none t old is_missing now_missing key known none is updates

pub told_text : (Prices : Pricing) (told : Option Tables) (text : List ℕ) (rows : List (Result Asked RowFault)) (said : List MarkSaid) (lines : List ℕ) (issue : List ℕ → Option IssueRow) → rows ≡ rows_of text
    → IfSome told (λ t. AreFetched t issue rows) → AllZip (IsMark Prices issue) rows said → lines ≡ marks_text said → IfSome told (λ t. IsPortfolioText Prices t text lines)
told_text Prices None text rows said lines issue read fetched marks written = tt
told_text Prices (Some t) text rows said lines issue read fetched marks written = record {
  said = said;
  marks = subst (λ rows. AllZip (IsMark Prices (issue_at t)) rows said) read (all_kept Prices t issue rows said fetched marks);
  written = written;
}

-- ---- what hangs on the rows alone
mark-of-by : (Prices : Pricing) (found : Option IssueRow) (asked : Asked) (said : MarkSaid) → IsMarkBy Prices found asked said → IsMarkOf (Ok asked) said
mark-of-by Prices None asked said is = subst (IsMarkOf (Ok asked)) (sym is) tt
mark-of-by Prices (Some issue) asked said (answer, priced, is) = subst (IsMarkOf (Ok asked)) (sym is) (answered answer)
  where
    answered : (answer : Result Figures Refusal) → IsMarkOf (Ok asked) (said_of asked answer)
    answered (Ok figures) = tt
    answered (Err refusal) = tt

mark-of : (Prices : Pricing) (kept : List ℕ → Option IssueRow) (row : Result Asked RowFault) (said : MarkSaid) → IsMark Prices kept row said → IsMarkOf row said
unfolding IsMark
mark-of Prices kept (Err fault) said is = is
mark-of Prices kept (Ok asked) said is = mark-of-by Prices (kept asked.cusip) asked said is

each-of : (Prices : Pricing) (kept : List ℕ → Option IssueRow) (rows : List (Result Asked RowFault)) (said : List MarkSaid) → AllZip (IsMark Prices kept) rows said → AllZip IsMarkOf rows said
each-of Prices kept [] [] are = tt
each-of Prices kept [] (mark ∷ said) are = absurd are
each-of Prices kept (row ∷ rows) [] are = absurd are
each-of Prices kept (row ∷ rows) (mark ∷ said) are = (mark-of Prices kept row mark are.0, each-of Prices kept rows said are.1)

pub line-on-each : (Prices : Pricing) (text : List ℕ) (rows : List (Result Asked RowFault)) (said : List MarkSaid) (lines : List ℕ) (issue : List ℕ → Option IssueRow) → rows ≡ rows_of text
    → AllZip (IsMark Prices issue) rows said → lines ≡ marks_text said → HasLineOnEach text lines
line-on-each Prices text rows said lines issue read marks written = record {
  said = said;
  each = subst (λ rows. AllZip IsMarkOf rows said) read (each-of Prices issue rows said marks);
  written = written;
}
