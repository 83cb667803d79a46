-- What holds of all rows.
use Rattle.std.proofs.Common.{◌≡◌, ◌≤◌, ◌<◌, ◌+◌, ◌∙◌, ℕ, zero, suc, List, [], ◌∷◌, ◌++◌, length, map, Option, Some, None, refl, sym, ap, subst, inl, arith}
use Rattle.std.specs.Prelude.{codes, unwrap_or}
use Rattle.std.proofs.lemmas.List.{length-append, length-map}
use Rattle.csv.specs.Machine.{Read, next_record}
use Rattle.csv.specs.Reading.{AreRecords, Reached, default_config, records, records_from, records_next, strip_bom}
use Rattle.csv.specs.Records.{field_at}
use Rattle.csv.specs.declared.parser.State.{State}
use Rattle.csv.specs.declared.parser.State.TheVariants as st
use Rattle.muni_import.specs.Row.{Row, row_of, terms_in, issue_in, calendar_in, command_in}
use Rattle.muni_import.specs.RowLaws.{AreRows}
use Rattle.muni_import.specs.Rows.{rows_of}
use Rattle.muni_import.proofs.MachineLemmas.{IsBetween, behind-between}
use Rattle.muni_import.proofs.RowLemmas.{few-rows}

-- the records that are computed are those that are read one after another
are-next : (n : ℕ) (s : State) (xs : List ℕ) (next : Option Read) → next_record default_config s [] [] xs ≡ next → IsBetween s → length xs < suc n
    → ((s : State) (xs : List ℕ) → IsBetween s → length xs < n → AreRecords default_config s xs (records_from default_config n s xs))
    → AreRecords default_config s xs (records_next (records_from default_config n) next)
unfolding Reached
are-next n s xs None is between few more = (s, xs, (refl, refl), is)
are-next n s xs (Some next) is between few more =
    let left = behind-between s xs next between is in
    let others = more next.1 next.2 left.0 (omega (arith, left.1, few)) in
    (others.0, others.1, (next, is, refl, others.2), others.3)

are-records : (n : ℕ) (s : State) (xs : List ℕ) → IsBetween s → length xs < n → AreRecords default_config s xs (records_from default_config n s xs)
unfolding records_from
are-records zero s xs between few = absurd (omega (arith, few))
are-records (suc n) s xs between few = are-next n s xs (next_record default_config s [] [] xs) refl between few (are-records n)

-- and no others are
same-records : (s : State) (xs : List ℕ) (found others : List (List (List ℕ))) → AreRecords default_config s xs found → AreRecords default_config s xs others → found ≡ others
unfolding Reached
same-records s xs [] [] are also = refl
same-records s xs [] (other ∷ others) are also = grind arith
same-records s xs (record' ∷ found) [] are also = grind arith
same-records s xs (record' ∷ found) (other ∷ others) (s2, ys, (next, is, here, more), end) (t2, zs, (next', is', here', more'), end') =
    let same : next ≡ next' = grind (arith, is, is') in
    let rest = same-records next.1 next.2 found others (s2, ys, more, end) (t2, zs, subst (λ (at : Read). Reached default_config at.1 at.2 others t2 zs) (sym same) more', end') in
    grind (arith, same, here, here', rest)

pub one-record-list : (text : List ℕ) (found : List (List (List ℕ))) → AreRecords default_config st.StartRecord (strip_bom text) found → found ≡ records default_config (strip_bom text)
one-record-list text found are =
    let bytes = strip_bom text in
    same-records st.StartRecord bytes found (records default_config bytes) are (are-records (length bytes + 1) st.StartRecord bytes (inl refl) (omega arith))

pub few-records : (text : List ℕ) → length (records default_config (strip_bom text)) ≤ length text
unfolding rows_of
few-records text =
    omega (arith, few-rows text, length-map (records default_config (strip_bom text)) row_of)

pub text-has-rows : (text : List ℕ) → AreRows text (rows_of text)
unfolding rows_of
text-has-rows text =
    let bytes = strip_bom text in
    record {
      records = records_from default_config (length bytes + 1) st.StartRecord bytes;
      all = are-records (length bytes + 1) st.StartRecord bytes (inl refl) (omega arith);
      read = refl;
    }

pub text-has-no-others : (text : List ℕ) (rows : List Row) → AreRows text rows → rows ≡ rows_of text
text-has-no-others text rows are =
    let these = text-has-rows text in
    are.read ∙ ap (map row_of) (same-records st.StartRecord (strip_bom text) are.records these.records are.all these.all) ∙ sym these.read

-- an empty field more is no other field of any column
pub at-added : (place : ℕ) (fields : List (List ℕ)) → unwrap_or (field_at (fields ++ [] ∷ []) place) [] ≡ unwrap_or (field_at fields place) []
unfolding field_at
at-added zero [] = refl
at-added (suc place) [] = refl
at-added zero (field ∷ fields) = refl
at-added (suc place) (field ∷ fields) = at-added place fields

-- so an empty last field may be left out
pub issue-added : (fields : List (List ℕ)) → length fields ≡ 8 → row_of (codes "issue" ∷ fields ++ [] ∷ []) ≡ row_of (codes "issue" ∷ fields)
unfolding row_of command_in issue_in calendar_in field_at
issue-added fields count =
    let longer : length (codes "issue" ∷ fields ++ [] ∷ []) ≡ 10 = omega (arith, length-append fields ([] ∷ []), count) in
    let shorter : length (codes "issue" ∷ fields) ≡ 9 = omega (arith, count) in
    rw (longer, shorter, at-added 0 fields, at-added 1 fields, at-added 2 fields, at-added 3 fields, at-added 4 fields, at-added 5 fields, at-added 6 fields, at-added 7 fields, at-added 8 fields) refl

pub amendment-added : (fields : List (List ℕ)) → length fields ≡ 9 → row_of (codes "amend" ∷ fields ++ [] ∷ []) ≡ row_of (codes "amend" ∷ fields)
unfolding row_of command_in issue_in calendar_in field_at
amendment-added fields count =
    let longer : length (codes "amend" ∷ fields ++ [] ∷ []) ≡ 11 = omega (arith, length-append fields ([] ∷ []), count) in
    let shorter : length (codes "amend" ∷ fields) ≡ 10 = omega (arith, count) in
    rw (longer, shorter, at-added 0 fields, at-added 1 fields, at-added 2 fields, at-added 3 fields, at-added 4 fields, at-added 5 fields, at-added 6 fields, at-added 7 fields, at-added 8 fields, at-added 9 fields) refl

pub trade-added : (fields : List (List ℕ)) → length fields ≡ 8 → row_of (codes "trade" ∷ fields ++ [] ∷ []) ≡ row_of (codes "trade" ∷ fields)
unfolding row_of command_in terms_in field_at
trade-added fields count =
    let longer : length (codes "trade" ∷ fields ++ [] ∷ []) ≡ 10 = omega (arith, length-append fields ([] ∷ []), count) in
    let shorter : length (codes "trade" ∷ fields) ≡ 9 = omega (arith, count) in
    rw (longer, shorter, at-added 0 fields, at-added 1 fields, at-added 2 fields, at-added 3 fields, at-added 4 fields, at-added 5 fields, at-added 6 fields, at-added 7 fields, at-added 8 fields, at-added 9 fields) refl

pub numbered-trade-added : (fields : List (List ℕ)) → length fields ≡ 9 → row_of (codes "trade" ∷ fields ++ [] ∷ []) ≡ row_of (codes "trade" ∷ fields)
unfolding row_of command_in terms_in field_at
numbered-trade-added fields count =
    let longer : length (codes "trade" ∷ fields ++ [] ∷ []) ≡ 11 = omega (arith, length-append fields ([] ∷ []), count) in
    let shorter : length (codes "trade" ∷ fields) ≡ 10 = omega (arith, count) in
    rw (longer, shorter, at-added 0 fields, at-added 1 fields, at-added 2 fields, at-added 3 fields, at-added 4 fields, at-added 5 fields, at-added 6 fields, at-added 7 fields, at-added 8 fields, at-added 9 fields) refl

pub correction-added : (fields : List (List ℕ)) → length fields ≡ 9 → row_of (codes "correct" ∷ fields ++ [] ∷ []) ≡ row_of (codes "correct" ∷ fields)
unfolding row_of command_in terms_in field_at
correction-added fields count =
    let longer : length (codes "correct" ∷ fields ++ [] ∷ []) ≡ 11 = omega (arith, length-append fields ([] ∷ []), count) in
    let shorter : length (codes "correct" ∷ fields) ≡ 10 = omega (arith, count) in
    rw (longer, shorter, at-added 0 fields, at-added 1 fields, at-added 2 fields, at-added 3 fields, at-added 4 fields, at-added 5 fields, at-added 6 fields, at-added 7 fields, at-added 8 fields, at-added 9 fields, at-added 10 fields) refl

pub numbered-correction-added : (fields : List (List ℕ)) → length fields ≡ 10 → row_of (codes "correct" ∷ fields ++ [] ∷ []) ≡ row_of (codes "correct" ∷ fields)
unfolding row_of command_in terms_in field_at
numbered-correction-added fields count =
    let longer : length (codes "correct" ∷ fields ++ [] ∷ []) ≡ 12 = omega (arith, length-append fields ([] ∷ []), count) in
    let shorter : length (codes "correct" ∷ fields) ≡ 11 = omega (arith, count) in
    rw (longer, shorter, at-added 0 fields, at-added 1 fields, at-added 2 fields, at-added 3 fields, at-added 4 fields, at-added 5 fields, at-added 6 fields, at-added 7 fields, at-added 8 fields, at-added 9 fields, at-added 10 fields) refl
