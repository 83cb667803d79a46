-- Bodies and puts, both ways.
use Rattle.std.proofs.Common.{◌≡◌, ◌≢◌, ◌==◌, ◌+◌, Bool, true, false, cond, ℕ, Option, Some, None, List, ◌∷◌, ◌++◌, [], length, refl, sym, ◌∙◌, ap, arith, length-append}
use Rattle.std.specs.Prelude.{nat_eq, IfSome, if◌then◌else◌}
use Rattle.std.specs.Bool.{Decides}
use Rattle.std.specs.Cmp.Lexicographic.{pointwise}
use Rattle.std.proofs.lemmas.Bool.{eqb-true}
use Rattle.std.proofs.lemmas.Bool.Decides.{Decides-eqb, nat_tests}
use Rattle.std.specs.Option.{option_map, option_and_then}
use Rattle.std.proofs.lemmas.Option.{option_and_then_some, same_Some}
use Rattle.std.proofs.lemmas.Slice.Eq.{slice_eq-Decides}
use Rattle.muni_journal_record.specs.Body.{first_bytes, body_of, first_terms, later_terms, of_version, later_version, begun_of, if_body, put_of, version_in, version_size, TermsFit, PutFits}
use Rattle.muni_journal_record.specs.Laws.{WhatIsWrittenIsRead, OnePutHasOneBody}
use Rattle.muni_journal_record.specs.declared.put.Put.{Put}
use Rattle.muni_journal_record.specs.declared.put.Put.TheVariants.{Issue, Version as PutVersion}
use Rattle.muni_terms.specs.declared.row.IssueRow.{IssueRow}
use Rattle.muni_msg.specs.declared.command.Key.{Key}
use Rattle.muni_msg.specs.declared.version.Version.{Version}
use Rattle.muni_journal_record.specs.Words.{four, later_front}
use Rattle.muni_journal_record.specs.VersionBody.{version_bytes, version_of, VersionFits}
use Rattle.muni_journal_record.specs.IssueBody.{has_mark, row_bytes, issue_of}
use Rattle.muni_journal_record.proofs.WordLaws.{length-four, later_back}
use Rattle.muni_journal_record.proofs.IssueLaws.{issue_back, marked_back}
use Rattle.muni_journal_record.proofs.VersionLaws.{version_back}

same_bytes : (xs ys : List ℕ) → Decides (pointwise nat_eq xs ys) (xs ≡ ys)
same_bytes xs ys = slice_eq-Decides Decides-eqb xs ys (pointwise nat_eq xs ys) refl

first_begins : (row : IssueRow) (marked : Bool) → issue_of marked (row_bytes marked row) ≡ Some row → begun_of ((if marked then 3 else 1) ∷ row_bytes marked row) ≡ Some (Issue 1 row)
first_begins row true is = rw is refl
first_begins row false is = rw is refl

-- the terms of an issue, by whether they are its first
terms_begin : (number : ℕ) (row : IssueRow) (first : Bool) → (number == 1) ≡ first → TermsFit number row → begun_of (if first then first_bytes row else 4 ∷ (four number ++ row_bytes true row)) ≡ Some (Issue number row)
terms_begin number row true is fits =
    first_begins row (has_mark row) (issue_back row fits.issue) ∙ ap (λ n. Some (Issue n row)) (sym (eqb-true number 1 is))
terms_begin number row false is fits =
    rw (later_back number (row_bytes true row) fits.numbered is, marked_back row fits.issue) refl

-- a version, by whether it goes by the first terms of its issue
version_begun : (key : Key) (number : ℕ) (v : Version) (first : Bool) → (v.issue_number == 1) ≡ first → VersionFits key number v
    → begun_of ((if first then 2 ∷ [] else 5 ∷ four v.issue_number) ++ version_bytes key number v) ≡ Some (PutVersion key number v)
version_begun key number v true is fits =
    ap (λ n. option_map of_version (version_of n (version_bytes key number v))) (sym (eqb-true v.issue_number 1 is)) ∙ ap (option_map of_version) (version_back key number v fits)
version_begun key number v false is fits =
    rw (later_back v.issue_number (version_bytes key number v) fits.issue_numbered is, version_back key number v fits) refl

-- a body begins as its put
begun_back : (put : Put) → PutFits put → begun_of (body_of put) ≡ Some put
unfolding body_of
begun_back (Issue number row) fits = terms_begin number row (number == 1) refl fits
begun_back (PutVersion key number version) fits = version_begun key number version (version.issue_number == 1) refl fits

pub what_is_written_is_read : WhatIsWrittenIsRead
unfolding put_of
what_is_written_is_read put fits =
    let same : pointwise nat_eq (body_of put) (body_of put) ≡ true = (same_bytes (body_of put) (body_of put)).1 refl in
    rw (begun_back put fits, same) refl

chosen : (test : Bool) (put other : Put) → cond test (Some put) None ≡ Some other → (test ≡ true) × (put ≡ other)
chosen true put other is = (refl, cc)
chosen false put other is = absurd (cc is)

pub one_put_has_one_body : OnePutHasOneBody
unfolding put_of
one_put_has_one_body bytes put is =
    option_and_then_some (if_body bytes) (begun_of bytes) put is (λ begun begins found.
    let both = chosen (pointwise nat_eq (body_of begun) bytes) begun put found in
    sym ((same_bytes (body_of begun) bytes).0 both.0) ∙ ap body_of both.1)

-- what does not begin as a version holds none
terms_hold_none : (number : ℕ) (found : Option IssueRow) → option_and_then version_in (option_map (λ row. Issue number row) found) ≡ None
terms_hold_none number None = refl
terms_hold_none number (Some row) = refl

later_holds_none : (found : Option (ℕ × List ℕ)) → option_and_then version_in (option_and_then (λ number. option_map (λ row. Issue number.0 row) (issue_of true number.1)) found) ≡ None
later_holds_none None = refl
later_holds_none (Some (number, rest)) = terms_hold_none number (issue_of true rest)

-- a version begins as its put
version_begins : (found : Option (Key × ℕ × Version)) → option_and_then version_in (option_map of_version found) ≡ found
version_begins None = refl
version_begins (Some found) = refl

pub two_begins : (rest : List ℕ) → option_and_then version_in (begun_of (2 ∷ rest)) ≡ version_of 1 rest
two_begins rest = version_begins (version_of 1 rest)

pub five_begins : (rest : List ℕ) → option_and_then version_in (begun_of (5 ∷ rest)) ≡ later_version rest
five_begins rest = version_begins (later_version rest)

module _ (kind : ℕ) (rest : List ℕ) where
  abbrev chosen_by : Bool → Bool → Bool → Bool → Bool → Option Put
  chosen_by a b c d e =
      if a then first_terms false rest
      else (if b then option_map of_version (version_of 1 rest)
      else (if c then first_terms true rest
      else (if d then later_terms rest
      else (if e then option_map of_version (later_version rest) else None))))

  pub other_begins_none : kind == 2 ≡ false → kind == 5 ≡ false → option_and_then version_in (begun_of (kind ∷ rest)) ≡ None
  other_begins_none not_two not_five = by (kind == 1) (kind == 2) (kind == 3) (kind == 4) (kind == 5) not_two not_five
    where
      by : (a b c d e : Bool) → b ≡ false → e ≡ false → option_and_then version_in (chosen_by a b c d e) ≡ None
      by true b c d e no_two no_five = terms_hold_none 1 (issue_of false rest)
      by false true c d e no_two no_five = absurd (cc no_two)
      by false false true d e no_two no_five = terms_hold_none 1 (issue_of true rest)
      by false false false true e no_two no_five = later_holds_none (later_front rest)
      by false false false false true no_two no_five = absurd (cc no_five)
      by false false false false false no_two no_five = refl

  -- what does not begin as the terms of an issue is a version, or nothing
  pub other_is_version : kind == 1 ≡ false → kind == 3 ≡ false → kind == 4 ≡ false → option_map of_version (option_and_then version_in (begun_of (kind ∷ rest))) ≡ begun_of (kind ∷ rest)
  other_is_version not_one not_three not_four = by (kind == 1) (kind == 2) (kind == 3) (kind == 4) (kind == 5) not_one not_three not_four
    where
      by : (a b c d e : Bool) → a ≡ false → c ≡ false → d ≡ false
          → option_map of_version (option_and_then version_in (chosen_by a b c d e)) ≡ chosen_by a b c d e
      by true b c d e no_one no_three no_four = absurd (cc no_one)
      by false true c d e no_one no_three no_four = ap (option_map of_version) (version_begins (version_of 1 rest))
      by false false true d e no_one no_three no_four = absurd (cc no_three)
      by false false false true e no_one no_three no_four = absurd (cc no_four)
      by false false false false true no_one no_three no_four = ap (option_map of_version) (version_begins (later_version rest))
      by false false false false false no_one no_three no_four = refl

-- the version of what is begun is that of the put, if it has these bytes
module _ (bytes : List ℕ) where
  tested : (test : Bool) (put : Put) → option_and_then version_in (cond test (Some put) None) ≡ cond test (version_in put) None
  tested true put = refl
  tested false put = refl

  pub none_begun : (begun : Option Put) → option_and_then version_in begun ≡ None → option_and_then version_in (option_and_then (if_body bytes) begun) ≡ None
  none_begun None is = refl
  none_begun (Some (Issue number row)) is = tested (pointwise nat_eq (body_of (Issue number row)) bytes) (Issue number row) ∙ both (pointwise nat_eq (body_of (Issue number row)) bytes)
    where
      both : (test : Bool) → cond test (version_in (Issue number row)) None ≡ None
      both true = refl
      both false = refl
  none_begun (Some (PutVersion key number version)) is = absurd (cc is)

  some_begun : (begun : Option Put) (key : Key) (number : ℕ) (version : Version) → option_and_then version_in begun ≡ Some (key, number, version)
      → option_and_then version_in (option_and_then (if_body bytes) begun) ≡ (if pointwise nat_eq (body_of (PutVersion key number version)) bytes then Some (key, number, version) else None)
  some_begun None key number version is = absurd (cc is)
  some_begun (Some (Issue n row)) key number version is = absurd (cc is)
  some_begun (Some (PutVersion k n v)) key number version is = tested (pointwise nat_eq (body_of (PutVersion k n v)) bytes) (PutVersion k n v) ∙ ap (λ (f : Key × ℕ × Version). cond (pointwise nat_eq (body_of (PutVersion f.0 f.1 f.2)) bytes) (Some f) None) (same_Some (k, n, v) (key, number, version) is)

  pub same_size : (begun : Option Put) (key : Key) (number : ℕ) (version : Version) → Some (key, number, version) ≡ option_and_then version_in begun → bytes ≡ body_of (PutVersion key number version)
      → Some (key, number, version) ≡ option_and_then version_in (option_and_then (if_body bytes) begun)
  same_size begun key number version is same =
      let test : pointwise nat_eq (body_of (PutVersion key number version)) bytes ≡ true = (same_bytes (body_of (PutVersion key number version)) bytes).1 (sym same) in
      sym (some_begun begun key number version (sym is) ∙ ap (λ (b : Bool). cond {A = Option (Key × ℕ × Version)} b (Some (key, number, version)) None) test)

  pub other_size : (begun : Option Put) (key : Key) (number : ℕ) (version : Version) → Some (key, number, version) ≡ option_and_then version_in begun → length bytes ≢ length (body_of (PutVersion key number version))
      → None ≡ option_and_then version_in (option_and_then (if_body bytes) begun)
  other_size begun key number version is differs =
      sym (some_begun begun key number version (sym is) ∙ by (pointwise nat_eq (body_of (PutVersion key number version)) bytes) refl)
    where
      by : (test : Bool) → test ≡ pointwise nat_eq (body_of (PutVersion key number version)) bytes → cond {A = Option (Key × ℕ × Version)} test (Some (key, number, version)) None ≡ None
      by true is_same = absurd (differs (ap length (sym ((same_bytes (body_of (PutVersion key number version)) bytes).0 (sym is_same)))))
      by false is_same = refl

-- the body of a version that goes by later terms of its issue, and its size
module _ (key : Key) (number : ℕ) (v : Version) where
  other_number : v.issue_number ≢ 1 → (v.issue_number == 1) ≡ false
  other_number later = grind (arith, nat_tests)

  later_body : v.issue_number ≢ 1 → body_of (PutVersion key number v) ≡ 5 ∷ (four v.issue_number ++ version_bytes key number v)
  unfolding body_of
  later_body later = ap (λ first. (if first then 2 ∷ [] else 5 ∷ four v.issue_number) ++ version_bytes key number v) (other_number later)

  later_size : v.issue_number ≢ 1 → version_size key v ≡ 96 + length key.desk + length key.reference
  later_size later = ap (λ first. (if first then 92 else 96) + length key.desk + length key.reference) (other_number later)

-- the same of one that was read
abbrev GoesBy : ℕ → Option (Key × ℕ × Version) → Type 0
GoesBy issue_number found = IfSome found (λ f. f.2.issue_number ≡ issue_number)

abbrev HasSize : Option (Key × ℕ × Version) → Type 0
HasSize found = IfSome found (λ f. length (version_bytes f.0 f.1 f.2) ≡ 91 + length f.0.desk + length f.0.reference)

abbrev IsWhole : List ℕ → Option (Key × ℕ × Version) → Type 0
IsWhole rest found = IfSome found (λ f. length rest ≡ 91 + length f.0.desk + length f.0.reference → rest ≡ version_bytes f.0 f.1 f.2)

abbrev BodyHasSize : Option (Key × ℕ × Version) → Type 0
BodyHasSize found = IfSome found (λ f. length (body_of (PutVersion f.0 f.1 f.2)) ≡ version_size f.0 f.2)

abbrev BodyIsWhole : List ℕ → Option (Key × ℕ × Version) → Type 0
BodyIsWhole bytes found = IfSome found (λ f. length bytes ≡ version_size f.0 f.2 → bytes ≡ body_of (PutVersion f.0 f.1 f.2))

module _ (issue_number : ℕ) (later : issue_number ≢ 1) where
  pub later_has_size : (found : Option (Key × ℕ × Version)) → GoesBy issue_number found → HasSize found → BodyHasSize found
  later_has_size None is size = tt
  later_has_size (Some f) is size =
      let other : f.2.issue_number ≢ 1 = λ one. later (sym is ∙ one) in
      omega (
        arith,
        ap length (later_body f.0 f.1 f.2 other),
        length-append (four f.2.issue_number) (version_bytes f.0 f.1 f.2),
        length-four f.2.issue_number,
        later_size f.0 f.1 f.2 other,
        size,
      )

  pub later_is_whole : (bytes rest more : List ℕ) (found : Option (Key × ℕ × Version)) → bytes ≡ 5 ∷ rest → rest ≡ four issue_number ++ more → GoesBy issue_number found → IsWhole more found → BodyIsWhole bytes found
  later_is_whole bytes rest more None begins numbered is all = tt
  later_is_whole bytes rest more (Some f) begins numbered is all = λ long.
      let other : f.2.issue_number ≢ 1 = λ one. later (sym is ∙ one) in
      let same = all (omega (arith, long, ap length begins, ap length numbered, length-append (four issue_number) more, length-four issue_number, later_size f.0 f.1 f.2 other)) in
      begins ∙ ap (λ b. 5 ∷ b) numbered ∙ (λ i. 5 ∷ (four (sym is i) ++ same i)) ∙ sym (later_body f.0 f.1 f.2 other)
