-- The tables that the images mean while a put is made.
use Rattle.std.proofs.Common.{◌≡◌, ◌≢◌, inl, inr, ⊎_elim, ℕ, zero, suc, ◌+◌, ◌<◌, ◌≤◌, ◌^◌, if◌then◌else◌, true, List, [], ◌∷◌, ◌++◌, length, Option, Some, None, refl, sym, ◌∙◌, ap, arith}
use Rattle.std.specs.Prelude.{is_some}
use Rattle.std.specs.Option.{option_map, option_and_then}
use Rattle.std.proofs.lemmas.Bool.{cases_eq}
use Rattle.std.proofs.lemmas.Bool.Decides.{nat_tests}
use Rattle.muni_journal_disk.specs.Bytes.{byte_at, bytes_at, StandsAt, IsSameBefore, IsSameOutside}
use Rattle.muni_journal_disk.specs.Disk.{ComesFrom, StopsLeave}
use Rattle.muni_journal_disk.proofs.Pieces.{front, back, first_byte, held_piece}
use Rattle.muni_journal_disk.specs.Slots.{IsStep, IsUnopened, IsDoubtful, IsPut, IsTakenBack, AllImages}
use Rattle.muni_keep.specs.Tables.{Tables}
use Rattle.muni_journal_record.specs.Words.{four, number_of_4}
use Rattle.muni_journal_record.specs.Body.{PutFits, body_of, put_of}
use Rattle.muni_journal_record.specs.declared.put.Put.{Put}
use Rattle.muni_journal_record.proofs.WordLaws.{length-four, four_is}
use Rattle.muni_journal_record.proofs.BodyLaws.{what_is_written_is_read}
use Rattle.muni_journal.specs.Puts.{is_next, after, put_on}
use Rattle.muni_journal.specs.Journal.{Place, start, number_at, is_length, behind_slot, tables_of, end_from, journal_of, piece_of, place_with}
use Rattle.muni_journal.specs.Stops.{IsInDoubt, StandsFor}
use Rattle.muni_journal.proofs.Ends.{closed_step, has_next, same_end, longer_end, journal_ends, from_journal}

-- the size of a body
abbrev pub IsShort : Put → Type 0
IsShort x = (1 ≤ length (body_of x)) × (length (body_of x) ≤ 1_024)

-- the piece of a put reads as it
pub number_read : (p n : ℕ) (c : List ℕ) → n < 2 ^ 32 → StandsAt p (four n) c → number_at c p ≡ n
unfolding number_at
number_read p n c small holds =
    let same : bytes_at c p 4 ≡ four n = ap (bytes_at c p) (sym (length-four n)) ∙ held_piece p (four n) c holds in
    ap number_of_4 same ∙ four_is n small

pub slot_reads : (at : Place) (x : Put) (c : List ℕ) → put_of (body_of x) ≡ Some x → IsShort x → is_next at.tables x ≡ true → StandsAt (at.gate + 1) (four (length (body_of x))) c → StandsAt (at.gate + 1 + 4) (body_of x) c
    → behind_slot c at ≡ Some (place_with at x)
unfolding behind_slot
slot_reads at x c reads short next length_there body_there =
    let n = length (body_of x) in
    let number : number_at c (at.gate + 1) ≡ n = number_read (at.gate + 1) n c (omega (arith, short.1)) length_there in
    let body : bytes_at c (at.gate + 1 + 4) n ≡ body_of x = held_piece (at.gate + 1 + 4) (body_of x) c body_there in
    let right : is_length n ≡ true = grind (arith, nat_tests, short.0, short.1) in
    let F : ℕ → List ℕ → Option Place = λ k b. option_map (λ (tables : Tables). let p : Place = record { gate = at.gate + 5 + k; tables = tables } in p)
    (option_and_then (put_on at.tables) (if is_length k then put_of b else None)) in
    let G : Option Put → Option Place = λ o. option_map (λ (tables : Tables). let p : Place = record { gate = at.gate + 5 + n; tables = tables } in p) (option_and_then (put_on at.tables) o) in
    let done : G (Some x) ≡ Some (place_with at x) = rw next refl in
    ap (λ (k : ℕ). F k (bytes_at c (at.gate + 1 + 4) k)) number ∙ ap (F n) body ∙ ap (λ b. G (if b then put_of (body_of x) else None)) right ∙ ap G reads ∙ done

pub slot_read : (at : Place) (x : Put) (c : List ℕ) → PutFits x → IsShort x → is_next at.tables x ≡ true → StandsAt (at.gate + 1) (piece_of x) c → behind_slot c at ≡ Some (place_with at x)
unfolding piece_of
slot_read at x c fits short next holds =
    let n = length (body_of x) in
    let behind = back (at.gate + 1) (at.gate + 1 + 4) (four n) (body_of x ++ 0 ∷ []) c (omega (arith, length-four n)) holds in
    slot_reads at x c (what_is_written_is_read x fits) short next (front (at.gate + 1) (four n) (body_of x ++ 0 ∷ []) c holds) (front (at.gate + 1 + 4) (body_of x) (0 ∷ []) c behind)

pub closed_behind : (at : Place) (x : Put) (c : List ℕ) → StandsAt (at.gate + 1) (piece_of x) c → byte_at c (place_with at x).gate ≢ 1
unfolding piece_of
closed_behind at x c holds is_open =
    let n = length (body_of x) in
    let behind = back (at.gate + 1) (at.gate + 1 + 4) (four n) (body_of x ++ 0 ∷ []) c (omega (arith, length-four n)) holds in
    let zero_there : byte_at c (at.gate + 5 + n) ≡ 0 = first_byte (at.gate + 5 + n) 0 [] c (back (at.gate + 1 + 4) (at.gate + 5 + n) (body_of x) (0 ∷ []) c (omega arith) behind) in
    absurd (cc (is_open, zero_there))

-- a journal ends at a closed gate
closed_from : (k : ℕ) (c : List ℕ) (at e : Place) → end_from k c at ≡ Some e → byte_at c e.gate ≢ 1
closed_from zero c at e ends = absurd (cc ends)
closed_from (suc k) c at e ends = elim (cases_eq (byte_at c at.gate) 1) [
  | inl is_open ↦ let found = has_next k c at e is_open ends in closed_from k c found.next e found.ends
  | inr is_closed ↦
      let both : Some at ≡ Some e = sym (closed_step k c at is_closed) ∙ ends in
      let here : at ≡ e = cc both in
      λ opened. is_closed (ap (λ (p : Place). byte_at c p.gate) here ∙ opened)
]

pub closed_end : (c : List ℕ) (e : Place) → journal_of c ≡ Some e → byte_at c e.gate ≢ 1
closed_end c e is = closed_from (length c + 1) c start e (from_journal c e is)

-- all slots before the gate are as they were
pub still : (at : Place) (d c : List ℕ) → journal_of d ≡ Some at → IsSameBefore at.gate d c → byte_at c at.gate ≢ 1 → journal_of c ≡ Some at
still at d c is same closed = journal_ends (length d + 1) c at (same_end (length d + 1) d c start at (from_journal d at is) same closed)

module _ (at : Place) (x : Put) (fits : PutFits x) (short : IsShort x) (next : is_next at.tables x ≡ true) where
  pub with_one : (d c : List ℕ) → journal_of d ≡ Some at → IsSameBefore at.gate d c → byte_at c at.gate ≡ 1 → StandsAt (at.gate + 1) (piece_of x) c → journal_of c ≡ Some (place_with at x)
  with_one d c is same is_open holds =
      journal_ends (suc (length d + 1)) c (place_with at x)
      (longer_end (length d + 1) d c start at (place_with at x) (from_journal d at is) same is_open (slot_read at x c fits short next holds) (closed_behind at x c holds))

  pub put_images : (old new : List ℕ → Type 0) → AllImages old (λ d. journal_of d ≡ Some at) → AllImages new (ComesFrom (IsPut at.gate (piece_of x)) old) → AllImages new (λ c. journal_of c ≡ Some (place_with at x))
  put_images old new rest all = record { each = λ c now. let from = all.each c now in with_one from.0 c (rest.each from.0 from.1) from.2.before from.2.is_open from.2.behind }

  pub unopened_images : (old new : List ℕ → Type 0) → AllImages old (λ d. journal_of d ≡ Some at) → AllImages new (ComesFrom (IsUnopened at.gate) old) → AllImages new (λ c. journal_of c ≡ Some at)
  unopened_images old new rest all = record {
    each = λ c now.
        let from = all.each c now in
        let is = rest.each from.0 from.1 in
        still at from.0 c is (record { each = λ i below. from.2.each i (omega (arith, below)) }) (λ is_open. closed_end from.0 at is (sym (from.2.each at.gate (omega arith)) ∙ is_open));
  }

  pub doubtful_images : (old new : List ℕ → Type 0) → AllImages old (λ d. journal_of d ≡ Some at) → AllImages new (ComesFrom (IsDoubtful at.gate (piece_of x)) old) → AllImages new (IsInDoubt at x)
  doubtful_images old new rest all = record {
    each = λ c now.
        let from = all.each c now in
        let is = rest.each from.0 from.1 in
        record {
          without = λ f keeps closed. still at from.0 f is (record { each = λ i below. keeps.before i below ∙ from.2.before.each i below }) closed;
          with_it = λ f keeps is_open. with_one from.0 f is (record { each = λ i below. keeps.before i below ∙ from.2.before.each i below }) is_open
              (record { each = λ i within. keeps.after (at.gate + 1 + i) (omega arith) ∙ from.2.behind.each i within });
        };
  }

  tables_are : (c : List ℕ) (e : Place) → journal_of c ≡ Some e → tables_of c ≡ Some e.tables
  tables_are c e is = ap (λ (o : Option Place). option_map (λ (p : Place). p.tables) o) is

  -- a stop at any moment of the call
  pub step_stops : (old : List ℕ → Type 0) → AllImages old (λ d. journal_of d ≡ Some at) → (c : List ℕ) → ComesFrom (IsStep at.gate (piece_of x)) old c → StandsFor at.tables None (Some x) c
  step_stops old rest c from =
      let is = rest.each from.0 from.1 in
      elim (cases_eq (byte_at c at.gate) 1) [
        | inl is_open ↦ inr (inr (tables_are c (place_with at x) (with_one from.0 c is from.2.before is_open (⊎_elim (λ (closed : byte_at c at.gate ≢ 1). absurd (closed is_open)) (λ holds. holds) from.2.whole))))
        | inr is_closed ↦ inl (tables_are c at (still at from.0 c is from.2.before is_closed))
      ]

module _ (at : Place) (x : Put) where
  pub doubt_kept : (old new : List ℕ → Type 0) → AllImages old (IsInDoubt at x) → AllImages new (ComesFrom (IsSameOutside at.gate 1) old) → AllImages new (IsInDoubt at x)
  doubt_kept old new doubt all = record {
    each = λ c now.
        let from = all.each c now in
        let was = doubt.each from.0 from.1 in
        record {
          without = λ f keeps closed. was.without f (both from.0 c f from.2 keeps) closed;
          with_it = λ f keeps is_open. was.with_it f (both from.0 c f from.2 keeps) is_open;
        };
  }
    where
      both : (d c f : List ℕ) → IsSameOutside at.gate 1 d c → IsSameOutside at.gate 1 c f → IsSameOutside at.gate 1 d f
      both d c f first second = record { before = λ i below. second.before i below ∙ first.before i below; after = λ i past. second.after i past ∙ first.after i past }

  pub taken_back : (old new : List ℕ → Type 0) → AllImages old (IsInDoubt at x) → AllImages new (ComesFrom (IsTakenBack at.gate) old) → AllImages new (λ c. journal_of c ≡ Some at)
  taken_back old new doubt all = record { each = λ c now. let from = all.each c now in (doubt.each from.0 from.1).without c from.2.others (λ is_open. absurd (cc (is_open, from.2.is_closed))) }

  pub doubt_stops : (old : List ℕ → Type 0) → AllImages old (IsInDoubt at x) → (c : List ℕ) → ComesFrom (IsSameOutside at.gate 1) old c → StandsFor at.tables (Some x) None c
  doubt_stops old doubt c from =
      let was = doubt.each from.0 from.1 in
      elim (cases_eq (byte_at c at.gate) 1) [
        | inl is_open ↦ inr (inl (ap (λ (o : Option Place). option_map (λ (p : Place). p.tables) o) (was.with_it c from.2 is_open)))
        | inr is_closed ↦ inl (ap (λ (o : Option Place). option_map (λ (p : Place). p.tables) o) (was.without c from.2 is_closed))
      ]

-- the same, with the place after the slot as a number
pub behind_piece : (at : Place) (x : Put) (gate : ℕ) (image : List ℕ → Type 0) → gate ≡ at.gate + 5 + length (body_of x) → AllImages image (λ c. journal_of c ≡ Some (place_with at x))
    → AllImages image (λ c. journal_of c ≡ Some (record { gate = gate; tables = after at.tables x }))
behind_piece at x gate image size all = record {
  each = λ c now. all.each c now ∙ ap (λ (n : ℕ). let p : Place = record { gate = n; tables = after at.tables x } in Some p) (sym size);
}

-- a put that is on the disk is in doubt if it is not answered
pub put_doubtful : (gate : ℕ) (piece : List ℕ) (old new : List ℕ → Type 0) → AllImages new (ComesFrom (IsPut gate piece) old) → AllImages new (ComesFrom (IsDoubtful gate piece) old)
put_doubtful gate piece old new all = record {
  each = λ c now. let from = all.each c now in (from.0, from.1, record { before = from.2.before; behind = from.2.behind });
}

pub run_of : {D : Type 0} (clock : D → ℕ) (since : D → ℕ → List ℕ → Type 0) (old new : D) (IsSo IsAlso : List ℕ → Type 0)
    → ((c : List ℕ) → IsSo c → IsAlso c) → StopsLeave clock since old new IsSo → StopsLeave clock since old new IsAlso
run_of clock since old new IsSo IsAlso so run = record {
  later = run.later;
  each = λ c left. so c (run.each c left);
  before = λ t c le left. ⊎_elim inl (λ is. inr (so c is)) (run.before t c le left);
}

-- while no call runs
pub stand_now : (at : Place) (doubt : Option Put) (image : List ℕ → Type 0) → (doubt ≡ None → AllImages image (λ c. journal_of c ≡ Some at)) → ((x : Put) → doubt ≡ Some x → AllImages image (IsInDoubt at x))
    → (c : List ℕ) → image c → StandsFor at.tables doubt None c
stand_now at None image rest doubtful c now = inl (ap (λ (o : Option Place). option_map (λ (p : Place). p.tables) o) ((rest refl).each c now))
stand_now at (Some x) image rest doubtful c now = doubt_stops at x image (doubtful x refl) c (c, now, record { before = λ i below. refl; after = λ i past. refl })

-- a put that may be in doubt
module _ (at : Place) (doubt : Option Put) (is : is_some doubt ≡ true) where
  pub doubt_stops_by : (image : List ℕ → Type 0) → ((x : Put) → doubt ≡ Some x → AllImages image (IsInDoubt at x)) → (c : List ℕ) → ComesFrom (IsSameOutside at.gate 1) image c → StandsFor at.tables doubt None c
  doubt_stops_by image doubtful c from = by doubt is doubtful
    where
      by : (o : Option Put) → is_some o ≡ true → ((x : Put) → o ≡ Some x → AllImages image (IsInDoubt at x)) → StandsFor at.tables o None c
      by None none all = absurd (cc none)
      by (Some x) some all = doubt_stops at x image (all x refl) c from

  pub taken_back_by : (old new : List ℕ → Type 0) → ((x : Put) → doubt ≡ Some x → AllImages old (IsInDoubt at x)) → AllImages new (ComesFrom (IsTakenBack at.gate) old) → AllImages new (λ c. journal_of c ≡ Some at)
  taken_back_by old new doubtful back = by doubt is doubtful
    where
      by : (o : Option Put) → is_some o ≡ true → ((x : Put) → o ≡ Some x → AllImages old (IsInDoubt at x)) → AllImages new (λ c. journal_of c ≡ Some at)
      by None none all = absurd (cc none)
      by (Some x) some all = taken_back at x old new (all x refl) back
