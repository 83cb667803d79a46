-- The end of a journal, and what moves it.
use Rattle.std.proofs.Common.{◌≡◌, ◌≢◌, inl, inr, ℕ, zero, suc, ◌+◌, ◌-◌, ◌<◌, ◌≤◌, ◌==◌, if◌then◌else◌, true, false, List, ◌∷◌, length, Option, Some, None, refl, sym, ◌∙◌, ap, arith}
use Rattle.std.specs.Option.{option_map, option_and_then}
use Rattle.std.proofs.lemmas.Bool.{cases_eq, cases_lt}
use Rattle.std.proofs.lemmas.Bool.Decides.{nat_tests}
use Rattle.std.proofs.lemmas.List.{get_or_past}
use Rattle.std.proofs.lemmas.Option.{option_and_then_some, none-some, same_Some}
use Rattle.muni_journal_disk.specs.Bytes.{byte_at, bytes_at, IsSameBefore}
use Rattle.muni_keep.specs.Tables.{Tables}
use Rattle.muni_journal_record.specs.Words.{number_of_4}
use Rattle.muni_journal_record.specs.Body.{put_of}
use Rattle.muni_journal.specs.Puts.{put_on}
use Rattle.muni_journal.specs.Journal.{Place, start, number_at, is_length, put_at, behind_slot, end_from, journal_of}

-- equal bytes before a place have equal parts before it
pub same_piece : (top place count : ℕ) (d c : List ℕ) → IsSameBefore top d c → place + count ≤ top → bytes_at c place count ≡ bytes_at d place count
same_piece top place zero d c same room = refl
same_piece top place (suc count) d c same room = λ i. same.each place (omega (arith, room)) i ∷ same_piece top (place + 1) count d c same (omega (arith, room)) i

pub same_number : (top place : ℕ) (d c : List ℕ) → IsSameBefore top d c → place + 4 ≤ top → number_at c place ≡ number_at d place
unfolding number_at
same_number top place d c same room = ap number_of_4 (same_piece top place 4 d c same room)

-- a step at an open gate, and at a closed one
pub open_step : (k : ℕ) (c : List ℕ) (at : Place) → byte_at c at.gate ≡ 1 → end_from (suc k) c at ≡ option_and_then (end_from k c) (behind_slot c at)
open_step k c at is_open = let t : byte_at c at.gate == 1 ≡ true = grind (arith, nat_tests) in rw t refl

pub closed_step : (k : ℕ) (c : List ℕ) (at : Place) → byte_at c at.gate ≢ 1 → end_from (suc k) c at ≡ Some at
closed_step k c at is_closed = let t : byte_at c at.gate == 1 ≡ false = grind (arith, nat_tests) in rw t refl

-- a journal that ends has read its open slot
pub record HasNext (k : ℕ) (c : List ℕ) (at e : Place) : Type 0 where
  pub next : Place
  pub behind : behind_slot c at ≡ Some next
  pub ends : end_from k c next ≡ Some e

pub has_next : (k : ℕ) (c : List ℕ) (at e : Place) → byte_at c at.gate ≡ 1 → end_from (suc k) c at ≡ Some e → HasNext k c at e
has_next k c at e is_open ends = option_and_then_some (end_from k c) (behind_slot c at) e (sym (open_step k c at is_open) ∙ ends)
    (λ next behind ends_there. record { next = next; behind = behind; ends = ends_there })

pub with_next : (k : ℕ) (c : List ℕ) (at next e : Place) → byte_at c at.gate ≡ 1 → behind_slot c at ≡ Some next → end_from k c next ≡ Some e → end_from (suc k) c at ≡ Some e
with_next k c at next e is_open behind ends = open_step k c at is_open ∙ ap (λ (o : Option Place). option_and_then (end_from k c) o) behind ∙ ends

-- a slot is five bytes longer than its body
pub some_of : {A B : Type 0} (f : A → B) (o : Option A) (y : B) → option_map f o ≡ Some y → (x : A) × (o ≡ Some x) × (f x ≡ y)
some_of f None y e = absurd (cc e)
some_of f (Some x) y e = (x, refl, cc)

pub next_gate : (c : List ℕ) (at next : Place) → behind_slot c at ≡ Some next → next.gate ≡ at.gate + 5 + number_at c (at.gate + 1)
unfolding behind_slot
next_gate c at next behind =
    let found = some_of (λ (tables : Tables). let p : Place = record { gate = at.gate + 5 + number_at c (at.gate + 1); tables = tables } in p) (option_and_then (put_on at.tables) (put_at c (at.gate + 1))) next behind in
    ap (λ (p : Place). p.gate) (sym found.2)

-- equal bytes up to the next gate hold the same slot
pub same_step : (d c : List ℕ) (at next : Place) → IsSameBefore next.gate d c → behind_slot d at ≡ Some next → behind_slot c at ≡ Some next
unfolding behind_slot
same_step d c at next same behind =
    let end = next_gate d at next behind in
    let F : ℕ → List ℕ → Option Place = λ n b. option_map (λ (tables : Tables). let p : Place = record { gate = at.gate + 5 + n; tables = tables } in p)
    (option_and_then (put_on at.tables) (if is_length n then put_of b else None)) in
    let number : number_at c (at.gate + 1) ≡ number_at d (at.gate + 1) = same_number next.gate (at.gate + 1) d c same (omega (arith, end)) in
    let body : bytes_at c (at.gate + 1 + 4) (number_at d (at.gate + 1)) ≡ bytes_at d (at.gate + 1 + 4) (number_at d (at.gate + 1)) = same_piece next.gate (at.gate + 1 + 4) (number_at d (at.gate + 1)) d c same (omega (arith, end)) in
    ap (λ (n : ℕ). F n (bytes_at c (at.gate + 1 + 4) n)) number ∙ ap (λ (b : List ℕ). F (number_at d (at.gate + 1)) b) body ∙ behind

-- an open slot leads to the next one
pub gates_rise : (k : ℕ) (c : List ℕ) (at e : Place) → end_from k c at ≡ Some e → at.gate ≤ e.gate
gates_rise zero c at e ends = absurd (none-some e ends)
gates_rise (suc k) c at e ends = elim (cases_eq (byte_at c at.gate) 1) [
  | inl is_open ↦
      let found = has_next k c at e is_open ends in
      omega (arith, gates_rise k c found.next e found.ends, next_gate c at found.next found.behind)
  | inr is_closed ↦ omega (arith, ap (λ (p : Place). p.gate) (same_Some at e (sym (closed_step k c at is_closed) ∙ ends)))
]

-- what comes after a closed gate does not count
pub same_end : (k : ℕ) (d c : List ℕ) (at e : Place) → end_from k d at ≡ Some e → IsSameBefore e.gate d c → byte_at c e.gate ≢ 1 → end_from k c at ≡ Some e
same_end zero d c at e ends same closed = absurd (none-some e ends)
same_end (suc k) d c at e ends same closed = elim (cases_eq (byte_at d at.gate) 1) [
  | inl is_open ↦
      let found = has_next k d at e is_open ends in
      let top = gates_rise k d found.next e found.ends in
      let size = next_gate d at found.next found.behind in
      let below : IsSameBefore found.next.gate d c = record { each = λ i low. same.each i (omega (arith, low, top)) } in
      with_next k c at found.next e (same.each at.gate (omega (arith, top, size)) ∙ is_open) (same_step d c at found.next below found.behind)
      (same_end k d c found.next e found.ends same closed)
  | inr is_closed ↦
      let here : at ≡ e = same_Some at e (sym (closed_step k d at is_closed) ∙ ends) in
      closed_step k c at (λ is_open. closed (sym (ap (λ (p : Place). byte_at c p.gate) here) ∙ is_open)) ∙ ap (λ (p : Place). Some p) here
]

-- one slot more at the gate that was closed
pub longer_end : (k : ℕ) (d c : List ℕ) (at e next : Place) → end_from k d at ≡ Some e → IsSameBefore e.gate d c → byte_at c e.gate ≡ 1 → behind_slot c e ≡ Some next → byte_at c next.gate ≢ 1
    → end_from (suc k) c at ≡ Some next
longer_end zero d c at e next ends same is_open behind closed = absurd (none-some e ends)
longer_end (suc k) d c at e next ends same opened behind closed = elim (cases_eq (byte_at d at.gate) 1) [
  | inl is_open ↦
      let found = has_next k d at e is_open ends in
      let top = gates_rise k d found.next e found.ends in
      let size = next_gate d at found.next found.behind in
      let below : IsSameBefore found.next.gate d c = record { each = λ i low. same.each i (omega (arith, low, top)) } in
      with_next (suc k) c at found.next next (same.each at.gate (omega (arith, top, size)) ∙ is_open) (same_step d c at found.next below found.behind)
      (longer_end k d c found.next e next found.ends same opened behind closed)
  | inr is_closed ↦
      let here : at ≡ e = same_Some at e (sym (closed_step k d at is_closed) ∙ ends) in
      with_next (suc k) c at next next (ap (λ (p : Place). byte_at c p.gate) here ∙ opened) (ap (behind_slot c) here ∙ behind) (closed_step k c next closed)
]

-- the end does not depend on how many slots are allowed, once they suffice
pub more : (k m : ℕ) (c : List ℕ) (at e : Place) → k ≤ m → end_from k c at ≡ Some e → end_from m c at ≡ Some e
more zero m c at e le ends = absurd (none-some e ends)
more (suc k) zero c at e le ends = absurd (omega (arith, le))
more (suc k) (suc m) c at e le ends = elim (cases_eq (byte_at c at.gate) 1) [
  | inl is_open ↦
      let found = has_next k c at e is_open ends in
      with_next m c at found.next e is_open found.behind (more k m c found.next e (omega (arith, le)) found.ends)
  | inr is_closed ↦ closed_step m c at is_closed ∙ sym (closed_step k c at is_closed) ∙ ends
]

-- past the end every gate is closed
open_within : (c : List ℕ) (gate : ℕ) → byte_at c gate ≡ 1 → gate < length c
open_within c gate is_open = elim (cases_lt gate (length c)) [
  | inl within ↦ within
  | inr past ↦ absurd (cc (is_open, get_or_past c gate 0 past))
]

pub enough : (k : ℕ) (c : List ℕ) (at e : Place) → end_from k c at ≡ Some e → end_from (suc (length c - at.gate)) c at ≡ Some e
enough zero c at e ends = absurd (none-some e ends)
enough (suc k) c at e ends = elim (cases_eq (byte_at c at.gate) 1) [
  | inl is_open ↦
      let found = has_next k c at e is_open ends in
      let size = next_gate c at found.next found.behind in
      let within = open_within c at.gate is_open in
      with_next (length c - at.gate) c at found.next e is_open found.behind (more (suc (length c - found.next.gate)) (length c - at.gate) c found.next e (omega (arith, size, within)) (enough k c found.next e found.ends))
  | inr is_closed ↦ closed_step (length c - at.gate) c at is_closed ∙ sym (closed_step k c at is_closed) ∙ ends
]

pub journal_ends : (k : ℕ) (c : List ℕ) (e : Place) → end_from k c start ≡ Some e → journal_of c ≡ Some e
unfolding journal_of
journal_ends k c e ends = let fuel : suc (length c - 0) ≡ length c + 1 = omega arith in
    ap (λ (n : ℕ). end_from n c start) (sym fuel) ∙ enough k c start e ends

pub from_journal : (c : List ℕ) (e : Place) → journal_of c ≡ Some e → end_from (length c + 1) c start ≡ Some e
unfolding journal_of
from_journal c e is = is
