-- Bytes that mean tables are the slots of puts that lead to them.
use Rattle.std.proofs.Common.{◌≡◌, ◌≢◌, inl, inr, ℕ, zero, suc, ◌+◌, ◌-◌, ◌<◌, ◌≤◌, ◌&&◌, Bool, true, false, cond, List, [], ◌∷◌, ◌++◌, length, Option, Some, None, refl, sym, ◌∙◌, ap, arith, length-append}
use Rattle.std.specs.Prelude.{All, nat_le}
use Rattle.std.specs.Option.{option_map, option_and_then}
use Rattle.std.proofs.lemmas.Bool.{cases_eq, cases_lt}
use Rattle.std.proofs.lemmas.Bool.Decides.{nat_tests}
use Rattle.std.proofs.lemmas.List.{get_or_past, get_or_append_left, get_or-append-add}
use Rattle.std.proofs.lemmas.Nat.{be_bytes_4}
use Rattle.std.proofs.lemmas.Option.{option_and_then_some, same_Some}
use Rattle.muni_keep.specs.Tables.{Tables, no_tables}
use Rattle.muni_journal_disk.specs.Bytes.{byte_at, bytes_at, StandsAt}
use Rattle.muni_journal_disk.proofs.Patches.{length-bytes_at, in_piece}
use Rattle.muni_journal_disk.proofs.Pieces.{front, back, first_byte}
use Rattle.muni_journal_record.specs.Words.{four, number_of_4}
use Rattle.muni_journal_record.specs.Body.{body_of, put_of}
use Rattle.muni_journal_record.specs.declared.put.Put.{Put}
use Rattle.muni_journal_record.proofs.WordLaws.{length-four}
use Rattle.muni_journal_record.proofs.BodyLaws.{one_put_has_one_body}
use Rattle.muni_journal.specs.Puts.{is_next, after, put_on}
use Rattle.muni_journal.specs.Journal.{Place, start, is_length, number_at, put_at, behind_slot, end_from, journal_of, place_with}
use Rattle.muni_journal.specs.Laws.{HasRecord, slot_of, slots_of, led_by, WhatIsWrittenStands, JournalsStand, NothingElseStands}
use Rattle.muni_journal.proofs.Ends.{some_of, closed_step, has_next, with_next, journal_ends, from_journal}
use Rattle.muni_journal.proofs.JournalImages.{slot_reads, closed_end}

chosen : (test : Bool) (x y : Tables) → cond test (Some x) None ≡ Some y → (test ≡ true) × (x ≡ y)
chosen true x y is = (refl, same_Some x y is)
chosen false x y is = absurd (cc is)

picked : (test : Bool) (o : Option Put) (put : Put) → cond test o None ≡ Some put → (test ≡ true) × (o ≡ Some put)
picked true o put is = (refl, is)
picked false o put is = absurd (cc is)

both_true : (a b : Bool) → a && b ≡ true → (a ≡ true) × (b ≡ true)
both_true true b is = (refl, is)
both_true false b is = absurd (cc is)

-- what is at two places side by side
joined : (p q : ℕ) (xs ys c : List ℕ) → p + length xs ≡ q → StandsAt p xs c → StandsAt q ys c → StandsAt p (xs ++ ys) c
joined p q xs ys c next first second = record {
  each = λ i below. elim (cases_lt i (length xs)) [
    | inl within ↦ first.each i within ∙ sym (get_or_append_left xs ys 0 i within)
    | inr past ↦
        let j = i - length xs in
        let here : i ≡ length xs + j = omega (arith, past) in
        let place : p + i ≡ q + j = omega (arith, past, next) in
        ap (byte_at c) place ∙ second.each j (omega (arith, past, below, length-append xs ys)) ∙ sym (get_or-append-add xs ys j 0) ∙ ap (byte_at (xs ++ ys)) (sym here)
  ];
}

one_byte : (p x : ℕ) (c : List ℕ) → byte_at c p ≡ x → StandsAt p (x ∷ []) c
one_byte p x c is = record { each = by }
  where
    by : (i : ℕ) → i < 1 → byte_at c (p + i) ≡ byte_at (x ∷ []) i
    by zero below = let e : p + 0 ≡ p = omega arith in ap (byte_at c) e ∙ is
    by (suc i) below = absurd (omega (arith, below))

stands_as : (p count : ℕ) (c xs : List ℕ) → bytes_at c p count ≡ xs → StandsAt p xs c
stands_as p count c xs is = record {
  each = λ i below.
      let size : length xs ≡ count = ap length (sym is) ∙ length-bytes_at c p count in
      sym (in_piece c p count i (omega (arith, below, size))) ∙ ap (λ (b : List ℕ). byte_at b i) is;
}

abbrev place : ℕ → Tables → Place
place gate tables = record { gate = gate; tables = tables }

places : (g h : ℕ) (t u : Tables) → g ≡ h → t ≡ u → ◌≡◌ {A = Option Place} (Some (place g t)) (Some (place h u))
places g h t u gate tables = ap (λ (n : ℕ). Some (place n t)) gate ∙ ap (λ (x : Tables). Some (place h x)) tables

-- slots lead to the closed gate after them
ends_at : (puts : List Put) (c : List ℕ) (g : ℕ) (t tables : Tables) → All HasRecord puts → led_by puts t ≡ Some tables → StandsAt g (slots_of puts) c → byte_at c (g + length (slots_of puts)) ≢ 1
    → end_from (suc (length puts)) c (place g t) ≡ Some (place (g + length (slots_of puts)) tables)
ends_at [] c g t tables all led stands closed =
    let here : g ≡ g + 0 = omega arith in
    closed_step zero c (place g t) (λ is_open. closed (ap (byte_at c) (sym here) ∙ is_open)) ∙ places g (g + 0) t tables here (same_Some t tables led)
ends_at (put ∷ puts) c g t tables all led stands closed = option_and_then_some (led_by puts) (put_on t put) tables led (λ next is led_on.
    let both = chosen (is_next t put) (after t put) next is in
    let n = length (body_of put) in
    let one : HasRecord put = all 0 put (omega arith) in
    let rest : All HasRecord puts = λ k d below. all (suc k) d (omega (arith, below)) in
    let here = front g (slot_of put) (slots_of puts) c stands in
    let is_open : byte_at c g ≡ 1 = first_byte g 1 (four n ++ body_of put) c here in
    let there : StandsAt (g + 1) (four n ++ body_of put) c = back g (g + 1) (1 ∷ []) (four n ++ body_of put) c refl here in
    let number = front (g + 1) (four n) (body_of put) c there in
    let body = back (g + 1) (g + 1 + 4) (four n) (body_of put) c (omega (arith, length-four n)) there in
    let behind : behind_slot c (place g t) ≡ Some (place_with (place g t) put) = slot_reads (place g t) put c one.reads (one.length_from, one.length_to) both.0 number body in
    let size : length (slot_of put) ≡ 5 + n = omega (arith, length-append (four n) (body_of put), length-four n) in
    let q = g + 5 + n in
    let all_sizes : g + length (slots_of (put ∷ puts)) ≡ q + length (slots_of puts) = omega (arith, length-append (slot_of put) (slots_of puts), size) in
    let stands_on : StandsAt q (slots_of puts) c = back g q (slot_of put) (slots_of puts) c (omega (arith, size)) stands in
    let led_there : led_by puts (after t put) ≡ Some tables = ap (led_by puts) both.1 ∙ led_on in
    with_next (suc (length puts)) c (place g t) (place_with (place g t) put) (place (q + length (slots_of puts)) tables) is_open behind
    (ends_at puts c q (after t put) tables rest led_there stands_on (λ is_one. closed (ap (byte_at c) all_sizes ∙ is_one)))
    ∙ places (q + length (slots_of puts)) (g + length (slots_of (put ∷ puts))) tables tables (sym all_sizes) refl)

pub journals_stand : JournalsStand
journals_stand c tables journal =
    let end = length (slots_of journal.puts) in
    let here : 0 + end ≡ end = omega arith in
    let ends = ends_at journal.puts c 0 no_tables tables journal.records journal.led journal.slots (λ is_one. journal.closed (ap (byte_at c) (sym here) ∙ is_one)) in
    ap (λ (o : Option Place). option_map (λ (p : Place). p.tables) o) (journal_ends (suc (length journal.puts)) c (place (0 + end) tables) ends)

pub what_is_written_stands : WhatIsWrittenStands
what_is_written_stands puts tables rest records led =
    let slots = slots_of puts in
    let end : length slots ≡ length slots + 0 = omega arith in
    let zero_there : byte_at (slots ++ 0 ∷ rest) (length slots) ≡ 0 = ap (byte_at (slots ++ 0 ∷ rest)) end ∙ get_or-append-add slots (0 ∷ rest) 0 0 in
    journals_stand (slots ++ 0 ∷ rest) tables (record {
      puts = puts;
      records = records;
      led = led;
      slots = record { each = λ i below. let e : 0 + i ≡ i = omega arith in ap (byte_at (slots ++ 0 ∷ rest)) e ∙ get_or_append_left slots (0 ∷ rest) 0 i below };
      closed = λ is_one. absurd (cc (is_one, zero_there));
    })

-- the bytes of a length are those of its number
four_held : (c : List ℕ) (p : ℕ) → ((i : ℕ) → byte_at c i < 256) → bytes_at c p 4 ≡ four (number_at c p)
unfolding four number_at number_of_4
four_held c p small = sym (be_bytes_4 (bytes_at c p 4) _ refl below refl)
  where
    below : (i : ℕ) → byte_at (bytes_at c p 4) i < 256
    below i = elim (cases_lt i 4) [
      | inl within ↦ omega (arith, in_piece c p 4 i within, small (p + i))
      | inr past ↦ omega (arith, get_or_past (bytes_at c p 4) i 0 past)
    ]

-- an open slot that leads on is the slot of a put
record IsSlot (c : List ℕ) (at next : Place) : Type 0 where
  put : Put
  has : HasRecord put
  led : put_on at.tables put ≡ Some next.tables
  stands : StandsAt (at.gate + 1) (four (length (body_of put)) ++ body_of put) c
  gate : next.gate ≡ at.gate + 5 + length (body_of put)

slot_held : (c : List ℕ) → ((i : ℕ) → byte_at c i < 256) → (at next : Place) → behind_slot c at ≡ Some next → IsSlot c at next
unfolding behind_slot
slot_held c small at next behind =
    let p = at.gate + 1 in
    let n = number_at c p in
    let found = some_of (λ (tables : Tables). place (at.gate + 5 + n) tables) (option_and_then (put_on at.tables) (put_at c p)) next behind in
    option_and_then_some (put_on at.tables) (put_at c p) found.0 found.1 (λ put is led.
    let read = picked (is_length n) (put_of (bytes_at c (p + 4) n)) put is in
    let tests = both_true (nat_le 1 n) (nat_le n 1_024) read.0 in
    let body : bytes_at c (p + 4) n ≡ body_of put = one_put_has_one_body (bytes_at c (p + 4) n) put read.1 in
    let size : length (body_of put) ≡ n = ap length (sym body) ∙ length-bytes_at c (p + 4) n in
    let number : bytes_at c p 4 ≡ four (length (body_of put)) = four_held c p small ∙ ap four (sym size) in
    let from : 1 ≤ n = grind (arith, nat_tests, tests.0) in
    let to : n ≤ 1_024 = grind (arith, nat_tests, tests.1) in
    record {
      put = put;
      has = record { length_from = omega (arith, size, from); length_to = omega (arith, size, to); reads = ap put_of (sym body) ∙ read.1 };
      led = led ∙ ap (λ (o : Place). Some o.tables) found.2;
      stands = joined p (p + 4) (four (length (body_of put))) (body_of put) c (omega (arith, length-four (length (body_of put)))) (stands_as p 4 c _ number) (stands_as (p + 4) n c _ body);
      gate = omega (arith, size, ap (λ (o : Place). o.gate) found.2);
    })

-- the slots up to the closed gate
record AreSlots (c : List ℕ) (at e : Place) : Type 0 where
  puts : List Put
  records : All HasRecord puts
  led : led_by puts at.tables ≡ Some e.tables
  slots : StandsAt at.gate (slots_of puts) c
  gate : at.gate + length (slots_of puts) ≡ e.gate

one_more : (put : Put) (puts : List Put) → HasRecord put → All HasRecord puts → All HasRecord (put ∷ puts)
one_more put puts one all zero d below = one
one_more put puts one all (suc k) d below = all k d (omega (arith, below))

slots_held : (k : ℕ) (c : List ℕ) → ((i : ℕ) → byte_at c i < 256) → (at e : Place) → end_from k c at ≡ Some e → AreSlots c at e
slots_held zero c small at e ends = absurd (cc ends)
slots_held (suc k) c small at e ends = elim (cases_eq (byte_at c at.gate) 1) [
  | inl is_open ↦
      let found = has_next k c at e is_open ends in
      let slot = slot_held c small at found.next found.behind in
      let more = slots_held k c small found.next e found.ends in
      let n = length (body_of slot.put) in
      let here : StandsAt at.gate (slot_of slot.put) c = joined at.gate (at.gate + 1) (1 ∷ []) (four n ++ body_of slot.put) c refl (one_byte at.gate 1 c is_open) slot.stands in
      let size : length (slot_of slot.put) ≡ 5 + n = omega (arith, length-append (four n) (body_of slot.put), length-four n) in
      let next : at.gate + length (slot_of slot.put) ≡ found.next.gate = omega (arith, size, slot.gate) in
      record {
        puts = slot.put ∷ more.puts;
        records = one_more slot.put more.puts slot.has more.records;
        led = ap (λ (o : Option Tables). option_and_then (led_by more.puts) o) slot.led ∙ more.led;
        slots = joined at.gate found.next.gate (slot_of slot.put) (slots_of more.puts) c next here more.slots;
        gate = omega (arith, next, more.gate, length-append (slot_of slot.put) (slots_of more.puts));
      }
  | inr is_closed ↦
      let same : at ≡ e = same_Some at e (sym (closed_step k c at is_closed) ∙ ends) in
      record {
        puts = [];
        records = λ j d below. absurd (omega (arith, below));
        led = ap (λ (o : Place). Some o.tables) same;
        slots = record { each = λ i below. absurd (omega (arith, below)) };
        gate = omega (arith, ap (λ (o : Place). o.gate) same);
      }
]

pub nothing_else_stands : NothingElseStands
nothing_else_stands c tables small stands =
    let found = some_of (λ (at : Place). at.tables) (journal_of c) tables stands in
    let slots = slots_held (length c + 1) c small start found.0 (from_journal c found.0 found.1) in
    let end : length (slots_of slots.puts) ≡ found.0.gate = omega (arith, slots.gate) in
    record {
      puts = slots.puts;
      records = slots.records;
      led = slots.led ∙ ap (λ (t : Tables). Some t) found.2;
      slots = slots.slots;
      closed = λ is_one. closed_end c found.0 found.1 (ap (byte_at c) (sym end) ∙ is_one);
    }
