-- A journal is read slot by slot, up to its end.
use Rattle.std.proofs.Common.{◌≡◌, ◌≢◌, ℕ, zero, suc, ◌+◌, ◌≤◌, ◌==◌, Bool, true, false, List, length, Some, None, sym, ◌∙◌, ap}
use Rattle.std.proofs.lemmas.Bool.{eqb-true}
use Rattle.muni_journal_disk.specs.Bytes.{byte_at}
use Rattle.muni_journal.specs.Journal.{Place, start, behind_slot, end_from, journal_of}
use Rattle.muni_journal.specs.Reading.{GoesOn}
use Rattle.muni_journal.proofs.Ends.{closed_step, has_next, with_next, gates_rise, journal_ends, from_journal}

pub at_start : (c : List ℕ) → GoesOn c start
at_start c = record { sound = λ most e ends. journal_ends most c e ends; whole = λ e is. (length c + 1, from_journal c e is) }

-- the next slot
next_is : (c : List ℕ) (at next e : Place) → byte_at c at.gate ≡ 1 → behind_slot c at ≡ Some next → (most : ℕ) → end_from most c at ≡ Some e → (k : ℕ) × (end_from k c next ≡ Some e)
next_is c at next e is_open behind zero ends = absurd (cc ends)
next_is c at next e is_open behind (suc most) ends =
    let found = has_next most c at e is_open ends in
    let both : Some found.next ≡ Some next = sym found.behind ∙ behind in
    let same : found.next ≡ next = cc both in
    (most, ap (end_from most c) (sym same) ∙ found.ends)

pub one_on : (c : List ℕ) (at next : Place) → byte_at c at.gate ≡ 1 → behind_slot c at ≡ Some next → GoesOn c at → GoesOn c next
one_on c at next is_open behind so_far = record {
  sound = λ most e ends. so_far.sound (suc most) e (with_next most c at next e is_open behind ends);
  whole = λ e is. let found = so_far.whole e is in next_is c at next e is_open behind found.0 found.1;
}

pub at_end : (c : List ℕ) (at : Place) → byte_at c at.gate ≢ 1 → GoesOn c at → journal_of c ≡ Some at
at_end c at is_closed so_far = so_far.sound 1 at (closed_step zero c at is_closed)

none_behind : (c : List ℕ) (at e : Place) → byte_at c at.gate ≡ 1 → behind_slot c at ≡ None → (most : ℕ) → end_from most c at ≡ Some e → ⊥
none_behind c at e is_open behind zero ends = absurd (cc ends)
none_behind c at e is_open behind (suc most) ends = let found = has_next most c at e is_open ends in absurd (cc (found.behind, behind))

pub no_journal : (c : List ℕ) (at e : Place) → byte_at c at.gate ≡ 1 → behind_slot c at ≡ None → GoesOn c at → journal_of c ≡ Some e → ⊥
no_journal c at e is_open behind so_far is = let found = so_far.whole e is in none_behind c at e is_open behind found.0 found.1

pub not_before : (c : List ℕ) (at e : Place) → GoesOn c at → journal_of c ≡ Some e → at.gate ≤ e.gate
not_before c at e so_far is = let found = so_far.whole e is in gates_rise found.0 c at e found.1

pub one_there : (b : Bool) (n : ℕ) → b ≡ (n == 1) → b ≡ true → n ≡ 1
one_there b n is t = eqb-true n 1 (sym is ∙ t)

pub not_one : (b : Bool) (n : ℕ) → b ≡ (n == 1) → b ≡ false → n ≢ 1
not_one b n is f one = let t : n == 1 ≡ true = ap (λ (m : ℕ). m == 1) one in absurd (cc (is, f, t))
