-- The same of texts that may begin with a minus sign.
use Rattle.std.proofs.Common.{◌≡◌, ℕ, zero, suc, ◌+◌, ◌≤◌, ◌⊎◌, ⊎_elim, Bool, true, false, eqb, List, [], ◌∷◌, take, Result, Ok, Err, pos, neg_ℤ, refl, ap, sym, ◌∙◌, subst, arith, inl, inr}
use Rattle.std.proofs.lemmas.Bool.Decides.{nat_tests}
use Rattle.std.specs.Char.{is_ascii_digit}
use Rattle.muni_dec.specs.declared.fault.DecFault.{DecFault}
use Rattle.muni_dec.specs.declared.fault.DecFault.TheVariants.{Empty, NotADigit, TooManyDecimals, OutOfRange}
use Rattle.muni_dec.specs.Decimal.{reading, signed_reading, behind_sign, without_sign}
use Rattle.muni_dec.specs.Grammar.{magnitude_bytes, magnitude_units}
use Rattle.muni_dec.specs.FaultPlaces.{GoesOn, LeavesAt, IsDecimal, IsSignedDecimal, TellsFaults, TellsSignedFaults}
use Rattle.muni_dec.proofs.GrammarLemmas.{signed_reading-minus, signed_reading-other}
use Rattle.muni_dec.proofs.FaultLemmas.{same-fewer, leaves-one, first-digit, zero_decimal, none-leaves, decimal_faults}

-- ---- decimals with a sign by their parts
plain-signed : (places : ℕ) (text : List ℕ) → IsDecimal places text → IsSignedDecimal places text
plain-signed places text is = (
  pos is.0,
  record {
    negative = false;
    magnitude = is.1.magnitude;
    valid = is.1.valid;
    bytes = is.1.bytes;
    value = ap pos is.1.value;
  },
)

minus-signed : (places : ℕ) (text : List ℕ) → IsDecimal places text → IsSignedDecimal places (45 ∷ text)
minus-signed places text is = (
  neg_ℤ (pos is.0),
  record {
    negative = true;
    magnitude = is.1.magnitude;
    valid = is.1.valid;
    bytes = ap (λ t. 45 ∷ t) is.1.bytes;
    value = ap (λ n. neg_ℤ (pos n)) is.1.value;
  },
)

-- a decimal after a minus sign
record IsBehindMinus (places : ℕ) (text : List ℕ) : Type 0 where
  rest : List ℕ
  bytes : text ≡ 45 ∷ rest
  valid : IsDecimal places rest

by-sign : (places : ℕ) (text : List ℕ) (is : IsSignedDecimal places text) (negative : Bool) → is.1.negative ≡ negative → IsDecimal places text ⊎ IsBehindMinus places text
by-sign places text is true minus =
    let m = is.1.magnitude in
    let units = magnitude_units places m in
    inr (record {
      rest = magnitude_bytes m;
      bytes = is.1.bytes ∙ rw minus refl;
      valid = (units, record { magnitude = m; valid = is.1.valid; bytes = refl; value = refl });
    })
by-sign places text is false plain =
    let m = is.1.magnitude in
    let units = magnitude_units places m in
    inl (units, record { magnitude = m; valid = is.1.valid; bytes = is.1.bytes ∙ rw plain refl; value = refl })

parts : (places : ℕ) (text : List ℕ) → IsSignedDecimal places text → IsDecimal places text ⊎ IsBehindMinus places text
parts places text is = by-sign places text is is.1.negative refl

-- ---- after a minus sign
digit_no_minus : (d : ℕ) → is_ascii_digit d ≡ true → d ≡ 45 → ⊥
digit_no_minus d digit minus = let other : is_ascii_digit 45 ≡ true = subst (λ b. is_ascii_digit b ≡ true) minus digit in cc

goes-plain : (places k : ℕ) (rest other : List ℕ) → take (suc k) other ≡ 45 ∷ take k rest → IsDecimal places other → GoesOn (IsDecimal places) rest k
goes-plain places k rest other same is =
    let first = first-digit places other is in
    let front : first.digit ∷ take k first.rest ≡ 45 ∷ take k rest = sym (ap (take (suc k)) first.bytes) ∙ same in
    let minus : first.digit ≡ 45 = cc in
    absurd (digit_no_minus first.digit first.is minus)

goes-minus : (places k : ℕ) (rest other : List ℕ) → take (suc k) other ≡ 45 ∷ take k rest → IsBehindMinus places other → GoesOn (IsDecimal places) rest k
goes-minus places k rest other same is =
    let front : 45 ∷ take k is.rest ≡ 45 ∷ take k rest = sym (ap (take (suc k)) is.bytes) ∙ same in
    record { other = is.rest; valid = is.valid; same = cc }

lower : (places k : ℕ) (rest : List ℕ) → GoesOn (IsSignedDecimal places) (45 ∷ rest) (suc k) → GoesOn (IsDecimal places) rest k
lower places k rest goes =
    ⊎_elim
    (λ (is : IsDecimal places goes.other). goes-plain places k rest goes.other goes.same is)
    (λ (is : IsBehindMinus places goes.other). goes-minus places k rest goes.other goes.same is)
    (parts places goes.other goes.valid)

raise : (places k : ℕ) (rest : List ℕ) → GoesOn (IsDecimal places) rest k → GoesOn (IsSignedDecimal places) (45 ∷ rest) (suc k)
raise places k rest goes = record {
  other = 45 ∷ goes.other;
  valid = minus-signed places goes.other goes.valid;
  same = ap (λ t. 45 ∷ t) goes.same;
}

next : (at : ℕ) → suc at + 1 ≡ suc (at + 1)
next at = omega arith

leaves-raise : (places at : ℕ) (rest : List ℕ) → LeavesAt (IsDecimal places) rest at → LeavesAt (IsSignedDecimal places) (45 ∷ rest) (suc at)
leaves-raise places at rest leaves = record {
  before = raise places at rest leaves.before;
  not_here = λ goes. leaves.not_here (lower places (at + 1) rest (subst (GoesOn (IsSignedDecimal places) (45 ∷ rest)) (next at) goes));
}

leaves-lower : (places at : ℕ) (rest : List ℕ) → LeavesAt (IsSignedDecimal places) (45 ∷ rest) (suc at) → LeavesAt (IsDecimal places) rest at
leaves-lower places at rest leaves = record {
  before = lower places at rest leaves.before;
  not_here = λ goes. leaves.not_here (subst (GoesOn (IsSignedDecimal places) (45 ∷ rest)) (sym (next at)) (raise places (at + 1) rest goes));
}

-- a minus sign begins a decimal
not_at_sign : (places : ℕ) (rest : List ℕ) → ¬ (LeavesAt (IsSignedDecimal places) (45 ∷ rest) 0)
not_at_sign places rest leaves = leaves.not_here (raise places 0 rest (record { other = 48 ∷ []; valid = zero_decimal places; same = refl }))

-- what was read after the sign
data Behind (r : Result ℕ DecFault) (place : ℕ) : Type 0 where
  at_end : r ≡ Err Empty → place ≡ 1 → Behind r place
  later : (at : ℕ) → r ≡ Err (NotADigit at) → place ≡ suc at → Behind r place

not_a_digit-behind : (r : Result ℕ DecFault) (place : ℕ) → behind_sign r ≡ Err (NotADigit place) → Behind r place
not_a_digit-behind (Ok units) place e = absurd (cc)
not_a_digit-behind (Err Empty) place e = at_end refl (cc)
not_a_digit-behind (Err (NotADigit at)) place e = let same : at + 1 ≡ place = cc in later at refl (omega arith)
not_a_digit-behind (Err (TooManyDecimals at)) place e = absurd (cc)
not_a_digit-behind (Err OutOfRange) place e = absurd (cc)

too_many-behind : (r : Result ℕ DecFault) (place : ℕ) → behind_sign r ≡ Err (TooManyDecimals place) → (at : ℕ) × (r ≡ Err (TooManyDecimals at)) × (place ≡ suc at)
too_many-behind (Ok units) place e = absurd (cc)
too_many-behind (Err Empty) place e = absurd (cc)
too_many-behind (Err (NotADigit at)) place e = absurd (cc)
too_many-behind (Err (TooManyDecimals at)) place e = let same : at + 1 ≡ place = cc in (at, refl, omega arith)
too_many-behind (Err OutOfRange) place e = absurd (cc)

not_empty-behind : (r : Result ℕ DecFault) → behind_sign r ≡ Err Empty → ⊥
not_empty-behind (Ok units) e = cc
not_empty-behind (Err Empty) e = cc
not_empty-behind (Err (NotADigit at)) e = cc
not_empty-behind (Err (TooManyDecimals at)) e = cc
not_empty-behind (Err OutOfRange) e = cc

-- what is refused after the sign, by the text there
leaves-read : (places at : ℕ) (rest : List ℕ) → 1 ≤ places → LeavesAt (IsDecimal places) rest at → LeavesAt (IsDecimal (places + 1)) rest at → behind_sign (reading places rest) ≡ Err (NotADigit (suc at))
leaves-read places at [] some leaves longer =
    let empty = (decimal_faults places [] some).empty.1 refl in
    let first : at ≡ 0 = leaves-one (IsDecimal places) [] at 0 leaves (none-leaves places) in
    let place : 1 ≡ suc at = omega arith in
    rw empty (ap (λ n. Err (NotADigit n)) place)
leaves-read places at (c ∷ rest) some leaves longer =
    let read = ((decimal_faults places (c ∷ rest) some).not_a_digit at).1 (λ e. cc, leaves, longer) in
    let place : at + 1 ≡ suc at = omega arith in
    rw read (ap (λ n. Err (NotADigit n)) place)

read-leaves : (places place : ℕ) (rest : List ℕ) → 1 ≤ places → Behind (reading places rest) place → LeavesAt (IsSignedDecimal places) (45 ∷ rest) place × LeavesAt (IsSignedDecimal (places + 1)) (45 ∷ rest) place
read-leaves places place rest some (at_end empty first) =
    let none : rest ≡ [] = (decimal_faults places rest some).empty.0 empty in
    let leaves : (p : ℕ) → LeavesAt (IsSignedDecimal p) (45 ∷ rest) place = λ p.
    subst (LeavesAt (IsSignedDecimal p) (45 ∷ rest)) (sym first) (leaves-raise p 0 rest (subst (λ t. LeavesAt (IsDecimal p) t 0) (sym none) (none-leaves p))) in
    (leaves places, leaves (places + 1))
read-leaves places place rest some (later at read same) =
    let told = ((decimal_faults places rest some).not_a_digit at).0 read in (
      subst (LeavesAt (IsSignedDecimal places) (45 ∷ rest)) (sym same) (leaves-raise places at rest told.1),
      subst (LeavesAt (IsSignedDecimal (places + 1)) (45 ∷ rest)) (sym same) (leaves-raise (places + 1) at rest told.2),
    )

abbrev AreTold : ℕ → List ℕ → Type 0
AreTold places text = TellsFaults (IsSignedDecimal places) (IsSignedDecimal (places + 1)) text (λ fault. signed_reading places text ≡ Err fault)

stray-minus : (places place : ℕ) (rest : List ℕ) → 1 ≤ places → LeavesAt (IsSignedDecimal places) (45 ∷ rest) place → LeavesAt (IsSignedDecimal (places + 1)) (45 ∷ rest) place → behind_sign (reading places rest) ≡ Err (NotADigit place)
stray-minus places zero rest some leaves longer = absurd (not_at_sign places rest leaves)
stray-minus places (suc at) rest some leaves longer = leaves-read places at rest some (leaves-lower places at rest leaves) (leaves-lower (places + 1) at rest longer)

excess-minus : (places place : ℕ) (rest : List ℕ) → 1 ≤ places → LeavesAt (IsSignedDecimal places) (45 ∷ rest) place → GoesOn (IsSignedDecimal (places + 1)) (45 ∷ rest) (place + 1) → behind_sign (reading places rest) ≡ Err (TooManyDecimals place)
excess-minus places zero rest some leaves goes = absurd (not_at_sign places rest leaves)
excess-minus places (suc at) rest some leaves goes =
    let behind = lower (places + 1) (at + 1) rest (subst (GoesOn (IsSignedDecimal (places + 1)) (45 ∷ rest)) (next at) goes) in
    let read = ((decimal_faults places rest some).too_many at).1 (leaves-lower places at rest leaves, behind) in
    let place : at + 1 ≡ suc at = omega arith in
    rw read (ap (λ n. Err (TooManyDecimals n)) place)

minus-told : (places : ℕ) (rest : List ℕ) → 1 ≤ places → AreTold places (45 ∷ rest)
minus-told places rest some =
    let read = signed_reading-minus places 45 rest refl in
    record {
      empty = (λ e. absurd (not_empty-behind (reading places rest) (sym read ∙ e)), λ e. absurd (cc));
      not_a_digit = λ place. (
        λ e. (let told = read-leaves places place rest some (not_a_digit-behind (reading places rest) place (sym read ∙ e)) in (λ none. cc, told.0, told.1)),
        λ h. read ∙ stray-minus places place rest some h.1 h.2,
      );
      too_many = λ place. (
        λ e. (let behind = too_many-behind (reading places rest) place (sym read ∙ e) in
            let told = ((decimal_faults places rest some).too_many behind.0).0 behind.1 in
            let leaves = leaves-raise places behind.0 rest told.0 in
            let goes = subst (GoesOn (IsSignedDecimal (places + 1)) (45 ∷ rest)) (sym (next behind.0)) (raise (places + 1) (behind.0 + 1) rest told.1) in (
              subst (LeavesAt (IsSignedDecimal places) (45 ∷ rest)) (sym behind.2) leaves,
              subst (λ at. GoesOn (IsSignedDecimal (places + 1)) (45 ∷ rest) (at + 1)) (sym behind.2) goes,
            )),
        λ h. read ∙ excess-minus places place rest some h.0 h.1,
      );
    }

-- ---- a text that does not begin with a minus sign
goes-signed : (places k : ℕ) (text : List ℕ) → GoesOn (IsDecimal places) text k → GoesOn (IsSignedDecimal places) text k
goes-signed places k text goes = record { other = goes.other; valid = plain-signed places goes.other goes.valid; same = goes.same }

-- the first byte is no minus sign
abbrev HasNoMinus : List ℕ → Type 0
HasNoMinus text = (rest : List ℕ) → take 1 text ≡ 45 ∷ rest → ⊥

goes-unsigned : (places k : ℕ) (text : List ℕ) → HasNoMinus text → GoesOn (IsSignedDecimal places) text k → GoesOn (IsDecimal places) text k
goes-unsigned places zero text plain goes = record { other = 48 ∷ []; valid = zero_decimal places; same = refl }
goes-unsigned places (suc k) text plain goes =
    ⊎_elim
    (λ (is : IsDecimal places goes.other). record { other = goes.other; valid = is; same = goes.same })
    (λ (is : IsBehindMinus places goes.other).
    absurd (plain [] (sym (same-fewer 1 (suc k) goes.other text (omega arith) goes.same) ∙ ap (take 1) is.bytes)))
    (parts places goes.other goes.valid)

leaves-signed : (places at : ℕ) (text : List ℕ) → HasNoMinus text → LeavesAt (IsDecimal places) text at → LeavesAt (IsSignedDecimal places) text at
leaves-signed places at text plain leaves = record {
  before = goes-signed places at text leaves.before;
  not_here = λ goes. leaves.not_here (goes-unsigned places (at + 1) text plain goes);
}

leaves-unsigned : (places at : ℕ) (text : List ℕ) → HasNoMinus text → LeavesAt (IsSignedDecimal places) text at → LeavesAt (IsDecimal places) text at
leaves-unsigned places at text plain leaves = record {
  before = goes-unsigned places at text plain leaves.before;
  not_here = λ goes. leaves.not_here (goes-signed places (at + 1) text goes);
}

without_sign-err : (r : Result ℕ DecFault) (fault : DecFault) → without_sign r ≡ Err fault → r ≡ Err fault
without_sign-err (Ok units) fault e = absurd (cc)
without_sign-err (Err other) fault e = cc

plain-told : (places : ℕ) (text : List ℕ) → 1 ≤ places → HasNoMinus text → signed_reading places text ≡ without_sign (reading places text) → AreTold places text
plain-told places text some plain read =
    let told = decimal_faults places text some in
    let down : (fault : DecFault) → signed_reading places text ≡ Err fault → reading places text ≡ Err fault = λ fault e. without_sign-err (reading places text) fault (sym read ∙ e) in
    let up : (fault : DecFault) → reading places text ≡ Err fault → signed_reading places text ≡ Err fault = λ fault e. read ∙ ap without_sign e in
    record {
      empty = (λ e. told.empty.0 (down Empty e), λ e. up Empty (told.empty.1 e));
      not_a_digit = λ place. (
        λ e. (let h = (told.not_a_digit place).0 (down (NotADigit place) e) in (h.0, leaves-signed places place text plain h.1, leaves-signed (places + 1) place text plain h.2)),
        λ h. up (NotADigit place) ((told.not_a_digit place).1 (h.0, leaves-unsigned places place text plain h.1, leaves-unsigned (places + 1) place text plain h.2)),
      );
      too_many = λ place. (
        λ e. (let h = (told.too_many place).0 (down (TooManyDecimals place) e) in (leaves-signed places place text plain h.0, goes-signed (places + 1) (place + 1) text h.1)),
        λ h. up (TooManyDecimals place) ((told.too_many place).1 (leaves-unsigned places place text plain h.0, goes-unsigned (places + 1) (place + 1) text plain h.1)),
      );
    }

by-first : (places c : ℕ) (rest : List ℕ) → 1 ≤ places → (minus : Bool) → eqb c 45 ≡ minus → AreTold places (c ∷ rest)
by-first places c rest some true is =
    let sign : c ≡ 45 = grind (arith, nat_tests) in
    subst (λ d. AreTold places (d ∷ rest)) (sym sign) (minus-told places rest some)
by-first places c rest some false other =
    let plain : HasNoMinus (c ∷ rest) = λ behind e. (let front : c ∷ [] ≡ 45 ∷ behind = e in let same : c ≡ 45 = cc in let sign : eqb c 45 ≡ true = grind (arith, nat_tests) in cc) in
    plain-told places (c ∷ rest) some plain (signed_reading-other places c rest other)

signed_reading-none : (places : ℕ) → signed_reading places [] ≡ without_sign (reading places [])
unfolding signed_reading
signed_reading-none places = refl

pub signed_faults : TellsSignedFaults
signed_faults places [] some = plain-told places [] some (λ rest e. cc) (signed_reading-none places)
signed_faults places (c ∷ rest) some = by-first places c rest some (eqb c 45) refl
