-- How the bytes of a text become fewer from record to record.
use Rattle.std.proofs.Common.{◌≡◌, ◌≤◌, ◌<◌, ◌⊎◌, ◌||◌, ◌==◌, ℕ, List, [], ◌∷◌, ◌++◌, length, Bool, true, false, cond, Option, Some, None, refl, subst, ap, inl, inr, arith}
use Rattle.csv.specs.Machine.{Read, next_record, step, in_field, start_field, start_record, is_end, ends_at_end, fields_after, field_after}
use Rattle.csv.specs.Reading.{default_config}
use Rattle.csv.specs.declared.parser.State.{State}
use Rattle.csv.specs.declared.parser.State.TheVariants as st
use Rattle.csv.specs.declared.parser.Action.{Action}
use Rattle.csv.specs.declared.parser.Action.TheVariants as act

-- a state in which no record is begun
abbrev pub IsBetween : State → Type 0
IsBetween s = (s ≡ st.StartRecord) ⊎ (s ≡ st.AfterCr)

-- a step that ends a record leads to one
abbrev EndsBetween : State × Action → Type 0
EndsBetween next = is_end next.1 ≡ true → IsBetween next.0

in-field-by : (comma line_end return : Bool) → EndsBetween (cond comma (st.StartField, act.EndField) (cond line_end (cond return st.AfterCr st.StartRecord, act.EndRecord) (st.InField, act.Copy)))
in-field-by true line_end return ends = absurd (cc ends)
in-field-by false true true ends = inr refl
in-field-by false true false ends = inl refl
in-field-by false false return ends = absurd (cc ends)

unless-skipped : (skips : Bool) (s : State) (next : State × Action) → EndsBetween next → EndsBetween (cond skips (s, act.Skip) next)
unless-skipped true s next others ends = absurd (cc ends)
unless-skipped false s next others ends = others ends

unless-copied : (copies : Bool) (s : State) (next : State × Action) → EndsBetween next → EndsBetween (cond copies (s, act.Copy) next)
unless-copied true s next others ends = absurd (cc ends)
unless-copied false s next others ends = others ends

in-field : (c : ℕ) → EndsBetween (in_field default_config c)
in-field c = in-field-by (c == 44) ((c == 13) || (c == 10)) (c == 13)

at-field : (c : ℕ) → EndsBetween (start_field default_config c)
at-field c = unless-skipped (c == 34) st.InQuoted (in_field default_config c) (in-field c)

at-record : (c : ℕ) → EndsBetween (start_record default_config c)
at-record c = unless-skipped ((c == 13) || (c == 10)) st.StartRecord (start_field default_config c) (at-field c)

step-ends : (s : State) (c : ℕ) → EndsBetween (step default_config s c)
step-ends st.StartRecord c = at-record c
step-ends st.StartField c = at-field c
step-ends st.InField c = in-field c
step-ends st.InQuoted c = unless-skipped (c == 34) st.AfterQuote (st.InQuoted, act.Copy) (λ ends. absurd (cc ends))
step-ends st.InEscape c = λ ends. absurd (cc ends)
step-ends st.AfterQuote c = unless-copied (c == 34) st.InQuoted (in_field default_config c) (in-field c)
step-ends st.InComment c = unless-skipped (c == 10) st.StartRecord (st.InComment, act.Skip) (λ ends. absurd (cc ends))
step-ends st.AfterCr c = unless-skipped (c == 10) st.StartRecord (start_record default_config c) (at-record c)

-- after a record no other is begun, and this many bytes are left
pub record IsBehind (next : Read) (most : ℕ) : Type 0 where
  pub between : IsBetween next.1
  pub few : length next.2 ≤ most

at-end : (ends : Bool) (here next : Read) → here.1 ≡ st.StartRecord → here.2 ≡ [] → cond ends (Some here) None ≡ Some next → IsBehind next 0
at-end true here next begins none is =
    let same : here ≡ next = cc is in
    subst (λ r. IsBehind r 0) same (record { between = inl begins; few = omega (arith, ap length none) })
at-end false here next begins none is = absurd (cc is)

after-step : (ends : Bool) (here next : Read) (later : Option Read) (most : ℕ) → (ends ≡ true → IsBehind here most) → (later ≡ Some next → IsBehind next most)
    → cond ends (Some here) later ≡ Some next → IsBehind next most
after-step true here next later most now then is =
    let same : here ≡ next = cc is in
    subst (λ r. IsBehind r most) same (now refl)
after-step false here next later most now then is = then is

pub behind-any : (s : State) (fields : List (List ℕ)) (now xs : List ℕ) (next : Read) → next_record default_config s fields now xs ≡ Some next → IsBehind next (length xs)
unfolding next_record
behind-any s fields now [] next is = at-end (ends_at_end s) (fields ++ (now ∷ []), st.StartRecord, []) next refl refl is
behind-any s fields now (c ∷ rest) next is =
    let x = step default_config s c in
    after-step (is_end x.1) (fields_after x.1 fields now, x.0, rest) next (next_record default_config x.0 (fields_after x.1 fields now) (field_after x.1 c now) rest) (length (c ∷ rest))
    (λ ends. record { between = step-ends s c ends; few = omega arith })
    (λ later. let left = behind-any x.0 (fields_after x.1 fields now) (field_after x.1 c now) rest next later in record { between = left.between; few = omega (arith, left.few) })
    is

-- a record that has a byte takes it
pub behind-byte : (s : State) (fields : List (List ℕ)) (now : List ℕ) (c : ℕ) (rest : List ℕ) (next : Read) → next_record default_config s fields now (c ∷ rest) ≡ Some next → IsBehind next (length rest)
unfolding next_record
behind-byte s fields now c rest next is =
    let x = step default_config s c in
    after-step (is_end x.1) (fields_after x.1 fields now, x.0, rest) next (next_record default_config x.0 (fields_after x.1 fields now) (field_after x.1 c now) rest) (length rest)
    (λ ends. record { between = step-ends s c ends; few = omega arith })
    (λ later. behind-any x.0 (fields_after x.1 fields now) (field_after x.1 c now) rest next later)
    is

-- if no record is begun, no bytes are no record
pub none-between : (s : State) → IsBetween s → next_record default_config s [] [] [] ≡ None
unfolding next_record
none-between s (inl is) = rw is refl
none-between s (inr is) = rw is refl

-- so there the bytes become fewer
pub behind-between : (s : State) (xs : List ℕ) (next : Read) → IsBetween s → next_record default_config s [] [] xs ≡ Some next → IsBetween next.1 × (length next.2 < length xs)
behind-between s [] next between is = absurd (cc (is, none-between s between))
behind-between s (c ∷ rest) next between is = let left = behind-byte s [] [] c rest next is in (left.between, omega (arith, left.few))
