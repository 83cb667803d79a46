-- The records of bytes, and where these can be cut.
use Rattle.std.proofs.Common.{◌≡◌, ◌≤◌, ◌+◌, ◌||◌, ◌==◌, ℕ, zero, suc, List, [], ◌∷◌, ◌++◌, length, Bool, true, false, cond, Option, Some, None, refl, ap, inl, inr, arith}
use Rattle.std.specs.Prelude.{⊤, if◌then◌else◌}
use Rattle.csv.specs.Machine.{Read, next_record, step, in_field, start_field, start_record, is_end, ends_at_end, fields_after, field_after}
use Rattle.csv.specs.Reading.{default_config, records_from, records_next, strip_bom}
use Rattle.csv.specs.declared.parser.State.{State}
use Rattle.csv.specs.declared.parser.State.TheVariants as st
use Rattle.csv.specs.declared.parser.Action.{Action}
use Rattle.csv.specs.declared.parser.Action.TheVariants as act
use Rattle.muni_import.specs.Places as place
use Rattle.muni_import.specs.Rows.{records_of}
use Rattle.muni_import.specs.declared.place.Place.{Place}
use Rattle.muni_import.specs.declared.place.Place.TheVariants as at
use Rattle.muni_import.proofs.MachineLemmas.{IsBetween}

-- ---- byte by byte
-- the records of bytes from a state, with the fields and the bytes of the field at hand
abbrev pub all : State → List (List ℕ) → List ℕ → List ℕ → List (List (List ℕ))
all s fields field [] = cond (ends_at_end s) ((fields ++ (field ∷ [])) ∷ []) []
all s fields field (c ∷ rest) =
    cond (is_end (step default_config s c).1)
    (fields_after (step default_config s c).1 fields field ∷ all (step default_config s c).0 [] [] rest)
    (all (step default_config s c).0 (fields_after (step default_config s c).1 fields field) (field_after (step default_config s c).1 c field) rest)

none-left : (n : ℕ) → records_from default_config n st.StartRecord [] ≡ []
unfolding records_from next_record
none-left zero = refl
none-left (suc n) = refl

at-end : (ends : Bool) (n : ℕ) (fields : List (List ℕ)) (field : List ℕ)
    → records_next (records_from default_config n) (cond ends (Some (fields ++ (field ∷ []), st.StartRecord, [])) None) ≡ cond ends ((fields ++ (field ∷ [])) ∷ []) []
at-end true n fields field = ap (λ records. (fields ++ (field ∷ [])) ∷ records) (none-left n)
at-end false n fields field = refl

at-byte : (ends : Bool) (n : ℕ) (here : Read) (later : Option Read) (more others : List (List (List ℕ))) → records_from default_config n here.1 here.2 ≡ more → records_next (records_from default_config n) later ≡ others
    → records_next (records_from default_config n) (cond ends (Some here) later) ≡ cond ends (here.0 ∷ more) others
at-byte true n here later more others ended goes_on = ap (λ records. here.0 ∷ records) ended
at-byte false n here later more others ended goes_on = goes_on

all-are : (n : ℕ) (s : State) (fields : List (List ℕ)) (field xs : List ℕ) → length xs ≤ n → records_next (records_from default_config n) (next_record default_config s fields field xs) ≡ all s fields field xs
unfolding records_from next_record
all-are zero s fields field [] few = at-end (ends_at_end s) zero fields field
all-are zero s fields field (c ∷ rest) few = absurd (omega (arith, few))
all-are (suc n) s fields field [] few = at-end (ends_at_end s) (suc n) fields field
all-are (suc n) s fields field (c ∷ rest) few =
    let x = step default_config s c in
    at-byte (is_end x.1) (suc n) (fields_after x.1 fields field, x.0, rest) (next_record default_config x.0 (fields_after x.1 fields field) (field_after x.1 c field) rest)
    (all x.0 [] [] rest) (all x.0 (fields_after x.1 fields field) (field_after x.1 c field) rest)
    (all-are n x.0 [] [] rest (omega (arith, few)))
    (all-are (suc n) x.0 (fields_after x.1 fields field) (field_after x.1 c field) rest (omega (arith, few)))

pub records-all : (text : List ℕ) → records_of text ≡ all st.StartRecord [] [] (strip_bom text)
unfolding records_from
records-all text =
    let bytes = strip_bom text in
    let turns : length bytes + 1 ≡ suc (length bytes) = omega arith in
    rw turns (all-are (length bytes) st.StartRecord [] [] bytes (omega arith))

-- ---- a place says where the machine stands
abbrev Stands : Place → State → Type 0
Stands at.Row st.StartRecord = ⊤
Stands at.Row st.AfterCr = ⊤
Stands at.Field st.StartField = ⊤
Stands at.Inside st.InField = ⊤
Stands at.Quoted st.InQuoted = ⊤
Stands at.Unquoted st.AfterQuote = ⊤
Stands p s = ⊥

-- A step of the place goes with one of the machine. A row ends only with a step that is told, and a step that
-- leaves none begun either ends one or skips a byte between rows.
record Follows (s : State) (mine : Place × Bool) (theirs : State × Action) : Type 0 where
  pub stands : Stands mine.0 theirs.0
  pub cuts : mine.1 ≡ true → IsBetween theirs.0
  pub goes_on : mine.1 ≡ false → is_end theirs.1 ≡ false
  pub rests : is_end theirs.1 ≡ false → IsBetween theirs.0 → IsBetween s × (theirs.1 ≡ act.Skip)

either : (s : State) (test : Bool) (m n : Place × Bool) (t u : State × Action) → Follows s m t → Follows s n u → Follows s (if test then m else n) (cond test t u)
either s true m n t u first second = first
either s false m n t u first second = second

field-begun : ¬ (IsBetween st.StartField)
field-begun (inl is) = cc is
field-begun (inr is) = cc is

inside-begun : ¬ (IsBetween st.InField)
inside-begun (inl is) = cc is
inside-begun (inr is) = cc is

quoted-begun : ¬ (IsBetween st.InQuoted)
quoted-begun (inl is) = cc is
quoted-begun (inr is) = cc is

unquoted-begun : ¬ (IsBetween st.AfterQuote)
unquoted-begun (inl is) = cc is
unquoted-begun (inr is) = cc is

follow-field-by : (s : State) (comma line_end return : Bool)
    → Follows s (if comma then (at.Field, false) else (if line_end then (at.Row, true) else (at.Inside, false))) (cond comma (st.StartField, act.EndField) (cond line_end (cond return st.AfterCr st.StartRecord, act.EndRecord) (st.InField, act.Copy)))
follow-field-by s true line_end return = record { stands = tt; cuts = λ never. absurd (cc never); goes_on = λ _. refl; rests = λ _ between. absurd (field-begun between) }
follow-field-by s false true true = record { stands = tt; cuts = λ _. inr refl; goes_on = λ never. absurd (cc never); rests = λ never _. absurd (cc never) }
follow-field-by s false true false = record { stands = tt; cuts = λ _. inl refl; goes_on = λ never. absurd (cc never); rests = λ never _. absurd (cc never) }
follow-field-by s false false return = record { stands = tt; cuts = λ never. absurd (cc never); goes_on = λ _. refl; rests = λ _ between. absurd (inside-begun between) }

follow-field : (s : State) (c : ℕ) → Follows s (place.in_field c) (in_field default_config c)
follow-field s c = follow-field-by s (c == 44) ((c == 13) || (c == 10)) (c == 13)

follow-quote : (s : State) → Follows s (at.Quoted, false) (st.InQuoted, act.Skip)
follow-quote s = record { stands = tt; cuts = λ never. absurd (cc never); goes_on = λ _. refl; rests = λ _ between. absurd (quoted-begun between) }

follow-copy : (s : State) → Follows s (at.Quoted, false) (st.InQuoted, act.Copy)
follow-copy s = record { stands = tt; cuts = λ never. absurd (cc never); goes_on = λ _. refl; rests = λ _ between. absurd (quoted-begun between) }

follow-unquote : (s : State) → Follows s (at.Unquoted, false) (st.AfterQuote, act.Skip)
follow-unquote s = record { stands = tt; cuts = λ never. absurd (cc never); goes_on = λ _. refl; rests = λ _ between. absurd (unquoted-begun between) }

follow-start : (s : State) (c : ℕ) → Follows s (place.before_field c) (start_field default_config c)
follow-start s c = either s (c == 34) (at.Quoted, false) (place.in_field c) (st.InQuoted, act.Skip) (in_field default_config c) (follow-quote s) (follow-field s c)

follow-skip : (s : State) → IsBetween s → Follows s (at.Row, true) (st.StartRecord, act.Skip)
follow-skip s between = record { stands = tt; cuts = λ _. inl refl; goes_on = λ never. absurd (cc never); rests = λ _ _. (between, refl) }

follow-row : (c : ℕ) → Follows st.StartRecord (place.before_row c) (start_record default_config c)
follow-row c =
    either st.StartRecord ((c == 13) || (c == 10)) (at.Row, true) (place.before_field c) (st.StartRecord, act.Skip) (start_field default_config c) (follow-skip st.StartRecord (inl refl)) (follow-start st.StartRecord c)

follow-return : (return feed : Bool) (m : Place × Bool) (t : State × Action) → Follows st.AfterCr m t
    → Follows st.AfterCr (if return || feed then (at.Row, true) else m) (cond feed (st.StartRecord, act.Skip) (cond (return || feed) (st.StartRecord, act.Skip) t))
follow-return true true m t others = follow-skip st.AfterCr (inr refl)
follow-return true false m t others = follow-skip st.AfterCr (inr refl)
follow-return false true m t others = follow-skip st.AfterCr (inr refl)
follow-return false false m t others = others

follow : (p : Place) (s : State) (c : ℕ) → Stands p s → Follows s (place.step p c) (step default_config s c)
follow at.Row st.StartRecord c stands = follow-row c
follow at.Row st.AfterCr c stands = follow-return (c == 13) (c == 10) (place.before_field c) (start_field default_config c) (follow-start st.AfterCr c)
follow at.Field st.StartField c stands = follow-start st.StartField c
follow at.Inside st.InField c stands = follow-field st.InField c
follow at.Quoted st.InQuoted c stands =
    either st.InQuoted (c == 34) (at.Unquoted, false) (at.Quoted, false) (st.AfterQuote, act.Skip) (st.InQuoted, act.Copy) (follow-unquote st.InQuoted) (follow-copy st.InQuoted)
follow at.Unquoted st.AfterQuote c stands =
    either st.AfterQuote (c == 34) (at.Quoted, false) (place.in_field c) (st.InQuoted, act.Copy) (in_field default_config c) (follow-copy st.AfterQuote) (follow-field st.AfterQuote c)
follow p s c stands = absurd stands

-- ---- a cut
-- between rows nothing is at hand
abbrev Clean : State → List (List ℕ) → List ℕ → Type 0
Clean s fields field = IsBetween s → (fields ≡ []) × (field ≡ [])

clean-step : (s : State) (c : ℕ) (fields : List (List ℕ)) (field : List ℕ) (mine : Place × Bool) (x : State × Action) → Follows s mine x → Clean s fields field → is_end x.1 ≡ false → Clean x.0 (fields_after x.1 fields field) (field_after x.1 c field)
clean-step s c fields field mine x follows clean goes_on = λ between. let rests = follows.rests goes_on between in rw rests.1 (clean rests.0)

same-step : (return feed : Bool) (t : State × Action) → cond feed (st.StartRecord, act.Skip) (cond (return || feed) (st.StartRecord, act.Skip) t) ≡ cond (return || feed) (st.StartRecord, act.Skip) t
same-step true true t = refl
same-step true false t = refl
same-step false true t = refl
same-step false false t = refl

return-same : (xs : List ℕ) → all st.AfterCr [] [] xs ≡ all st.StartRecord [] [] xs
return-same [] = refl
return-same (c ∷ rest) =
    ap (λ (x : State × Action). cond (is_end x.1) (fields_after x.1 [] [] ∷ all x.0 [] [] rest) (all x.0 (fields_after x.1 [] []) (field_after x.1 c []) rest))
    (same-step (c == 13) (c == 10) (start_field default_config c))

between-all : (s : State) (more : List ℕ) → IsBetween s → all s [] [] more ≡ all s [] [] [] ++ all st.StartRecord [] [] more
between-all s more (inl is) = rw is refl
between-all s more (inr is) = rw is (return-same more)

split-end : (ends : Bool) (s : State) (fields : List (List ℕ)) (field more : List ℕ) → IsBetween s → (ends ≡ false → (fields ≡ []) × (field ≡ []))
    → cond ends (fields ∷ all s [] [] more) (all s fields field more) ≡ cond ends (fields ∷ all s [] [] []) (all s fields field []) ++ all st.StartRecord [] [] more
split-end true s fields field more between clean = ap (λ records. fields ∷ records) (between-all s more between)
split-end false s fields field more between clean = let none = clean refl in rw (none.0, none.1) (between-all s more between)

split-on : (ends : Bool) (first : List (List ℕ)) (these others front back rest : List (List (List ℕ))) → these ≡ front ++ rest → (ends ≡ false → others ≡ back ++ rest)
    → cond ends (first ∷ these) others ≡ cond ends (first ∷ front) back ++ rest
split-on true first these others front back rest ended goes_on = ap (λ records. first ∷ records) ended
split-on false first these others front back rest ended goes_on = goes_on refl

pub split : (front : List ℕ) (c : ℕ) (more : List ℕ) (p : Place) (s : State) (fields : List (List ℕ)) (field : List ℕ) → Stands p s → Clean s fields field → (place.step (place.passed p front) c).1 ≡ true
    → all s fields field ((front ++ c ∷ []) ++ more) ≡ all s fields field (front ++ c ∷ []) ++ all st.StartRecord [] [] more
split [] c more p s fields field stands clean cuts =
    let x = step default_config s c in
    let follows = follow p s c stands in
    let between = follows.cuts cuts in
    split-end (is_end x.1) x.0 (fields_after x.1 fields field) (field_after x.1 c field) more between
    (λ goes_on. clean-step s c fields field (place.step p c) x follows clean goes_on between)
split (d ∷ front) c more p s fields field stands clean cuts =
    let x = step default_config s d in
    let follows = follow p s d stands in
    let fields2 = fields_after x.1 fields field in
    let field2 = field_after x.1 d field in
    split-on (is_end x.1) fields2
    (all x.0 [] [] ((front ++ c ∷ []) ++ more)) (all x.0 fields2 field2 ((front ++ c ∷ []) ++ more))
    (all x.0 [] [] (front ++ c ∷ [])) (all x.0 fields2 field2 (front ++ c ∷ [])) (all st.StartRecord [] [] more)
    (split front c more (place.step p d).0 x.0 [] [] follows.stands (λ _. (refl, refl)) cuts)
    (λ goes_on. split front c more (place.step p d).0 x.0 fields2 field2 follows.stands (clean-step s d fields field (place.step p d) x follows clean goes_on) cuts)

pub split-row : (front : List ℕ) (c : ℕ) (more : List ℕ) → (place.step (place.passed at.Row front) c).1 ≡ true
    → all st.StartRecord [] [] ((front ++ c ∷ []) ++ more) ≡ all st.StartRecord [] [] (front ++ c ∷ []) ++ all st.StartRecord [] [] more
split-row front c more cuts = split front c more at.Row st.StartRecord [] [] tt (λ _. (refl, refl)) cuts

-- ---- if no row ends, there is one at most
few-end : (ends : Bool) (fields : List (List ℕ)) → length (cond ends (fields ∷ []) []) ≤ 1
few-end true fields = omega arith
few-end false fields = omega arith

few-all : (xs : List ℕ) (p : Place) (s : State) (fields : List (List ℕ)) (field : List ℕ) → Stands p s → place.NoneEnds p xs → length (all s fields field xs) ≤ 1
few-all [] p s fields field stands none = few-end (ends_at_end s) (fields ++ (field ∷ []))
few-all (c ∷ rest) p s fields field stands none =
    let x = step default_config s c in
    let follows = follow p s c stands in
    rw (follows.goes_on none.0) (few-all rest (place.step p c).0 x.0 (fields_after x.1 fields field) (field_after x.1 c field) follows.stands none.1)

pub few-row : (xs : List ℕ) → place.NoneEnds at.Row xs → length (all st.StartRecord [] [] xs) ≤ 1
few-row xs none = few-all xs at.Row st.StartRecord [] [] tt none

-- the first byte ends none
abbrev ends_row : State × Action → Bool
ends_row x = is_end x.1

first-by : (line_end quote comma return : Bool)
    → ends_row (cond line_end (st.StartRecord, act.Skip) (cond quote (st.InQuoted, act.Skip) (cond comma (st.StartField, act.EndField) (cond line_end (cond return st.AfterCr st.StartRecord, act.EndRecord) (st.InField, act.Copy))))) ≡ false
first-by true quote comma return = refl
first-by false true comma return = refl
first-by false false true return = refl
first-by false false false return = refl

pub few-after : (c : ℕ) (xs : List ℕ) → place.NoneEnds (place.step at.Row c).0 xs → length (all st.StartRecord [] [] (c ∷ xs)) ≤ 1
few-after c xs none =
    let x = step default_config st.StartRecord c in
    let first : is_end x.1 ≡ false = first-by ((c == 13) || (c == 10)) (c == 34) (c == 44) (c == 13) in
    rw first (few-all xs (place.step at.Row c).0 x.0 (fields_after x.1 [] []) (field_after x.1 c []) (follow-row c).stands none)
