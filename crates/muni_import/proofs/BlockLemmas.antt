-- Texts that are cut off after a row.
use Rattle.std.proofs.Common.{◌≡◌, ◌≤◌, ◌+◌, ◌⊎◌, ◌==◌, ◌∙◌, ℕ, zero, suc, List, [], ◌∷◌, ◌++◌, length, take, drop, map, Bool, true, false, refl, sym, ap, ap₂, subst, inl, inr, arith}
use Rattle.std.specs.Prelude.{if◌then◌else◌}
use Rattle.std.proofs.lemmas.Bool.Decides.{nat_tests}
use Rattle.std.proofs.lemmas.List.{append_assoc, append-nil, length-append, length-map, map-append}
use Rattle.csv.specs.Reading.{strip_bom}
use Rattle.csv.specs.declared.parser.State.TheVariants as st
use Rattle.muni_import.specs.Blocks.{CutsOff, CutsRecords, IsBegun, IsHeld}
use Rattle.muni_import.specs.Places as place
use Rattle.muni_import.specs.Places.{EndsLast, NoneEnds, Passes, passed}
use Rattle.muni_import.specs.Row.{row_of}
use Rattle.muni_import.specs.Rows.{records_of, rows_of}
use Rattle.muni_import.specs.declared.place.Place.{Place}
use Rattle.muni_import.specs.declared.place.Place.TheVariants as at
use Rattle.muni_import.proofs.RecordLemmas.{all, records-all, split-row, few-row, few-after}

-- ---- passing over bytes
passed-append : (p : Place) (xs ys : List ℕ) → passed p (xs ++ ys) ≡ passed (passed p xs) ys
passed-append p [] ys = refl
passed-append p (x ∷ xs) ys = passed-append (place.step p x).0 xs ys

none-append : (p : Place) (xs ys : List ℕ) → NoneEnds p xs → NoneEnds (passed p xs) ys → NoneEnds p (xs ++ ys)
none-append p [] ys first second = second
none-append p (x ∷ xs) ys first second = (first.0, none-append (place.step p x).0 xs ys first.1 second)

pub passes-none : (from : Place) → Passes from [] 0 from
passes-none from = record { whole = []; begun = []; joined = refl; counted = refl; ended = inl refl; none_more = tt; stands = refl }

passes-by : (from to : Place) (bytes : List ℕ) (c end here : ℕ) (test : Bool) → (place.step to c).1 ≡ test → Passes from bytes end to → here ≡ length bytes + 1
    → Passes from (bytes ++ c ∷ []) (if test then here else end) (place.step to c).0
passes-by from to bytes c end here true is passes counts = record {
  whole = bytes ++ c ∷ [];
  begun = [];
  joined = sym (append-nil (bytes ++ c ∷ []));
  counted = omega (arith, counts, length-append bytes (c ∷ []));
  ended = inr (record { front = bytes; byte = c; joined = refl; is_end = subst (λ p. (place.step p c).1 ≡ true) passes.stands is });
  none_more = tt;
  stands = ap (λ p. (place.step p c).0) passes.stands ∙ sym (passed-append from bytes (c ∷ []));
}
passes-by from to bytes c end here false is passes counts =
    let there : to ≡ passed (passed from passes.whole) passes.begun = passes.stands ∙ ap (passed from) passes.joined ∙ passed-append from passes.whole passes.begun in
    record {
      whole = passes.whole;
      begun = passes.begun ++ c ∷ [];
      joined = ap (λ l. l ++ c ∷ []) passes.joined ∙ append_assoc passes.whole passes.begun (c ∷ []);
      counted = passes.counted;
      ended = passes.ended;
      none_more = none-append (passed from passes.whole) passes.begun (c ∷ []) passes.none_more (subst (λ p. (place.step p c).1 ≡ false) there is, tt);
      stands = ap (λ p. (place.step p c).0) passes.stands ∙ sym (passed-append from bytes (c ∷ []));
    }

pub passes-then : (from to : Place) (bytes : List ℕ) (c end here : ℕ) → Passes from bytes end to → here ≡ length bytes + 1
    → Passes from (bytes ++ c ∷ []) (if (place.step to c).1 then here else end) (place.step to c).0
passes-then from to bytes c end here passes counts = passes-by from to bytes c end here (place.step to c).1 refl passes counts

-- ---- a mark of the byte order
unmarked : (byte : ℕ) (text : List ℕ) → (byte == 0xEF) ≡ false → strip_bom (byte ∷ text) ≡ byte ∷ text
unfolding strip_bom
unmarked byte [] other = refl
unmarked byte (b ∷ []) other = refl
unmarked byte (b ∷ c ∷ text) other = rw other refl

unmarked-two : (byte : ℕ) (text : List ℕ) → (byte == 0xBB) ≡ false → strip_bom (0xEF ∷ byte ∷ text) ≡ 0xEF ∷ byte ∷ text
unfolding strip_bom
unmarked-two byte [] other = refl
unmarked-two byte (c ∷ text) other = rw other refl

unmarked-three : (byte : ℕ) (text : List ℕ) → (byte == 0xBF) ≡ false → strip_bom (0xEF ∷ 0xBB ∷ byte ∷ text) ≡ 0xEF ∷ 0xBB ∷ byte ∷ text
unfolding strip_bom
unmarked-three byte text other = rw other refl

same-byte : (b n : ℕ) → (b == n) ≡ true → b ≡ n
same-byte b n is = grind (arith, nat_tests, is)

-- a text that ends with a row, without the mark
record Opens (front : List ℕ) (c : ℕ) : Type 0 where
  pub rest : List ℕ
  pub cuts : (place.step (passed at.Row rest) c).1 ≡ true
  pub stripped : (more : List ℕ) → strip_bom ((front ++ c ∷ []) ++ more) ≡ (rest ++ c ∷ []) ++ more

third-none : (c : ℕ) (marks : Bool) → (c == 0xBF) ≡ marks → (place.by_mark marks at.Row c).1 ≡ true → Opens (0xEF ∷ 0xBB ∷ []) c
third-none c true is cuts = absurd (cc cuts)
third-none c false is cuts = record { rest = 0xEF ∷ 0xBB ∷ []; cuts = cuts; stripped = λ more. unmarked-three c more is }

third-more : (d : ℕ) (front : List ℕ) (c : ℕ) (marks : Bool) → (d == 0xBF) ≡ marks → (place.step (passed (place.by_mark marks at.Row d).0 front) c).1 ≡ true → Opens (0xEF ∷ 0xBB ∷ d ∷ front) c
unfolding strip_bom
third-more d front c true is cuts =
    subst (λ d. Opens (0xEF ∷ 0xBB ∷ d ∷ front) c) (sym (same-byte d 0xBF is)) (record { rest = front; cuts = cuts; stripped = λ more. refl })
third-more d front c false is cuts = record { rest = 0xEF ∷ 0xBB ∷ d ∷ front; cuts = cuts; stripped = λ more. unmarked-three d ((front ++ c ∷ []) ++ more) is }

third : (front : List ℕ) (c : ℕ) → (place.step (passed at.AfterTwo front) c).1 ≡ true → Opens (0xEF ∷ 0xBB ∷ front) c
third [] c cuts = third-none c (c == 0xBF) refl cuts
third (d ∷ front) c cuts = third-more d front c (d == 0xBF) refl cuts

second-none : (c : ℕ) (marks : Bool) → (c == 0xBB) ≡ marks → (place.by_mark marks at.AfterTwo c).1 ≡ true → Opens (0xEF ∷ []) c
second-none c true is cuts = absurd (cc cuts)
second-none c false is cuts = record { rest = 0xEF ∷ []; cuts = cuts; stripped = λ more. unmarked-two c more is }

second-more : (d : ℕ) (front : List ℕ) (c : ℕ) (marks : Bool) → (d == 0xBB) ≡ marks → (place.step (passed (place.by_mark marks at.AfterTwo d).0 front) c).1 ≡ true → Opens (0xEF ∷ d ∷ front) c
second-more d front c true is cuts = subst (λ d. Opens (0xEF ∷ d ∷ front) c) (sym (same-byte d 0xBB is)) (third front c cuts)
second-more d front c false is cuts = record { rest = 0xEF ∷ d ∷ front; cuts = cuts; stripped = λ more. unmarked-two d ((front ++ c ∷ []) ++ more) is }

second : (front : List ℕ) (c : ℕ) → (place.step (passed at.AfterOne front) c).1 ≡ true → Opens (0xEF ∷ front) c
second [] c cuts = second-none c (c == 0xBB) refl cuts
second (d ∷ front) c cuts = second-more d front c (d == 0xBB) refl cuts

first-none : (c : ℕ) (marks : Bool) → (c == 0xEF) ≡ marks → (if marks then (at.AfterOne, false) else place.before_row c).1 ≡ true → Opens [] c
first-none c true is cuts = absurd (cc cuts)
first-none c false is cuts = record { rest = []; cuts = cuts; stripped = λ more. unmarked c more is }

first-more : (d : ℕ) (front : List ℕ) (c : ℕ) (marks : Bool) → (d == 0xEF) ≡ marks → (place.step (passed (if marks then (at.AfterOne, false) else place.before_row d).0 front) c).1 ≡ true → Opens (d ∷ front) c
first-more d front c true is cuts = subst (λ d. Opens (d ∷ front) c) (sym (same-byte d 0xEF is)) (second front c cuts)
first-more d front c false is cuts = record { rest = d ∷ front; cuts = cuts; stripped = λ more. unmarked d ((front ++ c ∷ []) ++ more) is }

opens : (front : List ℕ) (c : ℕ) → (place.step (passed at.Start front) c).1 ≡ true → Opens front c
opens [] c cuts = first-none c (c == 0xEF) refl cuts
opens (d ∷ front) c cuts = first-more d front c (d == 0xEF) refl cuts

-- ---- the rows of a text that is cut
without-mark : (text bytes : List ℕ) → strip_bom text ≡ bytes → records_of text ≡ all st.StartRecord [] [] bytes
without-mark text bytes is = records-all text ∙ ap (λ bytes. all st.StartRecord [] [] bytes) is

rows-behind : (more : List ℕ) → records_of (10 ∷ more) ≡ all st.StartRecord [] [] more
rows-behind more = without-mark (10 ∷ more) (10 ∷ more) (unmarked 10 more refl)

cut : (front : List ℕ) (c : ℕ) (more : List ℕ) → (place.step (passed at.Start front) c).1 ≡ true → records_of ((front ++ c ∷ []) ++ more) ≡ records_of (front ++ c ∷ []) ++ records_of (10 ∷ more)
cut front c more cuts =
    let open_text = opens front c cuts in
    let block = open_text.rest ++ c ∷ [] in
    let stripped : strip_bom (front ++ c ∷ []) ≡ block = ap strip_bom (sym (append-nil (front ++ c ∷ []))) ∙ open_text.stripped [] ∙ append-nil block in
    without-mark ((front ++ c ∷ []) ++ more) (block ++ more) (open_text.stripped more)
    ∙ split-row open_text.rest c more open_text.cuts
    ∙ ap₂ (λ (a b : List _). a ++ b) (sym (without-mark (front ++ c ∷ []) block stripped)) (sym (rows-behind more))

-- ---- the rows of a text that is held
few-by : (text bytes : List ℕ) → strip_bom text ≡ bytes → length (all st.StartRecord [] [] bytes) ≤ 1 → length (records_of text) ≤ 1
few-by text bytes is few = omega (arith, few, ap length (without-mark text bytes is))

few-third : (rest : List ℕ) → NoneEnds at.AfterTwo rest → length (records_of (0xEF ∷ 0xBB ∷ rest)) ≤ 1
unfolding strip_bom
few-third [] none = few-by (0xEF ∷ 0xBB ∷ []) (0xEF ∷ 0xBB ∷ []) refl (few-row (0xEF ∷ 0xBB ∷ []) (refl, (refl, tt)))
few-third (c ∷ rest) none = by (c == 0xBF) refl none
  where
    by : (marks : Bool) → (c == 0xBF) ≡ marks → ((place.by_mark marks at.Row c).1 ≡ false) × NoneEnds (place.by_mark marks at.Row c).0 rest → length (records_of (0xEF ∷ 0xBB ∷ c ∷ rest)) ≤ 1
    by true is none =
        subst (λ c. length (records_of (0xEF ∷ 0xBB ∷ c ∷ rest)) ≤ 1) (sym (same-byte c 0xBF is)) (few-by (0xEF ∷ 0xBB ∷ 0xBF ∷ rest) rest refl (few-row rest none.1))
    by false is none =
        few-by (0xEF ∷ 0xBB ∷ c ∷ rest) (0xEF ∷ 0xBB ∷ c ∷ rest) (unmarked-three c rest is) (few-row (0xEF ∷ 0xBB ∷ c ∷ rest) (refl, (refl, none)))

few-second : (rest : List ℕ) → NoneEnds at.AfterOne rest → length (records_of (0xEF ∷ rest)) ≤ 1
unfolding strip_bom
few-second [] none = few-by (0xEF ∷ []) (0xEF ∷ []) refl (few-row (0xEF ∷ []) (refl, tt))
few-second (c ∷ rest) none = by (c == 0xBB) refl none
  where
    by : (marks : Bool) → (c == 0xBB) ≡ marks → ((place.by_mark marks at.AfterTwo c).1 ≡ false) × NoneEnds (place.by_mark marks at.AfterTwo c).0 rest → length (records_of (0xEF ∷ c ∷ rest)) ≤ 1
    by true is none = subst (λ c. length (records_of (0xEF ∷ c ∷ rest)) ≤ 1) (sym (same-byte c 0xBB is)) (few-third rest none.1)
    by false is none = few-by (0xEF ∷ c ∷ rest) (0xEF ∷ c ∷ rest) (unmarked-two c rest is) (few-row (0xEF ∷ c ∷ rest) (refl, none))

pub few-held : (held : List ℕ) → IsBegun held → length (records_of held) ≤ 1
unfolding strip_bom
few-held [] begun = few-by [] [] refl (few-row [] tt)
few-held (c ∷ rest) begun = by (c == 0xEF) refl begun
  where
    by : (marks : Bool) → (c == 0xEF) ≡ marks → NoneEnds (if marks then (at.AfterOne, false) else place.before_row c).0 rest → length (records_of (c ∷ rest)) ≤ 1
    by true is none = subst (λ c. length (records_of (c ∷ rest)) ≤ 1) (sym (same-byte c 0xEF is)) (few-second rest none)
    by false is none = few-by (c ∷ rest) (c ∷ rest) (unmarked c rest is) (few-after c rest none)

begun-start : (xs : List ℕ) → NoneEnds at.Start xs → IsBegun xs
begun-start [] none = tt
begun-start (x ∷ xs) none = none.1

begun-append : (held xs : List ℕ) → IsBegun held → NoneEnds (passed at.Start held) xs → IsBegun (held ++ xs)
begun-append [] xs begun none = begun-start xs none
begun-append (c ∷ held) xs begun none = none-append (place.step at.Start c).0 held xs begun none

-- ---- a piece more
-- if no row ends in it, it is held
no-bytes : (xs : List ℕ) → length xs ≡ 0 → xs ≡ []
no-bytes [] is = refl
no-bytes (x ∷ xs) is = absurd (omega (arith, is))

whole-piece : (from to : Place) (piece : List ℕ) (end : ℕ) → end ≡ 0 → Passes from piece end to → NoneEnds from piece
whole-piece from to piece end none passes =
    let nothing = no-bytes passes.whole (passes.counted ∙ none) in
    let same : piece ≡ passes.begun = passes.joined ∙ ap (λ l. l ++ passes.begun) nothing in
    subst (NoneEnds from) (sym same) (subst (λ l. NoneEnds (passed from l) passes.begun) nothing passes.none_more)

pub held-more : (p to : Place) (held piece : List ℕ) (end : ℕ) → end ≡ 0 → IsHeld p held → Passes p piece end to → IsHeld to (held ++ piece)
held-more p to held piece end none is passes = record {
  stands = passes.stands ∙ ap (λ p. passed p piece) is.stands ∙ sym (passed-append at.Start held piece);
  begun = begun-append held piece is.begun (subst (λ p. NoneEnds p piece) is.stands (whole-piece p to piece end none passes));
}

no-rows : records_of [] ≡ []
unfolding strip_bom
no-rows = records-all []

pub none-cut : (p : Place) (text : List ℕ) → IsHeld p text → CutsRecords text [] text
none-cut p text is = record { records = λ more. ap (λ l. l ++ records_of (text ++ more)) (sym no-rows); few = few-held text is.begun }

-- else the text is cut off after the last, and the next row is before it
abbrev CutsToRow : Place × Bool → Type 0
CutsToRow x = x.1 ≡ true → x.0 ≡ at.Row

either-row : (test : Bool) (m n : Place × Bool) → CutsToRow m → CutsToRow n → CutsToRow (if test then m else n)
either-row true m n first second = first
either-row false m n first second = second

goes-on : (p : Place) → CutsToRow (p, false)
goes-on p = λ never. absurd (cc never)

line-end : CutsToRow (at.Row, true)
line-end = λ _. refl

field-row : (c : ℕ) → CutsToRow (place.in_field c)
field-row c =
    either-row (c == 44) (at.Field, false) (if place.is_line_end c then (at.Row, true) else (at.Inside, false)) (goes-on at.Field)
    (either-row (place.is_line_end c) (at.Row, true) (at.Inside, false) line-end (goes-on at.Inside))

start-row : (c : ℕ) → CutsToRow (place.before_field c)
start-row c = either-row (c == 34) (at.Quoted, false) (place.in_field c) (goes-on at.Quoted) (field-row c)

row-row : (c : ℕ) → CutsToRow (place.before_row c)
row-row c = either-row (place.is_line_end c) (at.Row, true) (place.before_field c) line-end (start-row c)

step-row : (p : Place) (c : ℕ) → CutsToRow (place.step p c)
step-row at.Start c = either-row (c == 0xEF) (at.AfterOne, false) (place.before_row c) (goes-on at.AfterOne) (row-row c)
step-row at.AfterOne c = either-row (c == 0xBB) (at.AfterTwo, false) (place.in_field c) (goes-on at.AfterTwo) (field-row c)
step-row at.AfterTwo c = either-row (c == 0xBF) (at.Row, false) (place.in_field c) (goes-on at.Row) (field-row c)
step-row at.Row c = row-row c
step-row at.Field c = start-row c
step-row at.Inside c = field-row c
step-row at.Quoted c = either-row (c == 34) (at.Unquoted, false) (at.Quoted, false) (goes-on at.Unquoted) (goes-on at.Quoted)
step-row at.Unquoted c = either-row (c == 34) (at.Quoted, false) (place.in_field c) (goes-on at.Quoted) (field-row c)

after-last : (from : Place) (whole : List ℕ) → EndsLast from whole → passed from whole ≡ at.Row
after-last from whole last =
    ap (passed from) last.joined ∙ passed-append from last.front (last.byte ∷ []) ∙ step-row (passed from last.front) last.byte last.is_end

ended-last : (from : Place) (whole : List ℕ) (end : ℕ) → ¬ (end ≡ 0) → (end ≡ 0) ⊎ EndsLast from whole → EndsLast from whole
ended-last from whole end some (inl none) = absurd (some none)
ended-last from whole end some (inr last) = last

-- the bytes up to the last end, and those after it
front-of : (xs ys zs : List ℕ) (end : ℕ) → zs ≡ xs ++ ys → length xs ≡ end → (take end zs ≡ xs) × (drop end zs ≡ ys)
front-of [] ys zs end is counts = rw (is, sym counts) (refl, refl)
front-of (x ∷ xs) ys zs zero is counts = absurd (omega (arith, counts))
front-of (x ∷ xs) ys zs (suc end) is counts =
    let rest = front-of xs ys (xs ++ ys) end refl (omega (arith, counts)) in
    rw is (ap (λ l. x ∷ l) rest.0, rest.1)

pub held-behind : (p to : Place) (held piece : List ℕ) (end : ℕ) → ¬ (end ≡ 0) → Passes p piece end to → IsHeld to (10 ∷ drop end piece)
held-behind p to held piece end some passes =
    let last = ended-last p passes.whole end some passes.ended in
    let row = after-last p passes.whole last in
    let begun = (front-of passes.whole passes.begun piece end passes.joined passes.counted).1 in
    rw begun record {
      stands = passes.stands ∙ ap (passed p) passes.joined ∙ passed-append p passes.whole passes.begun ∙ ap (λ p. passed p passes.begun) row;
      begun = subst (λ p. NoneEnds p passes.begun) row passes.none_more;
    }

pub cut-off : (p to : Place) (held piece : List ℕ) (end : ℕ) → ¬ (end ≡ 0) → IsHeld p held → Passes p piece end to → CutsRecords (held ++ piece) (held ++ take end piece) (10 ∷ drop end piece)
cut-off p to held piece end some is passes =
    let last = ended-last p passes.whole end some passes.ended in
    let parts = front-of passes.whole passes.begun piece end passes.joined passes.counted in
    let front = held ++ last.front in
    let block : held ++ passes.whole ≡ front ++ last.byte ∷ [] = ap (λ l. held ++ l) last.joined ∙ sym (append_assoc held last.front (last.byte ∷ [])) in
    let text : held ++ piece ≡ (front ++ last.byte ∷ []) ++ passes.begun = ap (λ l. held ++ l) passes.joined ∙ sym (append_assoc held passes.whole passes.begun) ∙ ap (λ l. l ++ passes.begun) block in
    let there : passed at.Start front ≡ passed p last.front = passed-append at.Start held last.front ∙ ap (λ p. passed p last.front) (sym is.stands) in
    let cuts : (place.step (passed at.Start front) last.byte).1 ≡ true = ap (λ p. (place.step p last.byte).1) there ∙ last.is_end in
    let new = held-behind p to held piece end some passes in
    record {
      records = λ more.
          ap (λ l. records_of (l ++ more)) text
          ∙ ap records_of (append_assoc (front ++ last.byte ∷ []) passes.begun more)
          ∙ cut front last.byte (passes.begun ++ more) cuts
          ∙ ap₂ (λ (a b : List ℕ). records_of a ++ records_of (10 ∷ (b ++ more))) (sym block ∙ ap (λ l. held ++ l) (sym parts.0)) (sym parts.1);
      few = few-held (10 ∷ drop end piece) new.begun;
    }

-- where the records are cut, the rows are
pub cuts-rows : (text block held : List ℕ) → CutsRecords text block held → CutsOff text block held
unfolding rows_of
cuts-rows text block held cuts = record {
  rows = λ more. ap (map row_of) (cuts.records more) ∙ map-append row_of (records_of block) (records_of (held ++ more));
  few = omega (arith, cuts.few, length-map (records_of held) row_of);
}
