-- Filters of a range of numbers, and lists made from one.
use Rattle.std.proofs.Common.{◌≡◌, ℕ, zero, suc, ◌+◌, ◌-◌, ◌*◌, ◌%◌, ◌<◌, ◌≤◌, Bool, true, false, eqb, ltb, leb, ◌&&◌, min, max, List, [], ◌∷◌, ◌++◌, map, filter, replicate, length, Option, Some, refl, ap, ◌∙◌, arith, inl, inr}
use Rattle.std.specs.List.{range_with_len, last_or}
use Rattle.std.proofs.lemmas.Bool.{cases_lt, cases_Bool, le-leb, lt-leb, lt-ltb, le-ltb, ne_eqb, eq-eqb}

-- the numbers of a range that pass a test for being from `low` on and below `high` are a range
pub filter_between : (test : ℕ → Bool) (low high start count : ℕ) → ((k : ℕ) → start ≤ k → k < start + count → test k ≡ leb low k && ltb k high) →
    filter test (range_with_len start count) ≡ range_with_len (max start low) (min high (start + count) - max start low)
filter_between test low high start zero decides =
    let none : min high (start + 0) - max start low ≡ 0 = omega arith in
    rw none refl
filter_between test low high start (suc count) decides =
    let rest = filter_between test low high (start + 1) count (λ k from below. decides k (omega arith) (omega arith)) in
    let here = decides start (omega arith) (omega arith) in
    elim (cases_lt start low) [
      | inl too_low ↦
          let fails : test start ≡ false = rw (here, lt-leb low start too_low) refl in
          let same_start : max start low ≡ max (start + 1) low = omega arith in
          let same_end : min high (start + suc count) ≡ min high (start + 1 + count) = omega arith in
          rw (fails, same_start, same_end) rest
      | inr from_low ↦ elim (cases_lt start high) [
        | inl below_high ↦
            let holds : test start ≡ true = rw (here, le-leb low start from_low, lt-ltb start high below_high) refl in
            let at_start : max start low ≡ start = omega arith in
            let one_more : min high (start + suc count) - start ≡ suc (min high (start + 1 + count) - (start + 1)) = omega arith in
            let next : max (start + 1) low ≡ start + 1 = omega arith in
            rw (holds, at_start, one_more) (ap (λ numbers. start ∷ numbers) (rw next at rest))
        | inr from_high ↦
            let fails : test start ≡ false = rw (here, le-leb low start from_low, le-ltb start high from_high) refl in
            let none : min high (start + suc count) - max start low ≡ 0 = omega arith in
            let none_later : min high (start + 1 + count) - max (start + 1) low ≡ 0 = omega arith in
            rw (fails, none) (rw none_later at rest)
      ]
    ]

-- numbers at the front that fail a test leave the filter as it is
pub filter_behind : (test : ℕ → Bool) (start skipped count : ℕ) → ((k : ℕ) → start ≤ k → k < start + skipped → test k ≡ false) →
    filter test (range_with_len start (skipped + count)) ≡ filter test (range_with_len (start + skipped) count)
filter_behind test start zero count fails =
    let same_start : start + 0 ≡ start = omega arith in
    let same_count : zero + count ≡ count = omega arith in
    rw (same_start, same_count) refl
filter_behind test start (suc skipped) count fails =
    let here = fails start (omega arith) (omega arith) in
    let one_more : suc skipped + count ≡ suc (skipped + count) = omega arith in
    let next : start + suc skipped ≡ start + 1 + skipped = omega arith in
    rw (one_more, next, here) (filter_behind test (start + 1) skipped count (λ k from below. fails k (omega arith) (omega arith)))

-- every sixth number, if a range begins at a multiple of six
pub filter_sixths : (rest start count : ℕ) → rest < 6 →
    filter (λ k. eqb (k % 6) rest) (range_with_len (6 * start) (6 * count)) ≡ map (λ k. 6 * k + rest) (range_with_len start count)
filter_sixths rest start zero small = refl
filter_sixths rest start (suc count) small =
    let test : ℕ → Bool = λ k. eqb (k % 6) rest in
    let split : 6 * suc count ≡ rest + suc ((5 - rest) + 6 * count) = omega arith in
    let before = filter_behind test (6 * start) rest (suc ((5 - rest) + 6 * count)) (λ k from below. ne_eqb (k % 6) rest (λ e. omega arith)) in
    let holds : test (6 * start + rest) ≡ true = eq-eqb ((6 * start + rest) % 6) rest (omega arith) in
    let behind = filter_behind test (6 * start + rest + 1) (5 - rest) (6 * count) (λ k from below. ne_eqb (k % 6) rest (λ e. omega arith)) in
    let next : 6 * start + rest + 1 + (5 - rest) ≡ 6 * (start + 1) = omega arith in
    rw split (before ∙ rw holds (ap (λ numbers. (6 * start + rest) ∷ numbers) (behind ∙ rw next (filter_sixths rest (start + 1) count small))))

pub map_map : {X Y Z : Type 0} (g : Y → Z) (f : X → Y) (items : List X) → map g (map f items) ≡ map (λ x. g (f x)) items
map_map g f [] = refl
map_map g f (x ∷ items) = ap (λ rest. g (f x) ∷ rest) (map_map g f items)

pub filter_map : {X Y : Type 0} (test : Y → Bool) (f : X → Y) (items : List X) → filter test (map f items) ≡ map f (filter (λ x. test (f x)) items)
filter_map test f [] = refl
filter_map test f (x ∷ items) = elim (cases_Bool (test (f x))) [
  | inl holds ↦ rw holds (ap (λ rest. f x ∷ rest) (filter_map test f items))
  | inr fails ↦ rw fails (filter_map test f items)
]

pub last_of_range : {X : Type 0} (f : ℕ → X) (before : Option X) (start count : ℕ) → last_or before (map f (range_with_len start (count + 1))) ≡ Some (f (start + count))
last_of_range f before start zero =
    let same : start + 0 ≡ start = omega arith in
    rw same refl
last_of_range f before start (suc count) =
    let one_more : suc count + 1 ≡ suc (count + 1) = omega arith in
    let next : start + suc count ≡ start + 1 + count = omega arith in
    rw (one_more, next) (last_of_range f (Some (f start)) (start + 1) count)

pub map_constant : (f : ℕ → ℕ) (value start count : ℕ) → ((k : ℕ) → start ≤ k → k < start + count → f k ≡ value) → map f (range_with_len start count) ≡ replicate count value
map_constant f value start zero same = refl
map_constant f value start (suc count) same =
    let here = same start (omega arith) (omega arith) in
    rw here (ap (λ rest. value ∷ rest) (map_constant f value (start + 1) count (λ k from below. same k (omega arith) (omega arith))))

-- zeros, then one value, and from then on another
pub map_in_three : (f : ℕ → ℕ) (value later start skipped rest : ℕ) → ((k : ℕ) → start ≤ k → k < start + skipped → f k ≡ 0) → f (start + skipped) ≡ value → ((k : ℕ) → start + skipped < k → f k ≡ later) →
    map f (range_with_len start (skipped + suc rest)) ≡ replicate skipped 0 ++ value ∷ replicate rest later
map_in_three f value later start zero rest zeros here after =
    let same_start : start + 0 ≡ start = omega arith in
    let first : f start ≡ value = rw same_start at here in
    let same_count : 0 + suc rest ≡ suc rest = omega arith in
    rw (same_count, first) (ap (λ tail. value ∷ tail) (map_constant f later (start + 1) rest (λ k from below. after k (omega arith))))
map_in_three f value later start (suc skipped) rest zeros here after =
    let one_more : suc skipped + suc rest ≡ suc (skipped + suc rest) = omega arith in
    let next : start + suc skipped ≡ start + 1 + skipped = omega arith in
    let first = zeros start (omega arith) (omega arith) in
    rw (one_more, first) (ap (λ tail. 0 ∷ tail) (map_in_three f value later (start + 1) skipped rest (λ k from below. zeros k (omega arith) (omega arith)) (rw next at here) (λ k from. after k (omega arith))))

pub map_zero : {X : Type 0} (items : List X) → map {B = ℕ} (λ x. 0) items ≡ replicate (length items) 0
map_zero [] = refl
map_zero (x ∷ items) = ap (λ rest. 0 ∷ rest) (map_zero items)
