-- The first letters of two names, as numbers.
use Rattle.std.proofs.Common.{◌≡◌, ◌≢◌, ℕ, suc, ◌+◌, ◌*◌, ◌^◌, ◌<◌, ◌≤◌, List, [], ◌∷◌, ◌++◌, length, take, drop, refl, sym, ap, ◌∙◌, arith}
use Prim.Native.Nat.{zero}
use Rattle.std.specs.Prelude.{slice_index, replicate}
use Rattle.std.specs.Int.{w64, from_be_bytes}
use Rattle.std.specs.Ordering.{nat_cmp, ordering_then}
use Rattle.std.specs.declared.cmp.Ordering.TheVariants.{Less, Greater}
use Rattle.std.specs.Cmp.Lexicographic.{slice_cmp}
use Rattle.std.proofs.Math.Nat.{mul-le-mul_right, suc-mul, pow-suc}
use Rattle.std.proofs.Math.Seq.{drop-append_seam}
use Rattle.std.proofs.lemmas.List.{drop-replicate}
use Rattle.std.proofs.lemmas.Bool.Decides.{nat_tests}
use Rattle.std.proofs.lemmas.Cmp.{ranked, by_ranked}
use Rattle.muni_msg.specs.Letters.{front, IsPadded}

abbrev pub AreBytes : List ℕ → Type 0
AreBytes xs = (place : ℕ) → slice_index xs place < 256

less_is : (m n : ℕ) → m < n → nat_cmp m n ≡ Less
less_is m n less = grind (arith, nat_tests)

greater_is : (m n : ℕ) → n < m → nat_cmp m n ≡ Greater
greater_is m n greater = grind (arith, nat_tests)

same_offset : (k m n : ℕ) → nat_cmp (k + m) (k + n) ≡ nat_cmp m n
same_offset k m n = grind (arith, nat_tests)

tail_bytes : (x : ℕ) (xs : List ℕ) → AreBytes (x ∷ xs) → AreBytes xs
tail_bytes x xs bytes = λ place. bytes (suc place)

pub taken_bytes : (n : ℕ) (xs : List ℕ) → AreBytes xs → AreBytes (take n xs)
taken_bytes zero xs bytes place = omega arith
taken_bytes (suc n) [] bytes place = omega arith
taken_bytes (suc n) (x ∷ xs) bytes zero = bytes 0
taken_bytes (suc n) (x ∷ xs) bytes (suc place) = taken_bytes n xs (tail_bytes x xs bytes) place

-- a letter and what follows it are below the next power
digit_below : (x rest scale : ℕ) → x < 256 → rest < scale → x * scale + rest < scale * 256
digit_below x rest scale small below =
    let most : suc x * scale ≤ 256 * scale = mul-le-mul_right scale (omega arith) in
    let more : suc x * scale ≡ x * scale + scale = suc-mul x scale in
    omega arith

front_below : (n : ℕ) (xs : List ℕ) → AreBytes xs → front n xs < 256 ^ n
front_below zero xs bytes = omega arith
front_below (suc n) [] bytes =
    let rest : front n [] < 256 ^ n = front_below n [] bytes in
    rw (pow-suc 256 n) (omega arith)
front_below (suc n) (x ∷ xs) bytes =
    rw (pow-suc 256 n) (digit_below x (front n xs) (256 ^ n) (bytes 0) (front_below n xs (tail_bytes x xs bytes)))

-- a greater first letter outweighs what follows
digit_less : (x y p q scale : ℕ) → x < y → p < scale → x * scale + p < y * scale + q
digit_less x y p q scale less below =
    let most : suc x * scale ≤ y * scale = mul-le-mul_right scale less in
    let more : suc x * scale ≡ x * scale + scale = suc-mul x scale in
    omega arith

zeros : (n k : ℕ) → front n (replicate k 0) ≡ 0
zeros zero k = refl
zeros (suc n) zero = refl
zeros (suc n) (suc k) =
    let rest : front n (replicate k 0) ≡ 0 = zeros n k in
    omega arith

-- zeros after the letters change nothing
pub front-padded : (n : ℕ) (xs : List ℕ) (k : ℕ) → front n (xs ++ replicate k 0) ≡ front n xs
front-padded zero xs k = refl
front-padded (suc n) [] k = zeros (suc n) k
front-padded (suc n) (x ∷ xs) k = ap (λ (rest : ℕ). x * 256 ^ n + rest) (front-padded n xs k)

-- eight bytes, read as a number
pub front_read : (xs : List ℕ) → 8 ≤ length xs
    → from_be_bytes w64 (slice_index xs 0 ∷ slice_index xs 1 ∷ slice_index xs 2 ∷ slice_index xs 3 ∷ slice_index xs 4 ∷ slice_index xs 5 ∷ slice_index xs 6 ∷ slice_index xs 7 ∷ []) ≡ front 8 xs
front_read [] long = absurd (omega arith)
front_read (a ∷ []) long = absurd (omega arith)
front_read (a ∷ b ∷ []) long = absurd (omega arith)
front_read (a ∷ b ∷ c ∷ []) long = absurd (omega arith)
front_read (a ∷ b ∷ c ∷ d ∷ []) long = absurd (omega arith)
front_read (a ∷ b ∷ c ∷ d ∷ e ∷ []) long = absurd (omega arith)
front_read (a ∷ b ∷ c ∷ d ∷ e ∷ f ∷ []) long = absurd (omega arith)
front_read (a ∷ b ∷ c ∷ d ∷ e ∷ f ∷ g ∷ []) long = absurd (omega arith)
front_read (a ∷ b ∷ c ∷ d ∷ e ∷ f ∷ g ∷ h ∷ xs) long = omega arith

-- fronts that differ decide
pub fronts_decide : (n : ℕ) (xs ys : List ℕ) → AreBytes xs → AreBytes ys → front n xs ≢ front n ys → nat_cmp (front n xs) (front n ys) ≡ slice_cmp nat_cmp xs ys
fronts_decide zero xs ys p q apart = absurd (apart refl)
fronts_decide (suc n) [] [] p q apart = absurd (apart refl)
fronts_decide (suc n) [] (y ∷ ys) p q apart = less_is 0 (front (suc n) (y ∷ ys)) (omega arith)
fronts_decide (suc n) (x ∷ xs) [] p q apart = greater_is (front (suc n) (x ∷ xs)) 0 (omega arith)
fronts_decide (suc n) (x ∷ xs) (y ∷ ys) p q apart =
    let scale = 256 ^ n in
    let a = front n xs in
    let b = front n ys in
    let rest = slice_cmp nat_cmp xs ys in
    let xs_below = front_below n xs (tail_bytes x xs p) in
    let ys_below = front_below n ys (tail_bytes y ys q) in
    by_ranked (x < y) (x ≡ y) (y < x) (nat_cmp x y) (ranked x y (nat_cmp x y) refl)
    (λ is less. less_is _ _ (digit_less x y a b scale less xs_below) ∙ ap (λ o. ordering_then o rest) (sym is))
    (λ is same.
    ap (λ y. nat_cmp (x * scale + a) (y * scale + b)) (sym same) ∙ same_offset (x * scale) a b
    ∙ fronts_decide n xs ys (tail_bytes x xs p) (tail_bytes y ys q) (λ equal. apart (ap (λ y. y * 256 ^ n + front n xs) same ∙ ap (λ rest. y * 256 ^ n + rest) equal))
    ∙ ap (λ o. ordering_then o rest) (sym is))
    (λ is greater. greater_is _ _ (digit_less y x b a scale greater ys_below) ∙ ap (λ o. ordering_then o rest) (sym is))

-- letters in an array of zeros
pub padded_is : (most : ℕ) (text : List ℕ) → 8 ≤ most → most < 256 → length text ≤ most → IsPadded most (text ++ drop (length text) (replicate most 0)) (length text)
padded_is most text wide narrow fits = record {
  wide = wide;
  narrow = narrow;
  fits = fits;
  zeros = drop-append_seam text (drop (length text) (replicate most 0)) ∙ drop-replicate (length text) most 0;
}
