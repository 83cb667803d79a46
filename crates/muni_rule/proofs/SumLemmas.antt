-- The sum of the payments to come: from its first payment on, at a yield of zero, and of equal payments.
use Rattle.std.proofs.Common.{◌≡◌, ℕ, suc, zero, ◌+◌, ◌-◌, ◌*◌, ◌^◌, ◌<◌, ◌≤◌, refl, sym, ap, ◌∙◌, subst, arith}
use Rattle.std.proofs.Math.Nat.{pow-suc, pow-zero, mul-pos}
use Rattle.std.proofs.lemmas.Nat.{pow-add}
use Rattle.muni_rule.specs.ManyPeriods.{sum_to, discounted_sum}
use Rattle.muni_rule.proofs.PowerLemmas.{pow-one, pow-two}

pub sum_to-more : (g : ℕ → ℕ) (n : ℕ) → sum_to g (suc n) ≡ sum_to g n + g n
unfolding sum_to
sum_to-more g n = refl

pub sum_to-none : (g : ℕ → ℕ) → sum_to g 0 ≡ 0
unfolding sum_to
sum_to-none g = refl

-- equal members make equal sums
pub sum_to-same : (f g : ℕ → ℕ) (n : ℕ) → ((k : ℕ) → k < n → f k ≡ g k) → sum_to f n ≡ sum_to g n
unfolding sum_to
sum_to-same f g zero same = refl
sum_to-same f g (suc n) same =
    let rest : sum_to f n ≡ sum_to g n = sum_to-same f g n (λ k less. same k (omega arith)) in
    let last : f n ≡ g n = same n (omega arith) in
    rw (rest, last) refl

-- the first member apart
sum_to-front : (f : ℕ → ℕ) (n : ℕ) → sum_to f (suc n) ≡ f 0 + sum_to (λ k. f (suc k)) n
unfolding sum_to
sum_to-front f zero = omega arith
sum_to-front f (suc n) = let less = sum_to-front f n in omega (arith, less)

sum_to-times : (f : ℕ → ℕ) (c n : ℕ) → sum_to (λ k. c * f k) n ≡ c * sum_to f n
unfolding sum_to
sum_to-times f c zero = omega arith
sum_to-times f c (suc n) = let less = sum_to-times f c n in omega (arith, less)

pub discounted_sum-same : (f g : ℕ → ℕ) (h v n : ℕ) → ((k : ℕ) → k < n → f k ≡ g k) → discounted_sum f h v n ≡ discounted_sum g h v n
unfolding discounted_sum
discounted_sum-same f g h v n same = sum_to-same (λ k. f k * h ^ k * v ^ (n - 1 - k)) (λ k. g k * h ^ k * v ^ (n - 1 - k)) n (λ k less. ap (λ a. a * h ^ k * v ^ (n - 1 - k)) (same k less))

-- the discounted sum of the m payments from place j on, by its first payment
unfoldable pub tail_sum : (ℕ → ℕ) → ℕ → ℕ → ℕ → ℕ → ℕ
tail_sum a h v zero j = 0
tail_sum a h v (suc m) j = a j * v ^ m + h * tail_sum a h v m (suc j)

pub tail_sum-more : (a : ℕ → ℕ) (h v m j : ℕ) → tail_sum a h v (suc m) j ≡ a j * v ^ m + h * tail_sum a h v m (suc j)
unfolding tail_sum
tail_sum-more a h v m j = refl

pub tail_sum-none : (a : ℕ → ℕ) (h v j : ℕ) → tail_sum a h v 0 j ≡ 0
unfolding tail_sum
tail_sum-none a h v j = refl

pub tail_sum-one : (a : ℕ → ℕ) (h v j : ℕ) → tail_sum a h v 1 j ≡ a j
tail_sum-one a h v j =
    let first = tail_sum-more a h v 0 j in
    let none = tail_sum-none a h v (suc j) in
    let one = pow-zero v in
    rw (first, none, one) (omega arith)

first_member : (a : ℕ → ℕ) (h v m j : ℕ) → a (j + 0) * h ^ 0 * v ^ (suc m - 1 - 0) ≡ a j * v ^ m
first_member a h v m j =
    let place : j + 0 ≡ j = omega arith in
    let exponent : suc m - 1 - 0 ≡ m = omega arith in
    rw (place, exponent, pow-zero h) (omega arith)

later_member : (a : ℕ → ℕ) (h v m j k : ℕ) → k < m → a (j + suc k) * h ^ suc k * v ^ (suc m - 1 - suc k) ≡ h * (a (suc j + k) * h ^ k * v ^ (m - 1 - k))
later_member a h v m j k less =
    let place : j + suc k ≡ suc j + k = omega arith in
    let exponent : suc m - 1 - suc k ≡ m - 1 - k = omega arith in
    rw (place, exponent, pow-suc h k) (omega arith)

tail_sum-from : (a : ℕ → ℕ) (h v m j : ℕ) → tail_sum a h v m j ≡ discounted_sum (λ k. a (j + k)) h v m
unfolding tail_sum discounted_sum sum_to
tail_sum-from a h v zero j = refl
tail_sum-from a h v (suc m) j =
    let rest : tail_sum a h v m (suc j) ≡ sum_to (λ k. a (suc j + k) * h ^ k * v ^ (m - 1 - k)) m = tail_sum-from a h v m (suc j) in
    let front = sum_to-front (λ k. a (j + k) * h ^ k * v ^ (suc m - 1 - k)) m in
    let same : sum_to (λ k. a (j + suc k) * h ^ suc k * v ^ (suc m - 1 - suc k)) m ≡ sum_to (λ k. h * (a (suc j + k) * h ^ k * v ^ (m - 1 - k))) m
    = sum_to-same (λ k. a (j + suc k) * h ^ suc k * v ^ (suc m - 1 - suc k)) (λ k. h * (a (suc j + k) * h ^ k * v ^ (m - 1 - k))) m (λ k less. later_member a h v m j k less) in
    let times : sum_to (λ k. h * (a (suc j + k) * h ^ k * v ^ (m - 1 - k))) m ≡ h * tail_sum a h v m (suc j)
    = sum_to-times (λ k. a (suc j + k) * h ^ k * v ^ (m - 1 - k)) h m ∙ ap (λ x. h * x) (sym rest) in
    sym (front ∙ (ap (λ x. x + sum_to (λ k. a (j + suc k) * h ^ suc k * v ^ (suc m - 1 - suc k)) m) (first_member a h v m j) ∙ ap (λ x. a j * v ^ m + x) (same ∙ times)))

-- from place 0 on it is the sum over places
pub tail_sum-all : (a : ℕ → ℕ) (h v n : ℕ) → tail_sum a h v n 0 ≡ discounted_sum a h v n
tail_sum-all a h v n = tail_sum-from a h v n 0 ∙ discounted_sum-same (λ k. a (0 + k)) a h v n (λ k less. let none : 0 + k ≡ k = omega arith in ap a none)

-- at a yield of zero every payment counts as often
zero_member : (a h m k : ℕ) → k < suc m → a * h ^ k * h ^ (suc m - 1 - k) ≡ h ^ m * a
zero_member a h m k less =
    let exponents : k + (suc m - 1 - k) ≡ m = omega arith in
    let powers : h ^ k * h ^ (suc m - 1 - k) ≡ h ^ m = sym (pow-add h k (suc m - 1 - k)) ∙ ap (λ x. h ^ x) exponents in
    omega (arith, ap (λ x. a * x) powers)

pub zero_sum : (a : ℕ → ℕ) (h m : ℕ) → discounted_sum a h h (suc m) ≡ h ^ m * sum_to a (suc m)
unfolding discounted_sum
zero_sum a h m =
    sum_to-same (λ k. a k * h ^ k * h ^ (suc m - 1 - k)) (λ k. h ^ m * a k) (suc m) (λ k less. zero_member (a k) h m k less) ∙ sum_to-times a (h ^ m) (suc m)

-- payments of r with s beside the last are worth s, half a year before the first, if r and s
-- discounted by half a year are s
level_step : (r s h v x t more : ℕ) → (r + s) * h ≡ s * v → more ≡ r * x + h * t → t * h ≡ s * x → more * h ≡ s * (x * v)
level_step r s h v x t more par step rest =
    let one : t * h * h ≡ s * x * h = ap (λ z. z * h) rest in
    let two : (r + s) * h * x ≡ s * v * x = ap (λ z. z * x) par in
    let three : more * h ≡ (r * x + h * t) * h = ap (λ z. z * h) step in
    omega (arith, one, two, three)

level_last : (r s h v t power : ℕ) → (r + s) * h ≡ s * v → t ≡ r + s → power ≡ v → t * h ≡ s * power
level_last r s h v t power par one last = rw (one, last) par

pub level_sum : (a : ℕ → ℕ) (r s h v m j : ℕ) → (r + s) * h ≡ s * v → ((k : ℕ) → j ≤ k → k < j + m → a k ≡ r) → a (j + m) ≡ r + s → tail_sum a h v (suc m) j * h ≡ s * v ^ suc m
level_sum a r s h v zero j par level last =
    let only : a j ≡ r + s = subst (λ x. a x ≡ r + s) (omega arith) last in
    level_last r s h v (tail_sum a h v 1 j) (v ^ 1) par (tail_sum-one a h v j ∙ only) (pow-one v)
level_sum a r s h v (suc m) j par level last =
    let first : a j ≡ r = level j (omega arith) (omega arith) in
    let later : a (suc j + m) ≡ r + s = subst (λ x. a x ≡ r + s) (omega arith) last in
    let rest : tail_sum a h v (suc m) (suc j) * h ≡ s * v ^ suc m = level_sum a r s h v m (suc j) par (λ k from to. level k (omega arith) (omega arith)) later in
    subst (λ x. tail_sum a h v (suc (suc m)) j * h ≡ s * x) (sym (pow-suc v (suc m)))
    (level_step r s h v (v ^ suc m) (tail_sum a h v (suc m) (suc j)) (tail_sum a h v (suc (suc m)) j) par (tail_sum-more a h v (suc m) j ∙ ap (λ x. x * v ^ suc m + h * tail_sum a h v (suc m) (suc j)) first) rest)

-- a sum whose last payment is above 0 is above 0
pub tail_sum-some : (a : ℕ → ℕ) (h v m j : ℕ) → 0 < h → 0 < a (j + m) → 0 < tail_sum a h v (suc m) j
tail_sum-some a h v zero j some last =
    let only : 0 < a j = subst (λ n. 0 < a n) (omega arith) last in
    let one = tail_sum-one a h v j in
    omega (arith, one)
tail_sum-some a h v (suc m) j some last =
    let later : 0 < a (suc j + m) = subst (λ n. 0 < a n) (omega arith) last in
    let rest : 0 < h * tail_sum a h v (suc m) (suc j) = mul-pos some (tail_sum-some a h v m (suc j) some later) in
    let first = tail_sum-more a h v (suc m) j in
    omega (arith, first)

-- two payments and three
two-tail : (a : ℕ → ℕ) (h v : ℕ) → a 0 * v + a 1 * h ≡ tail_sum a h v 2 0
two-tail a h v =
    let first = tail_sum-more a h v 1 0 in
    let second = tail_sum-one a h v 1 in
    rw (first, second, pow-one v) (omega arith)

three-tail : (a : ℕ → ℕ) (h v : ℕ) → (a 0 * v + a 1 * h) * v + a 2 * (h * h) ≡ tail_sum a h v 3 0
three-tail a h v =
    let first = tail_sum-more a h v 2 0 in
    let second = tail_sum-more a h v 1 1 in
    let third = tail_sum-one a h v 2 in
    rw (first, second, third, pow-two v, pow-one v) (omega arith)

pub two_payments : (a : ℕ → ℕ) (h v n p q : ℕ) → n ≡ 2 → p ≡ a 0 → q ≡ a 1 → p * v + q * h ≡ discounted_sum a h v n
two_payments a h v n p q count first second = rw (count, first, second) (two-tail a h v ∙ tail_sum-all a h v 2)

pub three_payments : (a : ℕ → ℕ) (h square v n p q r : ℕ) → n ≡ 3 → square ≡ h * h → p ≡ a 0 → q ≡ a 1 → r ≡ a 2 → (p * v + q * h) * v + r * square ≡ discounted_sum a h v n
three_payments a h square v n p q r count squared first second third = rw (count, squared, first, second, third) (three-tail a h v ∙ tail_sum-all a h v 3)
