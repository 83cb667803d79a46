-- Sums of weighted payments from a place on.
use Rattle.std.proofs.Common.{◌≡◌, ℕ, suc, zero, ◌+◌, ◌*◌, ◌^◌, ◌<◌, ◌≤◌, ap, ◌∙◌, arith}
use Rattle.std.proofs.Math.Nat.{mul-le-mul_left, mul-le-mul_right, pow-suc, pow-zero}
use Rattle.muni_rule.proofs.SumLemmas.{tail_sum, tail_sum-more, tail_sum-none}

-- payments times one number have a sum times it
tail-times_step : (p q f x t u h : ℕ) → q ≡ p * f → u ≡ t * f → q * x + h * u ≡ (p * x + h * t) * f
tail-times_step p q f x t u h one rest = rw (one, rest) (omega arith)

pub tail-times : (b c : ℕ → ℕ) (f h v : ℕ) → ((k : ℕ) → c k ≡ b k * f) → (m j : ℕ) → tail_sum c h v m j ≡ tail_sum b h v m j * f
tail-times b c f h v same zero j = rw (tail_sum-none c h v j, tail_sum-none b h v j) (omega arith)
tail-times b c f h v same (suc m) j =
    rw (tail_sum-more c h v m j, tail_sum-more b h v m j)
    (tail-times_step (b j) (c j) f (v ^ m) (tail_sum b h v m (suc j)) (tail_sum c h v m (suc j)) h (same j) (tail-times b c f h v same m (suc j)))

-- payments that are at most so many times others have a sum that is
tail-most_step : (p q f x t u h : ℕ) → q ≤ f * p → u ≤ f * t → q * x + h * u ≤ f * (p * x + h * t)
tail-most_step p q f x t u h one rest =
    let first : q * x ≤ f * p * x = mul-le-mul_right x one in
    let later : h * u ≤ h * (f * t) = mul-le-mul_left h rest in
    omega (arith, first, later)

pub tail-most : (b c : ℕ → ℕ) (f h v n : ℕ) → ((k : ℕ) → k < n → c k ≤ f * b k) → (m j : ℕ) → j + m ≤ n → tail_sum c h v m j ≤ f * tail_sum b h v m j
tail-most b c f h v n most zero j within = rw (tail_sum-none c h v j) (omega arith)
tail-most b c f h v n most (suc m) j within =
    rw (tail_sum-more c h v m j, tail_sum-more b h v m j)
    (tail-most_step (b j) (c j) f (v ^ m) (tail_sum b h v m (suc j)) (tail_sum c h v m (suc j)) h (most j (omega arith)) (tail-most b c f h v n most m (suc j) (omega arith)))

-- payments of 0 in front are left out, and the others discounted to the first of them
tail-skip_step : (p x u t h g : ℕ) → p ≡ 0 → u ≡ g * t → p * x + h * u ≡ g * h * t
tail-skip_step p x u t h g none rest = rw (none, rest) (omega arith)

pub tail-skip : (b : ℕ → ℕ) (h v : ℕ) (s m j : ℕ) → ((k : ℕ) → k < j + s → b k ≡ 0) → tail_sum b h v (s + m) j ≡ h ^ s * tail_sum b h v m (j + s)
tail-skip b h v zero m j none =
    let place : j + 0 ≡ j = omega arith in
    let count : zero + m ≡ m = omega arith in
    rw (place, count, pow-zero h) (omega arith)
tail-skip b h v (suc s) m j none =
    let place : suc j + s ≡ j + suc s = omega arith in
    let count : suc s + m ≡ suc (s + m) = omega arith in
    let rest : tail_sum b h v (s + m) (suc j) ≡ h ^ s * tail_sum b h v m (j + suc s)
    = tail-skip b h v s m (suc j) (λ k less. none k (omega arith)) ∙ ap (λ i. h ^ s * tail_sum b h v m i) place in
    rw (count, tail_sum-more b h v (s + m) j, pow-suc h s)
    (tail-skip_step (b j) (v ^ (s + m)) (tail_sum b h v (s + m) (suc j)) (tail_sum b h v m (j + suc s)) h (h ^ s) (none j (omega arith)) rest)
