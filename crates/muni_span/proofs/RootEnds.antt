-- An end of a root is the one place where a power passes its bound, however the place is found.
use Rattle.std.proofs.Common.{◌≡◌, ℕ, Bool, ◌+◌, ◌-◌, ◌^◌, ◌<◌, ◌≤◌, sym, subst, ⊎_elim, arith, leb, lit≤}
use Rattle.std.proofs.lemmas.Bool.{cases_lt, le-leb, lt-leb, leb-true, leb-false}
use Rattle.muni_span.specs.Powers.{power_end}
use Rattle.muni_span.specs.Roots.{greatest_where, root_end, IsRootBracket}
use Rattle.muni_span.proofs.PowerGrowth.{power_end-grows}
use Rattle.muni_span.proofs.Greatest.{IsGreatest, IsFound, greatest_unique, greatest_found}

-- the lower end of a bracket with nothing between its ends is the greatest that passes
narrowest : (carry v low n : ℕ) → low ≤ n → power_end carry low 180 ≤ v → v < power_end carry (low + 1) 180 → IsGreatest (λ x. leb (power_end carry x 180) v) n low
narrowest carry v low n within under over = record {
  within = within;
  passes = le-leb (power_end carry low 180) v under;
  none = λ m above most.
      let grown : power_end carry (low + 1) 180 ≤ power_end carry m 180 = power_end-grows carry (low + 1) m 180 (lit≤ tt) (omega arith) in
      lt-leb (power_end carry m 180) v (omega arith);
}

-- however a bracket is narrowed, its last lower end is the root's end
pub bracket_closed : (carry v low high : ℕ) → high - low ≤ 1 → IsRootBracket carry v low high → low ≡ root_end carry v
unfolding root_end
bracket_closed carry v low high near is =
    let ordered : low < high = is.ordered in
    let within : high ≤ 2 ^ 60 + 2 ^ 50 = is.within in
    let next : high ≡ low + 1 = omega arith in
    let over : v < power_end carry (low + 1) 180 = subst (λ (x : ℕ). v < power_end carry x 180) next is.over in
    sym (greatest_unique (λ x. leb (power_end carry x 180) v) (2 ^ 60 + 2 ^ 50) low (narrowest carry v low (2 ^ 60 + 2 ^ 50) (omega arith) is.under over))

-- a number whose power is at most v, and that of the next is more
pub certified : (carry v q : ℕ) → q < 2 ^ 60 + 2 ^ 50 → power_end carry q 180 ≤ v → v < power_end carry (q + 1) 180 → q ≡ root_end carry v
certified carry v q within under over = bracket_closed carry v q (q + 1) (omega arith) (record {
  ordered = omega arith;
  within = omega arith;
  under = under;
  over = over;
})

-- an end that lies at or above a known number, and is its own narrowest bracket
pub record IsEnd (carry v least q : ℕ) : Type 0 where
  pub above : least ≤ q
  pub bracket : IsRootBracket carry v q (q + 1)

below_high : (carry v high q : ℕ) → v < power_end carry high 180 → power_end carry q 180 ≤ v → q < high
below_high carry v high q over under =
    ⊎_elim (λ below. below)
    (λ above.
    let grown : power_end carry high 180 ≤ power_end carry q 180 = power_end-grows carry high q 180 (lit≤ tt) above in
    absurd (omega arith))
    (cases_lt q high)

end_of_found : (carry v low high n q : ℕ) → high ≤ n → v < power_end carry high 180 → IsFound (λ x. leb (power_end carry x 180) v) n low q → (q < high) × (power_end carry q 180 ≤ v) × (v < power_end carry (q + 1) 180)
end_of_found carry v low high n q within over found =
    let under : power_end carry q 180 ≤ v = leb-true (power_end carry q 180) v found.greatest.passes in
    let below : q < high = below_high carry v high q over under in
    (below, under, leb-false (power_end carry (q + 1) 180) v (found.greatest.none (q + 1) (omega arith) (omega arith)))

-- the root's end of any bracket
pub root_end-is : (carry v low high : ℕ) → IsRootBracket carry v low high → IsEnd carry v low (root_end carry v)
unfolding root_end
root_end-is carry v low high is =
    let test : ℕ → Bool = λ x. leb (power_end carry x 180) v in
    let ordered : low < high = is.ordered in
    let within : high ≤ 2 ^ 60 + 2 ^ 50 = is.within in
    let found : IsFound test (2 ^ 60 + 2 ^ 50) low (greatest_where test (2 ^ 60 + 2 ^ 50))
    = greatest_found test (2 ^ 60 + 2 ^ 50) low (omega arith) (le-leb (power_end carry low 180) v is.under) in
    let facts = end_of_found carry v low high (2 ^ 60 + 2 ^ 50) (greatest_where test (2 ^ 60 + 2 ^ 50)) within is.over found in
    record {
      above = found.above;
      bracket = record { ordered = omega arith; within = omega arith; under = facts.1; over = facts.2 };
    }
