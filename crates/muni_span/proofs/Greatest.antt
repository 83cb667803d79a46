-- The greatest number that passes a test: there is one if any passes, and one only.
use Rattle.std.proofs.Common.{◌≡◌, ℕ, Bool, suc, zero, ◌<◌, ◌≤◌, ◌⊎◌, refl, sym, ap, ◌∙◌, subst, ⊎_elim, arith, true, false}
use Rattle.std.proofs.lemmas.Bool.{cases_Bool}
use Rattle.muni_span.specs.Roots.{greatest_where}

-- it passes, and nothing above it up to n does
pub record IsGreatest (test : ℕ → Bool) (n q : ℕ) : Type 0 where
  pub within : q ≤ n
  pub passes : test q ≡ true
  pub none : (m : ℕ) → q < m → m ≤ n → test m ≡ false

greatest_where-none : (test : ℕ → Bool) → greatest_where test 0 ≡ 0
unfolding greatest_where
greatest_where-none test = refl

greatest_where-top : (test : ℕ → Bool) (n : ℕ) → test (suc n) ≡ true → greatest_where test (suc n) ≡ suc n
unfolding greatest_where
greatest_where-top test n top = rw top refl

greatest_where-below : (test : ℕ → Bool) (n : ℕ) → test (suc n) ≡ false → greatest_where test (suc n) ≡ greatest_where test n
unfolding greatest_where
greatest_where-below test n top = rw top refl

top_or_below : (q n : ℕ) → q ≤ suc n → (q ≡ suc n) ⊎ (q ≤ n)
top_or_below q n most = grind arith

-- such a number is the greatest, whoever found it
pub greatest_unique : (test : ℕ → Bool) (n q : ℕ) → IsGreatest test n q → greatest_where test n ≡ q
greatest_unique test zero q is = let most : q ≤ 0 = is.within in greatest_where-none test ∙ (let e : 0 ≡ q = omega arith in e)
greatest_unique test (suc n) q is =
    ⊎_elim (λ top. greatest_where-top test n (subst (λ (m : ℕ). test m ≡ true) top is.passes) ∙ sym top)
    (λ below. greatest_where-below test n (is.none (suc n) (omega arith) (omega arith))
    ∙ greatest_unique test n q (record { within = below; passes = is.passes; none = λ m above most. is.none m above (omega arith) }))
    (top_or_below q n is.within)

-- a number that passes, from the least one that is known to
pub record IsFound (test : ℕ → Bool) (n least q : ℕ) : Type 0 where
  pub above : least ≤ q
  pub greatest : IsGreatest test n q

found_top : (test : ℕ → Bool) (n least : ℕ) → least ≤ suc n → test (suc n) ≡ true → IsFound test (suc n) least (suc n)
found_top test n least within top = record {
  above = within;
  greatest = record { within = omega arith; passes = top; none = λ m above most. absurd (omega arith) };
}

found_below : (test : ℕ → Bool) (n least q : ℕ) → test (suc n) ≡ false → IsFound test n least q → IsFound test (suc n) least q
found_below test n least q top found =
    let within : q ≤ n = found.greatest.within in record {
      above = found.above;
      greatest = record {
        within = omega arith;
        passes = found.greatest.passes;
        none = λ m above most. ⊎_elim (λ e. subst (λ (i : ℕ). test i ≡ false) (sym e) top) (λ below. found.greatest.none m above below) (top_or_below m n most);
      };
    }

below_top : (test : ℕ → Bool) (n least : ℕ) → least ≤ suc n → test least ≡ true → test (suc n) ≡ false → least ≤ n
below_top test n least within passes top =
    ⊎_elim (λ e. let both : true ≡ false = sym passes ∙ (ap test e ∙ top) in absurd (cc)) (λ below. below) (top_or_below least n within)

-- the greatest is such a number
pub greatest_found : (test : ℕ → Bool) (n least : ℕ) → least ≤ n → test least ≡ true → IsFound test n least (greatest_where test n)
greatest_found test zero least within passes =
    let none : least ≡ 0 = omega arith in
    rw (greatest_where-none test) (record {
      above = within;
      greatest = record { within = omega arith; passes = subst (λ (i : ℕ). test i ≡ true) none passes; none = λ m above most. absurd (omega arith) };
    })
greatest_found test (suc n) least within passes =
    ⊎_elim (λ top. rw (greatest_where-top test n top) (found_top test n least within top))
    (λ top. rw (greatest_where-below test n top) (found_below test n least (greatest_where test n) top
    (greatest_found test n least (below_top test n least within passes top) passes)))
    (cases_Bool (test (suc n)))
