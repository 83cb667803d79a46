-- If the price falls as the yield rises, every range has one outcome.
use Rattle.std.proofs.Common.{◌≡◌, ℕ, zero, suc, ◌⊎◌, ⊎_elim, inl, inr, ℤ, pos, negsuc, ◌+ℤ◌, ◌-ℤ◌, ◌≤ℤ◌, arith, sym, subst}
use Rattle.std.specs.Prelude.{unsigned_abs}
use Rattle.std.proofs.lemmas.Int.{ints}
use Rattle.muni_rule.specs.PrintedYield.{boundary, Reached, Falls}
use Rattle.muni_rule.specs.Outcomes.{IsAbove, IsPrint, HasOneOutcome}
use Rattle.muni_rule.proofs.YieldLemmas.{reached-le, printed_yield-same}

-- a fact either holds or not
abbrev pub Decided : Type 0 → Type 0
Decided Holds = Holds ⊎ ¬ Holds

pub reached-decided : (AtLeast More : ℤ → Type 0) → ((y : ℤ) → Decided (AtLeast y)) → ((y : ℤ) → Decided (More y)) → (t : ℤ) → Decided (Reached AtLeast More t)
reached-decided AtLeast More at more (pos zero) = more (boundary (pos zero))
reached-decided AtLeast More at more (pos (suc less)) = at (boundary (pos (suc less)))
reached-decided AtLeast More at more (negsuc less) = more (boundary (negsuc less))

-- what holds first and does not hold at last stops to hold somewhere
pub record StopsAt (Holds : ℕ → Type 0) (k : ℕ) : Type 0 where
  pub here : Holds k
  pub not_next : ¬ (Holds (suc k))

pub stops : (Holds : ℕ → Type 0) → ((k : ℕ) → Decided (Holds k)) → (m : ℕ) → Holds 0 → ¬ (Holds m) → (k : ℕ) × StopsAt Holds k
stops Holds decided zero first last = absurd (last first)
stops Holds decided (suc m) first last =
    ⊎_elim
    (λ (here : Holds m). (m, record { here = here; not_next = last }))
    (λ (not_here : ¬ (Holds m)). stops Holds decided m first not_here)
    (decided m)

next-place : (least : ℤ) (k : ℕ) → least +ℤ pos (suc k) ≡ (least +ℤ pos k) +ℤ pos 1
next-place least k = omega (arith, ints)

first-place : (least : ℤ) → least +ℤ pos 0 ≡ least
first-place least = omega (arith, ints)

last-place : (least greatest : ℤ) → least ≤ℤ greatest → least +ℤ pos (unsigned_abs ((greatest +ℤ pos 1) -ℤ least)) ≡ greatest +ℤ pos 1
last-place least greatest order = omega (arith, ints)

some-print : (least greatest : ℤ) (AtLeast More : ℤ → Type 0) → ((t : ℤ) → Decided (Reached AtLeast More t)) → least ≤ℤ greatest → Reached AtLeast More least → ¬ (IsAbove greatest AtLeast More) → (t : ℤ) × IsPrint least greatest AtLeast More t
some-print least greatest AtLeast More decided order first last =
    let count : ℕ = unsigned_abs ((greatest +ℤ pos 1) -ℤ least) in
    let Holds : ℕ → Type 0 = λ k. Reached AtLeast More (least +ℤ pos k) in
    let at_first : Holds 0 = subst (Reached AtLeast More) (sym (first-place least)) first in
    let not_last : ¬ (Holds count) = λ reached. last (subst (Reached AtLeast More) (last-place least greatest order) reached) in
    let stop = stops Holds (λ k. decided (least +ℤ pos k)) count at_first not_last in (
      least +ℤ pos stop.0,
      record {
        not_below = first;
        not_above = last;
        printed = record {
          reached = stop.1.here;
          next_not_reached = λ reached. stop.1.not_next (subst (Reached AtLeast More) (sym (next-place least stop.0)) reached);
        };
      },
    )

pub one_outcome : (least greatest : ℤ) (AtLeast More : ℤ → Type 0) → Falls AtLeast More → ((y : ℤ) → Decided (AtLeast y)) → ((y : ℤ) → Decided (More y)) → least ≤ℤ greatest → HasOneOutcome least greatest AtLeast More
one_outcome least greatest AtLeast More falls at more order =
    let decided = reached-decided AtLeast More at more in
    record {
      some = ⊎_elim
          (λ (first : Reached AtLeast More least). ⊎_elim
          (λ (above : IsAbove greatest AtLeast More). inr (inl above))
          (λ (not_above : ¬ (IsAbove greatest AtLeast More)). inr (inr (some-print least greatest AtLeast More decided order first not_above)))
          (decided (greatest +ℤ pos 1)))
          (λ (not_first : ¬ (Reached AtLeast More least)). inl (record { least_not_reached = not_first }))
          (decided least);
      not_below_and_above = λ below above. below.least_not_reached (reached-le falls least (greatest +ℤ pos 1) (omega (arith, ints)) above);
      not_below_and_printed = λ t below print. below.least_not_reached print.not_below;
      not_above_and_printed = λ t above print. print.not_above above;
      one_is_printed = λ s t one other. printed_yield-same falls s t one.printed other.printed;
    }
