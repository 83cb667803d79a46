-- Over sound outcomes the rule's answer is right.
use Rattle.std.proofs.Common.{◌≡◌, ◌<◌, ◌≤◌, ℕ, List, ℤ, pos, ◌+ℤ◌, ◌≤ℤ◌, ◌<ℤ◌, refl, ap, sym, subst, inl, inr, ⊎_elim, arith, ◌∙◌}
use Rattle.std.proofs.lemmas.Int.{ints}
use Rattle.std.proofs.lemmas.Bool.{cases_lt}
use Rattle.muni_rule.specs.Schedule.{ExactOutcome, prints, is_below, is_above, no_time, IsFrom, IsRightLow}
use Rattle.muni_sched.specs.declared.outcome.CandidateOutcome.{CandidateOutcome}
use Rattle.muni_sched.specs.declared.outcome.CandidateOutcome.TheVariants.{Print, Unsure, Below, Above, NoTime}
use Rattle.muni_sched.specs.LowestFigure.{Lowest}
use Rattle.muni_sched.specs.LowestFigure as lowest
use Rattle.muni_sched.specs.Lowest.{outcome_at, MayBeBelow, IsFirstBelow, IsUndecided, IsLowestFigure, IsLowest}
use Rattle.muni_sched.specs.Sound.{IsSound, AreSound, IsRight}
use Rattle.muni_sched.proofs.IntLemmas.{less_or_not}

-- What is at a figure or higher is so at each lower figure.
lower-from : (t u : ℤ) (exact : ExactOutcome) → t ≤ℤ u → IsFrom u exact → IsFrom t exact
lower-from t u (prints v) order from = omega (arith, ints)
lower-from t u is_below order from = from
lower-from t u is_above order from = from
lower-from t u no_time order from = from

-- An outcome with time has an exact one with time.
timed : (least : ℤ) (D : ℤ → Type 0) (x : CandidateOutcome) (exact : ExactOutcome) → IsSound least D x exact → ¬ (x ≡ NoTime) → ¬ (exact ≡ no_time)
timed least D (Print t) exact sound other is = let both : prints t ≡ no_time = sym sound ∙ is in cc
timed least D (Unsure s) exact sound other is = sound.timed is
timed least D Below exact sound other is = let both : is_below ≡ no_time = sym sound ∙ is in cc
timed least D Above exact sound other is = let both : is_above ≡ no_time = sym sound ∙ is in cc
timed least D NoTime exact sound other is = other refl

not_below : (least : ℤ) (D : ℤ → Type 0) (x : CandidateOutcome) (exact : ExactOutcome) → IsSound least D x exact → ¬ (MayBeBelow least x) → ¬ (exact ≡ is_below)
not_below least D (Print t) exact sound other is = let both : prints t ≡ is_below = sym sound ∙ is in cc
not_below least D (Unsure s) exact sound other is = subst (IsFrom s) is (sound.reached (λ same. other (inr (ap Unsure same))))
not_below least D Below exact sound other is = other (inl refl)
not_below least D Above exact sound other is = let both : is_above ≡ is_below = sym sound ∙ is in cc
not_below least D NoTime exact sound other is = let both : no_time ≡ is_below = sym sound ∙ is in cc

-- An outcome whose figure is t or higher has an exact one that is.
from_figure : (least : ℤ) (D : ℤ → Type 0) (t : ℤ) (x : CandidateOutcome) (exact : ExactOutcome) → IsSound least D x exact → ¬ (x ≡ NoTime) → ¬ (MayBeBelow least x) → ((u : ℤ) → x ≡ Print u → t ≤ℤ u) → ((s : ℤ) → x ≡ Unsure s → t ≤ℤ s) → IsFrom t exact
from_figure least D t (Print u) exact sound time figure_of print unsure = subst (IsFrom t) (sym sound) (print u refl)
from_figure least D t (Unsure s) exact sound time figure_of print unsure =
    lower-from t s exact (unsure s refl) (sound.reached (λ same. figure_of (inr (ap Unsure same))))
from_figure least D t Below exact sound time figure_of print unsure = absurd (figure_of (inl refl))
from_figure least D t Above exact sound time figure_of print unsure = subst (IsFrom t) (sym sound) tt
from_figure least D t NoTime exact sound time figure_of print unsure = absurd (time refl)

above : (least : ℤ) (D : ℤ → Type 0) (x : CandidateOutcome) (exact : ExactOutcome) → IsSound least D x exact → ¬ (x ≡ NoTime) → ¬ (MayBeBelow least x) → ((u : ℤ) → ¬ (x ≡ Print u)) → ((s : ℤ) → ¬ (x ≡ Unsure s)) → exact ≡ is_above
above least D (Print u) exact sound time figure_of print unsure = absurd (print u refl)
above least D (Unsure s) exact sound time figure_of print unsure = absurd (unsure s refl)
above least D Below exact sound time figure_of print unsure = absurd (figure_of (inl refl))
above least D Above exact sound time figure_of print unsure = sound
above least D NoTime exact sound time figure_of print unsure = absurd (time refl)

-- If none is material, an unsure candidate is at the lowest printed figure or higher, and before the
-- first that has it, higher.
unsure_from : (least : ℤ) (outcomes : List CandidateOutcome) (t : ℤ) (c k : ℕ) (s : ℤ) → IsLowestFigure least outcomes t c → outcome_at outcomes k ≡ Unsure s → t ≤ℤ s
unsure_from least outcomes t c k s low e =
    ⊎_elim
    (λ (less : s <ℤ t). absurd (low.none_material s k (record {
      unsure = e;
      matters = λ m h print. inl (omega (arith, ints, less, low.lowest.none_lower h m print.first.such));
    })))
    (λ (from : t ≤ℤ s). from)
    (less_or_not s t)

same_print : (least : ℤ) (outcomes : List CandidateOutcome) (t : ℤ) (c k : ℕ) → IsLowestFigure least outcomes t c → outcome_at outcomes k ≡ Print t → c ≤ k
same_print least outcomes t c k low e =
    ⊎_elim
    (λ (before : k < c). absurd (low.lowest.first.none_before k before e))
    (λ (after : c ≤ k). after)
    (cases_lt k c)

unsure_before : (least : ℤ) (outcomes : List CandidateOutcome) (t : ℤ) (c k : ℕ) (s : ℤ) → IsLowestFigure least outcomes t c → k < c → outcome_at outcomes k ≡ Unsure s → (t +ℤ pos 1) ≤ℤ s
unsure_before least outcomes t c k s low before e =
    ⊎_elim
    (λ (higher : t <ℤ s). omega (arith, ints, higher))
    (λ (to : s ≤ℤ t).
    let same : s ≡ t = omega (arith, ints, to, unsure_from least outcomes t c k s low e) in
    absurd (low.none_material s k (record {
      unsure = e;
      matters = λ m h print.
          let equal : m ≡ t = omega (arith, ints, low.lowest.none_lower h m print.first.such, print.none_lower c t low.lowest.first.such) in
          inr (same ∙ sym equal, omega (arith, before, same_print least outcomes t c h low (print.first.such ∙ ap Print equal)));
    })))
    (less_or_not t s)

print_before : (least : ℤ) (outcomes : List CandidateOutcome) (t : ℤ) (c k : ℕ) (u : ℤ) → IsLowestFigure least outcomes t c → k < c → outcome_at outcomes k ≡ Print u → (t +ℤ pos 1) ≤ℤ u
print_before least outcomes t c k u low before e =
    ⊎_elim
    (λ (higher : t <ℤ u). omega (arith, ints, higher))
    (λ (to : u ≤ℤ t).
    let equal : u ≡ t = omega (arith, ints, to, low.lowest.none_lower k u e) in
    absurd (low.lowest.first.none_before k before (e ∙ ap Print equal)))
    (less_or_not t u)

low_right : (least : ℤ) (D : ℕ → ℤ → Type 0) (exact : ℕ → ExactOutcome) (outcomes : List CandidateOutcome) (t : ℤ) (c : ℕ) → AreSound least D outcomes exact → IsLowestFigure least outcomes t c → IsRightLow exact t c
low_right least D exact outcomes t c sound low =
    let from : (u : ℤ) (k : ℕ) → ((v : ℤ) → outcome_at outcomes k ≡ Print v → u ≤ℤ v) → ((s : ℤ) → outcome_at outcomes k ≡ Unsure s → u ≤ℤ s) → IsFrom u (exact k) =
    λ u k. from_figure least (D k) u (outcome_at outcomes k) (exact k) (sound k) (low.reach.timed k) (low.reach.none_below k) in
    record {
      printed = subst (λ x. IsSound least (D c) x (exact c)) low.lowest.first.such (sound c);
      none_lower = λ k. from t k (low.lowest.none_lower k) (λ s. unsure_from least outcomes t c k s low);
      higher_before = λ k before. from (t +ℤ pos 1) k (λ u. print_before least outcomes t c k u low before) (λ s. unsure_before least outcomes t c k s low before);
    }

-- An undecided answer names an unsure candidate.
pub undecided_unsure : (least s : ℤ) (c : ℕ) (outcomes : List CandidateOutcome) → IsLowest least outcomes (lowest.Undecided s c) → outcome_at outcomes c ≡ Unsure s
undecided_unsure least s c outcomes is =
    ⊎_elim
    (λ (below : IsFirstBelow least outcomes (Unsure s) c). below.there)
    (λ (unsure : IsUndecided least outcomes s c). unsure.lowest.material.unsure)
    is

pub sound_right : (least : ℤ) (D : ℕ → ℤ → Type 0) (exact : ℕ → ExactOutcome) (outcomes : List CandidateOutcome) (answer : Lowest) → AreSound least D outcomes exact → IsLowest least outcomes answer → IsRight D exact answer
sound_right least D exact outcomes (lowest.Low t c) sound is = low_right least D exact outcomes t c sound is
sound_right least D exact outcomes (lowest.Undecided s c) sound is =
    record { doubtful = (subst (λ x. IsSound least (D c) x (exact c)) (undecided_unsure least s c outcomes is) (sound c)).doubtful }
sound_right least D exact outcomes (lowest.Below c) sound is = record {
  timed = λ k. timed least (D k) (outcome_at outcomes k) (exact k) (sound k) (is.timed k);
  first = record {
    such = subst (λ x. IsSound least (D c) x (exact c)) is.there (sound c);
    none_before = λ k before. not_below least (D k) (outcome_at outcomes k) (exact k) (sound k) (is.first.none_before k before);
  };
}
sound_right least D exact outcomes lowest.Above sound is = record {
  all = λ k. above least (D k) (outcome_at outcomes k) (exact k) (sound k) (is.reach.timed k) (is.reach.none_below k)
      (λ u. is.none_printed u k)
      (λ s e. is.none_material s k (record { unsure = e; matters = λ m h print. absurd (is.none_printed m h print.first.such) }));
}
sound_right least D exact outcomes (lowest.NoTime c) sound is = record {
  first = record {
    such = subst (λ x. IsSound least (D c) x (exact c)) is.such (sound c);
    none_before = λ k before. timed least (D k) (outcome_at outcomes k) (exact k) (sound k) (is.none_before k before);
  };
}
