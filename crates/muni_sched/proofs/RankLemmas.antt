-- The first outcome of the least rank is the one that the rule names.
use Rattle.std.proofs.Common.{◌≡◌, ◌≢◌, ◌<◌, ◌≤◌, ◌+◌, ℕ, List, All, length, map, get_or, refl, ap, sym, subst, inl, inr, ⊎_elim, arith, ◌∙◌, ◌⊎◌, ℤ, pos, negsuc, ◌<ℤ◌, ◌≤ℤ◌}
use Rattle.std.specs.Prelude.{⊤}
use Rattle.std.proofs.lemmas.Int.{ints}
use Rattle.std.proofs.lemmas.Bool.{cases_lt}
use Rattle.std.proofs.lemmas.List.{get_or_past, get_or-map, length-map}
use Rattle.std.proofs.lemmas.List.Elements.{All-weaker}
use Rattle.muni_sched.specs.FigureKind.{FigureKind, Price, Yield}
use Rattle.muni_sched.specs.declared.outcome.CandidateOutcome.{CandidateOutcome}
use Rattle.muni_sched.specs.declared.outcome.CandidateOutcome.TheVariants.{Print, Unsure, Below, Above, NoTime}
use Rattle.muni_sched.specs.LowestFigure.{Lowest}
use Rattle.muni_sched.specs.Figures.{least_unsure, IsOf, IsLowestOf}
use Rattle.muni_sched.specs.Lowest.{outcome_at, MayBeBelow, IsLowestPrint, IsFirstBelow, AllReachFigures, IsUndecided, IsLowestFigure, AllAreAbove, IsLowest}
use Rattle.muni_sched.specs.Ranks.{rank, IsFirstOfLeastRank, decided_by, decided_at, IsRanked}
use Rattle.muni_sched.proofs.IntLemmas.{int_eq-same, int_eq-other, equal_or_not, less_or_not}

-- a figure that is not the rank of an outcome without one
abbrev IsFigure : ℤ → Type 0
IsFigure t = (negsuc 999_999_999 ≤ℤ t) × (t ≤ℤ pos 1_000_000_000)

abbrev IsInRange : ℤ → CandidateOutcome → Type 0
IsInRange least (Print t) = IsFigure t
IsInRange least (Unsure s) = (least ≤ℤ s) × IsFigure s
IsInRange least Below = ⊤
IsInRange least Above = ⊤
IsInRange least NoTime = ⊤

in_range : (kind : FigureKind) (outcome : CandidateOutcome) → IsOf kind outcome → IsInRange (least_unsure kind) outcome
in_range Price (Print t) is = (omega (arith, ints, is.0), omega (arith, ints, is.1))
in_range Yield (Print t) is = (omega (arith, ints, is.0), omega (arith, ints, is.1))
in_range Price (Unsure s) is = (is.0, (omega (arith, ints, is.0), omega (arith, ints, is.1)))
in_range Yield (Unsure s) is = (is.0, (omega (arith, ints, is.0), omega (arith, ints, is.1)))
in_range kind Below is = tt
in_range kind Above is = tt
in_range kind NoTime is = tt

-- what is known of item k of a list
pub outcome-of : {X : Type 0} (of : X → CandidateOutcome) (xs : List X) (k : ℕ) (x : X) → k < length xs → x ≡ get_or xs k x → outcome_at (map of xs) k ≡ of x
outcome-of of xs k x inside is = get_or-map of xs k x Above inside ∙ ap of (sym is)

pub item-of : {X : Type 0} (kind : FigureKind) (of : X → CandidateOutcome) (xs : List X) (k : ℕ) (x : X) → All (IsOf kind) (map of xs) → k < length xs → x ≡ get_or xs k x → IsOf kind (of x)
item-of kind of xs k x all inside is = subst (IsOf kind) (outcome-of of xs k x inside is) (all k Above (omega (arith, inside, length-map xs of)))

-- Of the first i outcomes candidate c is the first that has the least rank.
pub record IsLeast (kind : FigureKind) (outcomes : List CandidateOutcome) (i c : ℕ) : Type 0 where
  pub none_lower : (k : ℕ) → k < i → rank (least_unsure kind) (outcome_at outcomes c) ≤ℤ rank (least_unsure kind) (outcome_at outcomes k)
  pub higher_before : (k : ℕ) → k < c → rank (least_unsure kind) (outcome_at outcomes c) <ℤ rank (least_unsure kind) (outcome_at outcomes k)
  pub within : (c ≡ 0) ⊎ (c < i)

in_range_at : (least : ℤ) (outcomes : List CandidateOutcome) → All (IsInRange least) outcomes → (k : ℕ) → IsInRange least (outcome_at outcomes k)
in_range_at least outcomes all k =
    ⊎_elim
    (λ (inside : k < length outcomes). all k Above inside)
    (λ (past : length outcomes ≤ k). subst (IsInRange least) (sym (get_or_past outcomes k Above past)) tt)
    (cases_lt k (length outcomes))

unsure-from : (least : ℤ) (outcomes : List CandidateOutcome) → ((k : ℕ) → IsInRange least (outcome_at outcomes k)) → (k : ℕ) (s : ℤ) → outcome_at outcomes k ≡ Unsure s → negsuc 999_999_999 ≤ℤ s
unsure-from least outcomes ranges k s e = (let r : IsInRange least (Unsure s) = subst (IsInRange least) e (ranges k) in r.1.0)

-- The ranks of unsure outcomes.
rank-unsure_least : (least s : ℤ) → s ≡ least → rank least (Unsure s) ≡ negsuc 2_147_483_646
rank-unsure_least least s same = rw (int_eq-same s least same) refl

rank-unsure_figure : (least s : ℤ) → s ≢ least → rank least (Unsure s) ≡ s
rank-unsure_figure least s other = rw (int_eq-other s least other) refl

rank-unsure_most : (least s : ℤ) → negsuc 999_999_999 ≤ℤ s → rank least (Unsure s) ≤ℤ s
rank-unsure_most least s from =
    elim (equal_or_not s least) [
      | inl same ↦ omega (arith, ints, rank-unsure_least least s same)
      | inr other ↦ omega (arith, ints, rank-unsure_figure least s other)
    ]

rank-below : (least : ℤ) (x : CandidateOutcome) → MayBeBelow least x → rank least x ≡ negsuc 2_147_483_646
rank-below least x below =
    ⊎_elim
    (λ (e : x ≡ Below). ap (rank least) e)
    (λ (e : x ≡ Unsure least). ap (rank least) e ∙ rank-unsure_least least least refl)
    below

-- Above is the last in the order.
above_last : (least : ℤ) (x : CandidateOutcome) → IsInRange least x → rank least x ≤ℤ pos 2_147_483_647
above_last least (Print t) range = omega (arith, ints, range.1)
above_last least (Unsure s) range = omega (arith, ints, range.1.1, rank-unsure_most least s range.1.0)
above_last least Below range = omega (arith, ints)
above_last least Above range = omega (arith, ints)
above_last least NoTime range = omega (arith, ints)

only_above : (least : ℤ) (x : CandidateOutcome) → IsInRange least x → pos 2_147_483_647 ≤ℤ rank least x → x ≡ Above
only_above least (Print t) range last = absurd (omega (arith, ints, range.1))
only_above least (Unsure s) range last = absurd (omega (arith, ints, range.1.1, rank-unsure_most least s range.1.0))
only_above least Below range last = absurd (omega (arith, ints))
only_above least Above range last = refl
only_above least NoTime range last = absurd (omega (arith, ints))

-- with none yet, and with one outcome more
pub least-start : (kind : FigureKind) (outcomes : List CandidateOutcome) → IsLeast kind outcomes 0 0
least-start kind outcomes = record { none_lower = λ k before. absurd (omega (arith, before)); higher_before = λ k before. absurd (omega (arith, before)); within = inl refl }

pub least-taken : (kind : FigureKind) (outcomes : List CandidateOutcome) (i c : ℕ) → IsLeast kind outcomes i c → rank (least_unsure kind) (outcome_at outcomes i) <ℤ rank (least_unsure kind) (outcome_at outcomes c) → IsLeast kind outcomes (i + 1) i
least-taken kind outcomes i c is less = record {
  none_lower = λ k h. ⊎_elim
      (λ (before : k < i). omega (arith, ints, is.none_lower k before, less))
      (λ (after : i ≤ k). let here : k ≡ i = omega arith in omega (arith, ints, ap (λ n. rank (least_unsure kind) (outcome_at outcomes n)) here))
      (cases_lt k i);
  higher_before = λ k before. omega (arith, ints, is.none_lower k before, less);
  within = inr (omega arith);
}

pub least-kept : (kind : FigureKind) (outcomes : List CandidateOutcome) (i c : ℕ) → IsLeast kind outcomes i c → rank (least_unsure kind) (outcome_at outcomes c) ≤ℤ rank (least_unsure kind) (outcome_at outcomes i) → IsLeast kind outcomes (i + 1) c
least-kept kind outcomes i c is not_less = record {
  none_lower = λ k h. ⊎_elim
      (λ (before : k < i). is.none_lower k before)
      (λ (after : i ≤ k). let here : k ≡ i = omega arith in omega (arith, ints, not_less, ap (λ n. rank (least_unsure kind) (outcome_at outcomes n)) here))
      (cases_lt k i);
  higher_before = is.higher_before;
  within = ⊎_elim (λ (none : c ≡ 0). inl none) (λ (some : c < i). inr (omega (arith, some))) is.within;
}

pub least-inside : (kind : FigureKind) (outcomes : List CandidateOutcome) (i c n : ℕ) → IsLeast kind outcomes i c → i ≤ n → 0 < n → c < n
least-inside kind outcomes i c n is most some = ⊎_elim (λ (none : c ≡ 0). omega (arith, none, some)) (λ (before : c < i). omega (arith, before, most)) is.within

-- The least rank of all outcomes is that of the first candidate that has it.
ranges_of : (kind : FigureKind) (outcomes : List CandidateOutcome) → All (IsOf kind) outcomes → (k : ℕ) → IsInRange (least_unsure kind) (outcome_at outcomes k)
ranges_of kind outcomes all = in_range_at (least_unsure kind) outcomes (All-weaker (IsOf kind) (IsInRange (least_unsure kind)) (in_range kind) outcomes all)

pub least-first : (kind : FigureKind) (outcomes : List CandidateOutcome) (c : ℕ) → All (IsOf kind) outcomes → IsLeast kind outcomes (length outcomes) c → IsFirstOfLeastRank (least_unsure kind) outcomes c
least-first kind outcomes c all is = record {
  none_lower = λ k. ⊎_elim
      (λ (inside : k < length outcomes). is.none_lower k inside)
      (λ (past : length outcomes ≤ k). omega (arith, ints, ap (rank (least_unsure kind)) (get_or_past outcomes k Above past), above_last (least_unsure kind) (outcome_at outcomes c) (ranges_of kind outcomes all c)))
      (cases_lt k (length outcomes));
  higher_before = is.higher_before;
}

-- the first of the least rank is ranked
pub first-ranked : (least : ℤ) (outcomes : List CandidateOutcome) (c : ℕ) → IsFirstOfLeastRank least outcomes c → IsRanked least outcomes (decided_at outcomes c)
first-ranked least outcomes c first = record { candidate = c; first = first; decides = refl }

-- If all ranks are past that of Below, all candidates have figures or are above them.
all_reach : (least : ℤ) (outcomes : List CandidateOutcome) → ((k : ℕ) → negsuc 2_147_483_645 ≤ℤ rank least (outcome_at outcomes k)) → AllReachFigures least outcomes
all_reach least outcomes from = record {
  timed = λ k e. omega (arith, ints, from k, ap (rank least) e);
  none_below = λ k below. omega (arith, ints, from k, rank-below least (outcome_at outcomes k) below);
}

first_below : (least : ℤ) (outcomes : List CandidateOutcome) (c : ℕ) (x : CandidateOutcome) → IsFirstOfLeastRank least outcomes c → outcome_at outcomes c ≡ x → MayBeBelow least x → IsFirstBelow least outcomes x c
first_below least outcomes c x is e below =
    let one = ap (rank least) e ∙ rank-below least x below in record {
      timed = λ k no_time. omega (arith, ints, one, is.none_lower k, ap (rank least) no_time);
      first = record {
        such = subst (MayBeBelow least) (sym e) below;
        none_before = λ k before other. omega (arith, ints, one, is.higher_before k before, rank-below least (outcome_at outcomes k) other);
      };
      there = e;
    }

rank-at_unsure : (least : ℤ) (outcomes : List CandidateOutcome) (k : ℕ) (s : ℤ) → negsuc 999_999_999 ≤ℤ s → outcome_at outcomes k ≡ Unsure s → rank least (outcome_at outcomes k) ≤ℤ s
rank-at_unsure least outcomes k s from e = omega (arith, ints, ap (rank least) e, rank-unsure_most least s from)

undecided : (least : ℤ) (outcomes : List CandidateOutcome) (c : ℕ) (s : ℤ) → ((k : ℕ) → IsInRange least (outcome_at outcomes k)) → IsFirstOfLeastRank least outcomes c → outcome_at outcomes c ≡ Unsure s → IsInRange least (Unsure s) → s ≢ least → IsUndecided least outcomes s c
undecided least outcomes c s ranges is e range other =
    let own = ap (rank least) e ∙ rank-unsure_figure least s other in record {
      reach = all_reach least outcomes (λ k. omega (arith, ints, own, is.none_lower k, range.0, other));
      lowest = record {
        material = record {
          unsure = e;
          matters = λ m h print.
              let at : rank least (outcome_at outcomes h) ≡ m = ap (rank least) print.first.such in
              ⊎_elim
              (λ (less : s <ℤ m). inl less)
              (λ (from : m ≤ℤ s). inr (
                omega (arith, ints, own, is.none_lower h, at),
                ⊎_elim
                    (λ (before : c < h). before)
                    (λ (after : h ≤ c). absurd (⊎_elim
                    (λ (less : h < c). omega (arith, ints, own, is.higher_before h less, at))
                    (λ (same : c ≤ h). let both : Print m ≡ Unsure s = sym print.first.such ∙ ap (outcome_at outcomes) (omega (arith, ints)) ∙ e in cc)
                    (cases_lt h c)))
                    (cases_lt c h),
              ))
              (less_or_not s m);
        };
        none_lower = λ r k material.
            let at = rank-at_unsure least outcomes k r (unsure-from least outcomes ranges k r material.unsure) material.unsure in
            ⊎_elim
            (λ (less : s <ℤ r). inl less)
            (λ (from : r ≤ℤ s). inr (
              omega (arith, ints, own, is.none_lower k, at),
              ⊎_elim
                  (λ (before : k < c). absurd (omega (arith, ints, own, is.higher_before k before, at)))
                  (λ (after : c ≤ k). after)
                  (cases_lt k c),
            ))
            (less_or_not s r);
      };
    }

lowest_figure : (least : ℤ) (outcomes : List CandidateOutcome) (c : ℕ) (t : ℤ) → ((k : ℕ) → IsInRange least (outcome_at outcomes k)) → IsFirstOfLeastRank least outcomes c → outcome_at outcomes c ≡ Print t → IsInRange least (Print t) → IsLowestFigure least outcomes t c
lowest_figure least outcomes c t ranges is e range =
    let own : rank least (outcome_at outcomes c) ≡ t = ap (rank least) e in
    let print : IsLowestPrint outcomes t c = record {
      none_lower = λ k u at. omega (arith, ints, own, is.none_lower k, ap (rank least) at);
      first = record { such = e; none_before = λ k before at. omega (arith, ints, own, is.higher_before k before, ap (rank least) at) };
    } in record {
      reach = all_reach least outcomes (λ k. omega (arith, ints, own, is.none_lower k, range.0));
      none_material = λ s k material.
          let at = rank-at_unsure least outcomes k s (unsure-from least outcomes ranges k s material.unsure) material.unsure in
          ⊎_elim
          (λ (less : s <ℤ t). omega (arith, ints, own, is.none_lower k, at))
          (λ (same : (s ≡ t) × (k < c)). omega (arith, ints, own, same.0, is.higher_before k same.1, at))
          (material.matters t c print);
      lowest = print;
    }

all_above : (least : ℤ) (outcomes : List CandidateOutcome) (c : ℕ) → ((k : ℕ) → IsInRange least (outcome_at outcomes k)) → IsFirstOfLeastRank least outcomes c → outcome_at outcomes c ≡ Above → AllAreAbove least outcomes
all_above least outcomes c ranges is e =
    let own : rank least (outcome_at outcomes c) ≡ pos 2_147_483_647 = ap (rank least) e in
    let above : (k : ℕ) → outcome_at outcomes k ≡ Above = λ k. only_above least (outcome_at outcomes k) (ranges k) (omega (arith, ints, own, is.none_lower k)) in record {
      reach = all_reach least outcomes (λ k. omega (arith, ints, own, is.none_lower k));
      none_material = λ s k material. let both : Above ≡ Unsure s = sym (above k) ∙ material.unsure in cc;
      none_printed = λ t k print. let both : Above ≡ Print t = sym (above k) ∙ print in cc;
    }

decides : (least : ℤ) (outcomes : List CandidateOutcome) (c : ℕ) (x : CandidateOutcome) → ((k : ℕ) → IsInRange least (outcome_at outcomes k)) → IsFirstOfLeastRank least outcomes c → outcome_at outcomes c ≡ x → IsLowest least outcomes (decided_by x c)
decides least outcomes c NoTime ranges is e = record { such = e; none_before = λ k before no_time. omega (arith, ints, ap (rank least) e, is.higher_before k before, ap (rank least) no_time) }
decides least outcomes c Below ranges is e = first_below least outcomes c Below is e (inl refl)
decides least outcomes c (Unsure s) ranges is e =
    elim (equal_or_not s least) [
      | inl same ↦ inl (first_below least outcomes c (Unsure s) is e (inr (ap Unsure same)))
      | inr other ↦ inr (undecided least outcomes c s ranges is e (subst (IsInRange least) e (ranges c)) other)
    ]
decides least outcomes c (Print t) ranges is e = lowest_figure least outcomes c t ranges is e (subst (IsInRange least) e (ranges c))
decides least outcomes c Above ranges is e = all_above least outcomes c ranges is e

-- The ranked answer is the rule's.
pub ranked_lowest : (kind : FigureKind) (outcomes : List CandidateOutcome) (answer : Lowest) → All (IsOf kind) outcomes → IsRanked (least_unsure kind) outcomes answer → IsLowest (least_unsure kind) outcomes answer
ranked_lowest kind outcomes answer all ranked =
    subst (IsLowest (least_unsure kind) outcomes) (sym ranked.decides)
    (decides (least_unsure kind) outcomes ranked.candidate (outcome_at outcomes ranked.candidate) (ranges_of kind outcomes all) ranked.first refl)

-- It names one of the candidates.
inside : (outcomes : List CandidateOutcome) (c : ℕ) (x : CandidateOutcome) → outcome_at outcomes c ≡ x → ¬ (x ≡ Above) → c < length outcomes
inside outcomes c x e other =
    ⊎_elim
    (λ (within : c < length outcomes). within)
    (λ (past : length outcomes ≤ c). absurd (other (sym e ∙ get_or_past outcomes c Above past)))
    (cases_lt c (length outcomes))

of-at : (kind : FigureKind) (outcomes : List CandidateOutcome) → All (IsOf kind) outcomes → (k : ℕ) → IsOf kind (outcome_at outcomes k)
of-at kind outcomes all k =
    ⊎_elim
    (λ (within : k < length outcomes). all k Above within)
    (λ (past : length outcomes ≤ k). subst (IsOf kind) (sym (get_or_past outcomes k Above past)) tt)
    (cases_lt k (length outcomes))

decided-of : (kind : FigureKind) (outcomes : List CandidateOutcome) (c : ℕ) (x : CandidateOutcome) → IsOf kind x → outcome_at outcomes c ≡ x → IsLowestOf kind (length outcomes) (decided_by x c)
decided-of kind outcomes c NoTime of e = inside outcomes c NoTime e (λ above. cc)
decided-of kind outcomes c Below of e = inside outcomes c Below e (λ above. cc)
decided-of kind outcomes c (Unsure s) of e = (inside outcomes c (Unsure s) e (λ above. cc), of)
decided-of kind outcomes c (Print t) of e = (inside outcomes c (Print t) e (λ above. cc), of)
decided-of kind outcomes c Above of e = tt

pub ranked_of : (kind : FigureKind) (outcomes : List CandidateOutcome) (answer : Lowest) → All (IsOf kind) outcomes → IsRanked (least_unsure kind) outcomes answer → IsLowestOf kind (length outcomes) answer
ranked_of kind outcomes answer all ranked =
    subst (IsLowestOf kind (length outcomes)) (sym ranked.decides)
    (decided-of kind outcomes ranked.candidate (outcome_at outcomes ranked.candidate) (of-at kind outcomes all ranked.candidate) refl)
