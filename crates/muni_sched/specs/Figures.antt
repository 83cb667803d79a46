-- The two kinds of figure: printed prices, in thousandths of a dollar, and printed yields, in
-- thousandths of a percent.
use Rattle.std.specs.Prelude.{ℕ, ◌<◌, ⊤, ℤ, pos, negsuc, ◌≤ℤ◌, unsigned_abs}
use Rattle.muni_rule.specs.PrintedYield.{boundary}
use Rattle.muni_terms.specs.declared.disclosure.Boundary.{Boundary}
use Rattle.muni_terms.specs.declared.disclosure.Boundary.TheVariants as boundary
use Rattle.muni_sched.specs.declared.answer.Figure.{Figure}
use Rattle.muni_sched.specs.declared.answer.Figure.TheVariants as figure
use Rattle.muni_sched.specs.FigureKind.{FigureKind, Price, Yield}
use Rattle.muni_sched.specs.LowestFigure.{Lowest}
use Rattle.muni_sched.specs.LowestFigure as lowest
use Rattle.muni_sched.specs.declared.outcome.CandidateOutcome.{CandidateOutcome}
use Rattle.muni_sched.specs.declared.outcome.CandidateOutcome.TheVariants.{Print, Unsure, Below, Above, NoTime}

-- The least figure at which a candidate may be unsure, just below 0.000 dollars or -5.000 percent.
-- Lower yields are printed for one payment to come alone, and are exact.
abbrev pub least_unsure : FigureKind → ℤ
least_unsure Price = negsuc 0
least_unsure Yield = negsuc 5_000

-- so many thousandths as a figure
abbrev pub figure_of : FigureKind → ℤ → Figure
figure_of Price t = figure.Price (unsigned_abs t)
figure_of Yield t = figure.Yield t

-- where the prices or the yields begin that are printed as t
abbrev pub boundary_of : FigureKind → ℤ → Boundary
boundary_of Price t = boundary.Price (unsigned_abs t)
boundary_of Yield t = boundary.Yield (boundary t)

-- The outcomes that a candidate may have: a price is at most 100,000 dollars, and a yield at most
-- 999.999 percent, and about 100 if it may be unsure.
abbrev pub IsOf : FigureKind → CandidateOutcome → Type 0
IsOf Price (Print t) = (pos 0 ≤ℤ t) × (t ≤ℤ pos 100_000_000)
IsOf Price (Unsure s) = (least_unsure Price ≤ℤ s) × (s ≤ℤ pos 99_999_999)
IsOf Yield (Print t) = (negsuc 89_999 ≤ℤ t) × (t ≤ℤ pos 999_999)
IsOf Yield (Unsure s) = (least_unsure Yield ≤ℤ s) × (s ≤ℤ pos 100_001)
IsOf kind Below = ⊤
IsOf kind Above = ⊤
IsOf kind NoTime = ⊤

-- the lowest of such names one of n candidates
abbrev pub IsLowestOf : FigureKind → ℕ → Lowest → Type 0
IsLowestOf kind n (lowest.Low t c) = (c < n) × IsOf kind (Print t)
IsLowestOf kind n (lowest.Undecided s c) = (c < n) × IsOf kind (Unsure s)
IsLowestOf kind n (lowest.Below c) = c < n
IsLowestOf kind n lowest.Above = ⊤
IsLowestOf kind n (lowest.NoTime c) = c < n
