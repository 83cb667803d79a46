-- Which price is printed at a yield (MSRB Rule G-33(b)(i), to the accuracy of this desk), where
-- `AtLeast` tells the amounts that the exact price is at least.
use Rattle.std.specs.Prelude.{◌≡◌, ◌⊎◌, ℕ, ℤ, pos, ◌≤ℤ◌}
use Rattle.muni_rule.specs.Accuracy.{TruncatesBy}
use Rattle.muni_rule.specs.declared.basis.Basis.{Basis}
use Rattle.muni_rule.specs.declared.basis.Basis.TheVariants.{Thirty360}

-- so many thousandths are printed: the exact price, truncated
abbrev pub IsPrintedPriceBy : Basis → (ℤ → Type 0) → ℕ → Type 0
IsPrintedPriceBy basis AtLeast t = TruncatesBy basis AtLeast t

-- none is printed, since the exact price is below zero
pub record IsBelowZero (AtLeast : ℤ → Type 0) : Type 0 where
  pub zero_not_reached : ¬ (AtLeast (pos 0))

-- the amounts that an exact price is at least are all those up to it
abbrev pub IsClosed : (ℤ → Type 0) → Type 0
IsClosed AtLeast = (amount smaller : ℤ) → smaller ≤ℤ amount → AtLeast amount → AtLeast smaller

-- one price is printed and no other, or the exact price is below zero, and not both
pub record HasOnePriceBy (basis : Basis) (AtLeast : ℤ → Type 0) : Type 0 where
  pub some : IsBelowZero AtLeast ⊎ ((t : ℕ) × IsPrintedPriceBy basis AtLeast t)
  pub one_is_printed : (s t : ℕ)
      → IsPrintedPriceBy basis AtLeast s → IsPrintedPriceBy basis AtLeast t → s ≡ t
  pub none_below_zero : (t : ℕ) → IsPrintedPriceBy basis AtLeast t → ¬ (IsBelowZero AtLeast)

-- the same of 30/360, by which all issues count that are no notes
abbrev pub IsPrintedPrice : (ℤ → Type 0) → ℕ → Type 0
IsPrintedPrice AtLeast t = IsPrintedPriceBy Thirty360 AtLeast t

abbrev pub HasOnePrice : (ℤ → Type 0) → Type 0
HasOnePrice AtLeast = HasOnePriceBy Thirty360 AtLeast
