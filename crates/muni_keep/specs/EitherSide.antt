-- A keeper of one of two kinds.
use Rattle.muni_keep.specs.declared.either_keeper.EitherKeeper.{EitherKeeper}
use Rattle.muni_keep.specs.declared.either_keeper.EitherKeeper.TheVariants.{First, Second}

-- what is said of a keeper by its kind
abbrev pub by_side : {K L A : Type 0} → (K → A) → (L → A) → EitherKeeper K L → A
by_side first second (First keeper) = first keeper
by_side first second (Second keeper) = second keeper
