-- The part of a journal that has been read.
use Rattle.std.specs.Prelude.{◌≡◌, ℕ, List, Some}
use Rattle.muni_journal.specs.Journal.{Place, end_from, journal_of}

-- from this place on the journal goes on to its end
pub record GoesOn (bytes : List ℕ) (at : Place) : Type 0 where
  pub sound : (most : ℕ) (e : Place) → end_from most bytes at ≡ Some e → journal_of bytes ≡ Some e
  pub whole : (e : Place) → journal_of bytes ≡ Some e → (most : ℕ) × (end_from most bytes at ≡ Some e)
