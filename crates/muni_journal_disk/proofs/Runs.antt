-- Disk calls that follow one another.
use Rattle.std.proofs.Common.{inl, inr, ⊎_elim, ℕ, List, arith}
use Rattle.muni_journal_disk.specs.Disk.{GoesBy, StopsLeave}

module _ {D : Type 0} (clock : D → ℕ) (since : D → ℕ → List ℕ → Type 0) where
  -- no call is made yet
  pub started : (old : D) (IsSo : List ℕ → Type 0) → ((c : List ℕ) → since old (clock old) c → IsSo c) → StopsLeave clock since old old IsSo
  started old IsSo here = record { later = omega arith; each = here; before = λ t c le left. inl left }

  -- one more call, and what a stop leaves after it
  pub goes_on : (old mid new : D) (IsSo image : List ℕ → Type 0) → StopsLeave clock since old mid IsSo → GoesBy (clock mid) (clock new) (since mid) (since new) image
      → ((c : List ℕ) → image c → IsSo c) → StopsLeave clock since old new IsSo
  goes_on old mid new IsSo image so_far time here = record {
    later = omega (arith, so_far.later, time.later);
    each = λ c left. ⊎_elim (so_far.each c) (here c) ((time.told (clock old) c so_far.later).0 left);
    before = λ t c le left. ⊎_elim (so_far.before t c le) (λ now. inr (here c now)) ((time.told t c (omega (arith, le, so_far.later))).0 left);
  }

  -- two runs of calls, one after the other
  pub joins : (old mid new : D) (IsSo : List ℕ → Type 0) → StopsLeave clock since old mid IsSo → StopsLeave clock since mid new IsSo → StopsLeave clock since old new IsSo
  joins old mid new IsSo first second = record {
    later = omega (arith, first.later, second.later);
    each = λ c left. ⊎_elim (first.each c) (λ so. so) (second.before (clock old) c first.later left);
    before = λ t c le left. ⊎_elim (first.before t c le) inr (second.before t c (omega (arith, le, first.later)) left);
  }

  -- one call in which no image comes
  pub one_call : (image : D → List ℕ → Type 0) (old new : D) → ((c : List ℕ) → since old (clock old) c → image old c) → GoesBy (clock old) (clock new) (since old) (since new) (image new)
      → ((c : List ℕ) → image new c → image old c) → StopsLeave clock since old new (image old)
  one_call image old new now time fewer = goes_on old old new (image old) (image new) (started old (image old) now) time fewer

  -- and a run of calls after another
  pub no_image : (image : D → List ℕ → Type 0) (old mid new : D) → StopsLeave clock since old mid (image old) → ((c : List ℕ) → image mid c → image old c) → StopsLeave clock since mid new (image mid)
      → StopsLeave clock since old new (image old)
  no_image image old mid new first fewer second = joins old mid new (image old) first (record {
    later = second.later;
    each = λ c left. fewer c (second.each c left);
    before = λ t c le left. ⊎_elim inl (λ is. inr (fewer c is)) (second.before t c le left);
  })
