-- The next moment of a disk.
use Rattle.std.proofs.Common.{◌≡◌, ◌⊎◌, inl, inr, ⊎_elim, ℕ, zero, suc, ◌+◌, ◌≤◌, List, ◌∷◌, length, drop, sym, subst, arith}
use Rattle.muni_journal_disk.specs.Disk.{GoesBy}
use Rattle.muni_journal_disk.specs.declared.past.MadeCall.{MadeCall}
use Rattle.muni_journal_disk.specs.Past.{IsImage}
use Rattle.muni_journal_disk.specs.Moments.{WasImage}

was_or_is : (first : List ℕ) (past : List MadeCall) (call : MadeCall) (t : ℕ) (c : List ℕ) (back : ℕ) → back + t ≤ length (call ∷ past) → IsImage first (drop back (call ∷ past)) c
    → WasImage first past t c ⊎ IsImage first (call ∷ past) c
was_or_is first past call t c zero since was = inr was
was_or_is first past call t c (suc back) since was = inl (record { back = back; since = omega (arith, since); was = was })

elapses_push : (first : List ℕ) (past : List MadeCall) (call : MadeCall)
    → GoesBy (length past) (length (call ∷ past)) (WasImage first past) (WasImage first (call ∷ past)) (IsImage first (call ∷ past))
elapses_push first past call = record {
  later = omega arith;
  told = λ t c le. (
    (λ was. was_or_is first past call t c was.back was.since was.was),
    (λ either. ⊎_elim (λ was. record { back = suc was.back; since = omega (arith, was.since); was = was.was }) (λ now. record { back = 0; since = omega (arith, le); was = now }) either),
  );
}

pub elapses : (first : List ℕ) (past later : List MadeCall) (call : MadeCall) → later ≡ call ∷ past
    → GoesBy (length past) (length later) (WasImage first past) (WasImage first later) (IsImage first later)
elapses first past later call is =
    subst (λ (l : List MadeCall). GoesBy (length past) (length l) (WasImage first past) (WasImage first l) (IsImage first l)) (sym is) (elapses_push first past call)
