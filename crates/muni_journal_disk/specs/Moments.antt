-- The moments of a disk in memory: one before each call, and the present one.
use Rattle.std.specs.Prelude.{◌≡◌, ◌↔◌, ℕ, ◌+◌, ◌≤◌, false, List, length, drop, Some}
use Rattle.std.proofs.Common.{◌∙◌, subst, arith}
use Rattle.muni_journal_disk.specs.Bytes.{byte_at}
use Rattle.muni_journal_disk.specs.Disk.{ReadsAs}
use Rattle.muni_journal_disk.specs.declared.past.MadeCall.{MadeCall}
use Rattle.muni_journal_disk.specs.Past.{IsImage, is_unsure, synced_bytes}

-- an image of some moment since that of a number
pub record WasImage (first : List ℕ) (past : List MadeCall) (t : ℕ) (image : List ℕ) : Type 0 where
  pub back : ℕ
  pub since : back + t ≤ length past
  pub was : IsImage first (drop back past) image

-- since the present moment these are the images of that moment
pub at_present : (first : List ℕ) (past : List MadeCall) (c : List ℕ) → WasImage first past (length past) c ↔ IsImage first past c
at_present first past c = (
  (λ was. let none : was.back ≡ 0 = omega (arith, was.since) in subst (λ (n : ℕ). IsImage first (drop n past) c) none was.was),
  (λ now. record { back = 0; since = omega arith; was = now }),
)

-- what the disk reads as is an image, if it is as synced at every place that is not unsure
pub is_present : (first bytes : List ℕ) (past : List MadeCall) → ((i : ℕ) → is_unsure past i ≡ false → byte_at bytes i ≡ byte_at (synced_bytes first past) i)
    → (c : List ℕ) → ReadsAs (Some bytes) c → IsImage first past c
is_present first bytes past sure c reads = record { each = λ i certain. reads i ∙ sure i certain }
