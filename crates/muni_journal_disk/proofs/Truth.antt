-- What is remembered of a disk agrees with its images.
use Rattle.std.proofs.Common.{◌≡◌, inl, inr, ℕ, zero, suc, ◌+◌, ◌-◌, ◌<◌, ◌||◌, Bool, true, false, cond, Some, Vec, Global, List, [], ◌∷◌, length, drop, refl, sym, ◌∙◌, ap, subst, arith}
use Rattle.std.specs.Prelude.{slice_get}
use Rattle.std.proofs.lemmas.Bool.{cases_lt}
use Rattle.std.proofs.lemmas.Bool.Decides.{nat_tests}
use Rattle.muni_journal_disk.specs.Bytes.{byte_at, IsSameOutside}
use Rattle.muni_journal_disk.specs.declared.past.Piece.{Piece}
use Rattle.muni_journal_disk.specs.declared.past.Step.{Step}
use Rattle.muni_journal_disk.specs.declared.past.Step.TheVariants.{Read, Write, Synced, Unsynced}
use Rattle.muni_journal_disk.specs.declared.past.MadeCall.{MadeCall}
use Rattle.muni_journal_disk.specs.Past.{is_in, unsure_after, is_unsure, synced_after, synced_bytes, IsImage, IsStopped}
use Rattle.muni_journal_disk.specs.Moments.{WasImage}

-- what the disk read as before a call was an image then
abbrev pub IsTrue : List ℕ → List MadeCall → Type 0
IsTrue first past = (k : ℕ) (call : MadeCall) → slice_get past k ≡ Some call → IsImage first (drop (k + 1) past) call.before.items

at_later : (first : List ℕ) (past : List MadeCall) (new : MadeCall) → IsImage first past new.before.items → IsTrue first past
    → (k : ℕ) (call : MadeCall) → slice_get (new ∷ past) k ≡ Some call → IsImage first (drop (k + 1) (new ∷ past)) call.before.items
at_later first past new now was zero call is = let same : new ≡ call = cc is in subst (λ (x : MadeCall). IsImage first past x.before.items) same now
at_later first past new now was (suc k) call is =
    let e : suc k + 1 ≡ suc (k + 1) = omega arith in
    subst (λ (n : ℕ). IsImage first (drop n (new ∷ past)) call.before.items) (sym e) (was k call is)

pub truth : (first bytes : List ℕ) (past later : List MadeCall) (new : MadeCall) → later ≡ new ∷ past → new.before.items ≡ bytes
    → ((i : ℕ) → is_unsure past i ≡ false → byte_at bytes i ≡ byte_at (synced_bytes first past) i) → IsTrue first past → IsTrue first later
truth first bytes past later new is copied sure was =
    subst (λ (l : List MadeCall). IsTrue first l) (sym is) (at_later first past new (record { each = λ i certain. ap (λ (b : List ℕ). byte_at b i) copied ∙ sure i certain }) was)

drop_get : (past : List MadeCall) (k : ℕ) (call : MadeCall) → slice_get past k ≡ Some call → drop k past ≡ call ∷ drop (k + 1) past
drop_get [] k call is = absurd (cc is)
drop_get (x ∷ past) zero call is = let same : x ≡ call = cc is in ap (λ (c : MadeCall). c ∷ past) same
drop_get (x ∷ past) (suc k) call is = let e : suc k + 1 ≡ suc (k + 1) = omega arith in drop_get past k call is ∙ ap (λ (n : ℕ). call ∷ drop n (x ∷ past)) (sym e)

or_false : (a b : Bool) → a || b ≡ false → (a ≡ false) × (b ≡ false)
or_false false b e = (refl, e)
or_false true b e = absurd (cc e)

module _ (first bytes : List ℕ) (rest : List MadeCall) (call : MadeCall) (kept : ℕ) (before : IsImage first rest call.before.items) (i : ℕ) where
  by_step : (step : Step) → IsStopped call.before.items kept bytes step → unsure_after step (is_unsure rest i) i ≡ false → byte_at bytes i ≡ byte_at (synced_after call step (synced_bytes first rest)) i
  by_step Read stopped sure = ap (λ (b : List ℕ). byte_at b i) stopped ∙ before.each i sure
  by_step Synced stopped sure = ap (λ (b : List ℕ). byte_at b i) stopped
  by_step Unsynced stopped sure = ap (λ (b : List ℕ). byte_at b i) stopped ∙ before.each i sure
  by_step (Write piece) stopped sure =
      let parts = or_false (is_in piece i) (is_unsure rest i) sure in
      let kept_there : byte_at bytes i ≡ byte_at call.before.items i = elim (cases_lt i piece.place) [
        | inl below ↦ stopped.1.before i below
        | inr from ↦ elim (cases_lt i (piece.place + length piece.bytes.items)) [
          | inl within ↦ let t : is_in piece i ≡ true = grind (arith, nat_tests, from, within) in absurd (cc (t, parts.0))
          | inr past_it ↦ stopped.1.after i (omega (arith, past_it))
        ]
      ] in
      kept_there ∙ before.each i parts.1

pub stopped_image : (first bytes : List ℕ) (past : List MadeCall) (number kept : ℕ) (call : MadeCall) → number < length past → slice_get past (length past - 1 - number) ≡ Some call
    → IsTrue first past → IsStopped call.before.items kept bytes call.step → WasImage first past number bytes
stopped_image first bytes past number kept call made is was stopped =
    let k = length past - 1 - number in
    let image : IsImage first (call ∷ drop (k + 1) past) bytes = record { each = λ i sure. by_step first bytes (drop (k + 1) past) call kept (was k call is) i call.step stopped sure } in
    record { back = k; since = omega (arith, made); was = subst (λ (l : List MadeCall). IsImage first l bytes) (sym (drop_get past k call is)) image }

abbrev pub Sure : List ℕ → List ℕ → List MadeCall → Type 0
Sure first bytes past = (i : ℕ) → is_unsure past i ≡ false → byte_at bytes i ≡ byte_at (synced_bytes first past) i

pub sure_read : (first bytes : List ℕ) (past later : List MadeCall) (before : _) → later ≡ record { before = before; step = Read } ∷ past → Sure first bytes past → Sure first bytes later
sure_read first bytes past later before is sure = subst (λ (l : List MadeCall). Sure first bytes l) (sym is) sure

pub truth_either : (b : Bool) (first bytes : List ℕ) (past later : List MadeCall) (new : MadeCall) → later ≡ cond b (new ∷ past) past → new.before.items ≡ bytes
    → Sure first bytes past → IsTrue first past → IsTrue first later
truth_either true first bytes past later new is copied sure was = truth first bytes past later new is copied sure was
truth_either false first bytes past later new is copied sure was = subst (λ (l : List MadeCall). IsTrue first l) (sym is) was

pub sure_unsynced : (first bytes : List ℕ) (past later : List MadeCall) (before : _) → later ≡ record { before = before; step = Unsynced } ∷ past → Sure first bytes past → Sure first bytes later
sure_unsynced first bytes past later before is sure = subst (λ (l : List MadeCall). Sure first bytes l) (sym is) sure

pub sure_write : (first bytes next : List ℕ) (past later : List MadeCall) (before : _) (piece : Piece) (place count : ℕ) → piece.place ≡ place → length piece.bytes.items ≡ count
    → later ≡ record { before = before; step = Write piece } ∷ past → IsSameOutside place count bytes next → Sure first bytes past → Sure first next later
sure_write first bytes next past later before piece place count at size is keeps sure =
    subst (λ (l : List MadeCall). Sure first next l) (sym is) here
  where
    here : (i : ℕ) → is_in piece i || is_unsure past i ≡ false → byte_at next i ≡ byte_at (synced_bytes first past) i
    here i unsure =
        let parts = or_false (is_in piece i) (is_unsure past i) unsure in
        let kept_there : byte_at next i ≡ byte_at bytes i = elim (cases_lt i place) [
          | inl below ↦ keeps.before i below
          | inr from ↦ elim (cases_lt i (place + count)) [
            | inl within ↦ let t : is_in piece i ≡ true = grind (arith, nat_tests, from, within, at, size) in absurd (cc (t, parts.0))
            | inr past_it ↦ keeps.after i past_it
          ]
        ] in
        kept_there ∙ sure i parts.1

pub same_bytes : (place count : ℕ) (bytes : List ℕ) → IsSameOutside place count bytes bytes
same_bytes place count bytes = record { before = λ i below. refl; after = λ i past. refl }

pub sure_synced : (b : Bool) (first bytes : List ℕ) (past later : List MadeCall) (before : Vec ℕ Global) → later ≡ cond b (record { before = before; step = Synced } ∷ past) past → before.items ≡ bytes
    → Sure first bytes past → Sure first bytes later
sure_synced true first bytes past later before is copied sure = subst (λ (l : List MadeCall). Sure first bytes l) (sym is) (λ i h. ap (λ (x : List ℕ). byte_at x i) (sym copied))
sure_synced false first bytes past later before is copied sure = subst (λ (l : List MadeCall). Sure first bytes l) (sym is) sure
