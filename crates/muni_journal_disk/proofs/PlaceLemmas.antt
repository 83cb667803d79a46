-- A place more on a shelf in memory.
use Rattle.std.proofs.Common.{◌≡◌, ◌≢◌, ◌∙◌, sym, ap, subst, refl, length, take, drop, Bool, true, false, ℕ, Option, Some, None, List, [], ◌∷◌, ◌++◌, if◌then◌else◌, ◌||◌, nat_eq}
use Rattle.std.specs.Option.{unwrap_or}
use Rattle.std.specs.Cmp.Lexicographic.{pointwise, same_text}
use Rattle.std.proofs.Math.Seq.{take-append_seam}
use Rattle.std.proofs.lemmas.Cmp.{nat_list_eq_equiv}
use Rattle.muni_journal_disk.specs.declared.mem_disk.MemDisk.{MemDisk}
use Rattle.muni_journal_disk.specs.declared.past.MadeCall.{MadeCall}
use Rattle.muni_journal_disk.specs.declared.mem_shelf.Place.{Place}
use Rattle.muni_journal_disk.specs.Frames.{IsMoved}
use Rattle.muni_journal_disk.specs.Moments.{WasImage}
use Rattle.muni_journal_disk.specs.Places.{has_place, disk_under, bytes_of, faults_of, clock_of, since_of}

or_true : (b : Bool) → b || true ≡ true
or_true true = refl
or_true false = refl

-- the name has its place
pub has_new : (places : List Place) (place : Place) → has_place (places ++ place ∷ []) place.name.items ≡ true
has_new [] place = rw (nat_list_eq_equiv.refl place.name.items) refl
has_new (p ∷ places) place = rw (has_new places place) (or_true (pointwise nat_eq p.name.items place.name.items))

other_name : (name o : List ℕ) (t u : Option MemDisk) (same : Bool) → same ≡ pointwise nat_eq name o → o ≢ name → (if same then t else u) ≡ u
other_name name o t u true is differs = absurd (differs (sym (same_text name o is)))
other_name name o t u false is differs = refl

if_same : {A : Type 0} (b : Bool) (t u v : A) → u ≡ v → (if b then t else u) ≡ (if b then t else v)
if_same true t u v same = refl
if_same false t u v same = same

-- and the other names have the disks that they had
pub others_have : (places : List Place) (place : Place) (o : List ℕ) → o ≢ place.name.items → disk_under (places ++ place ∷ []) o ≡ disk_under places o
others_have [] place o differs = other_name place.name.items o _ None (pointwise nat_eq place.name.items o) refl differs
others_have (p ∷ places) place o differs = if_same (pointwise nat_eq p.name.items o) _ _ _ (others_have places place o differs)

-- what a vector holds whose items a slice of all of them has left as they were, after one more
pub one_more : (len : ℕ) (old there new : List Place) (place : Place) → new ≡ take len (there ++ drop (length there) old) ++ place ∷ [] → there ≡ old → len ≡ length old → new ≡ old ++ place ∷ []
one_more len old there new place is same long =
    is ∙ ap (λ l. l ++ place ∷ []) (ap (λ n. take n (there ++ drop (length there) old)) (long ∙ ap length (sym same)) ∙ (take-append_seam there _ ∙ same))

-- a disk goes to its place
pub goes_there : (there : Option MemDisk) (disk : MemDisk) → there ≡ Some disk → IsMoved (length disk.past.items) (clock_of there) (WasImage disk.first.items disk.past.items) (since_of there)
goes_there there disk is = subst (λ (o : Option MemDisk). IsMoved (length disk.past.items) (clock_of o) (WasImage disk.first.items disk.past.items) (since_of o)) (sym is) (record { clock = refl; same = λ t c left. left })

-- and is what the shelf tells of under its name
pub read_there : (there : Option MemDisk) (disk : MemDisk) → there ≡ Some disk → Some (bytes_of there) ≡ Some disk.bytes.items
read_there there disk is = ap (λ (o : Option MemDisk). Some (bytes_of o)) is

pub failed_there : (there : Option MemDisk) (disk : MemDisk) → there ≡ Some disk → faults_of there ≡ disk.faults
failed_there there disk is = ap faults_of is

-- a disk comes out of its place, or is new
pub comes_out : (there : Option MemDisk) (new disk : MemDisk) → new.first.items ≡ [] → new.past.items ≡ [] → disk ≡ unwrap_or there new → IsMoved (clock_of there) (length disk.past.items) (since_of there) (WasImage disk.first.items disk.past.items)
comes_out (Some d) new disk first past is = subst (λ (x : MemDisk). IsMoved (length d.past.items) (length x.past.items) (WasImage d.first.items d.past.items) (WasImage x.first.items x.past.items)) (sym is) (record { clock = refl; same = λ t c left. left })
comes_out None new disk first past is = record {
  clock = ap (λ (x : MemDisk). length x.past.items) is ∙ ap length past;
  same = λ t c left. subst (λ (p : List MadeCall). WasImage [] p t c) past (subst (λ (f : List ℕ). WasImage f new.past.items t c) first (subst (λ (x : MemDisk). WasImage x.first.items x.past.items t c) is left));
}

-- nothing happens to a disk that stays
pub stays_there : (now was : Option MemDisk) → now ≡ was → IsMoved (clock_of was) (clock_of now) (since_of was) (since_of now)
stays_there now was is = subst (λ (o : Option MemDisk). IsMoved (clock_of was) (clock_of o) (since_of was) (since_of o)) (sym is) (record { clock = refl; same = λ t c left. left })
