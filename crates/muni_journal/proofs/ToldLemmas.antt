-- What a cabinet says as disks come back to their shelf.
use Rattle.std.proofs.Common.{◌≡◌, ◌≢◌, sym, ap, ◌∙◌, refl, subst, Bool, true, false, ℕ, List, Option, Some, None, if◌then◌else◌, nat_eq}
use Rattle.std.specs.Prelude.{is_some, IfSome}
use Rattle.std.specs.Option.{option_map, option_and_then}
use Rattle.std.specs.Cmp.Lexicographic.{pointwise, same_text, other_text}
use Rattle.std.proofs.lemmas.Cmp.{nat_list_eq_equiv}
use Rattle.muni_keep.specs.Tables.{Tables}
use Rattle.muni_journal_disk.specs.Disk.{ReadsAs}
use Rattle.muni_journal.specs.Journal.{tables_of}
use Rattle.muni_journal.specs.Told.{told_of}

-- what the disks of a shelf read as
abbrev pub Disks : Type 0
Disks = List ℕ → Option (List ℕ)

-- what holds of one name and of all others holds of all
by_test : (name o : List ℕ) (P : List ℕ → Type 0) (same : Bool) → same ≡ pointwise nat_eq o name → P name → ((o : List ℕ) → o ≢ name → P o) → P o
by_test name o P true is own others = subst P (sym (same_text o name is)) own
by_test name o P false is own others = others o (other_text o name is)

pub by_name : (name : List ℕ) (P : List ℕ → Type 0) → P name → ((o : List ℕ) → o ≢ name → P o) → (o : List ℕ) → P o
by_name name P own others o = by_test name o P (pointwise nat_eq o name) refl own others

-- the tables of a name whose disk is off the shelf
at_name : (name : List ℕ) (t : Tables) (disks : Disks) → told_of (Some (name, t)) disks name ≡ option_map (λ _. t) (disks name)
at_name name t disks =
    ap (λ (same : Bool). if same then option_map (λ _. t) (disks name) else option_and_then tables_of (disks name)) (nat_list_eq_equiv.refl name)

-- and of another name
other_name : (name o : List ℕ) (t u : Option Tables) (same : Bool) → same ≡ pointwise nat_eq name o → o ≢ name → (if same then t else u) ≡ u
other_name name o t u true is differs = absurd (differs (sym (same_text name o is)))
other_name name o t u false is differs = refl

at_other : (name o : List ℕ) (t : Tables) (disks : Disks) → o ≢ name → told_of (Some (name, t)) disks o ≡ told_of None disks o
at_other name o t disks differs =
    other_name name o (option_map (λ _. t) (disks o)) (option_and_then tables_of (disks o)) (pointwise nat_eq name o) refl differs

-- a disk that means the tables of its keeper
stand : (bytes : Option (List ℕ)) (kept : Tables) → ((c : List ℕ) → ReadsAs bytes c → tables_of c ≡ Some kept) → option_and_then tables_of bytes ≡ option_map (λ _. kept) bytes
stand None kept stands = refl
stand (Some c) kept stands = stands c (λ i. refl)

map_alike : (old new : Option (List ℕ)) (t : Tables) → is_some new ≡ is_some old → option_map (λ _. t) new ≡ option_map (λ _. t) old
map_alike None None t tells = refl
map_alike None (Some c) t tells = absurd (cc tells)
map_alike (Some b) None t tells = absurd (cc tells)
map_alike (Some b) (Some c) t tells = refl

-- a disk comes back and means the tables that were known for it
pub told_still : (name : List ℕ) (kept : Tables) (old new : Disks) (bytes : Option (List ℕ)) → new name ≡ bytes → ((c : List ℕ) → ReadsAs bytes c → tables_of c ≡ Some kept)
    → ((o : List ℕ) → is_some (new o) ≡ is_some (old o)) → ((o : List ℕ) → o ≢ name → new o ≡ old o) → (o : List ℕ) → told_of None new o ≡ told_of (Some (name, kept)) old o
told_still name kept old new bytes own stands tells others =
    by_name name (λ o. told_of None new o ≡ told_of (Some (name, kept)) old o)
    (ap (option_and_then tables_of) own
    ∙ (stand bytes kept stands
    ∙ (ap (option_map (λ _. kept)) (sym own) ∙ (map_alike (old name) (new name) kept (tells name) ∙ sym (at_name name kept old)))))
    (λ o differs. ap (option_and_then tables_of) (others o differs) ∙ sym (at_other name o kept old differs))

-- a disk is lent and comes back as it was
pub all_same : (name : List ℕ) (old new : Disks) → new name ≡ old name → ((o : List ℕ) → o ≢ name → new o ≡ old o) → (o : List ℕ) → told_of None new o ≡ told_of None old o
all_same name old new own others o = ap (option_and_then tables_of) (by_name name (λ o. new o ≡ old o) own others o)

all_kept : (lent kept : Tables) (told : Option (List ℕ)) → lent ≡ kept → IfSome (option_map (λ _. kept) told) (λ t. Some lent ≡ Some t)
all_kept lent kept None same = tt
all_kept lent kept (Some b) same = ap Some same

-- the keeper that is held has the tables that are known for its name
pub held_has : (held name : List ℕ) (kept lent : Tables) (disks : Disks) → name ≡ held → lent ≡ kept → IfSome (told_of (Some (held, kept)) disks name) (λ t. Some lent ≡ Some t)
held_has held name kept lent disks named same =
    subst (λ (n : List ℕ). IfSome (told_of (Some (held, kept)) disks n) (λ t. Some lent ≡ Some t)) (sym named)
    (subst (λ (o : Option Tables). IfSome o (λ t. Some lent ≡ Some t)) (sym (at_name held kept disks)) (all_kept lent kept (disks held) same))
