-- Why a fault is counted for the disk of a name.
use Rattle.std.proofs.Common.{◌≡◌, ◌⊎◌, inl, inr, ⊎_elim, sym, refl, subst, ℕ, List, Option, Some, None}
use Rattle.std.specs.Prelude.{is_some, IfSome}
use Rattle.muni_edge.specs.Faults.{Rose}
use Rattle.muni_journal_disk.specs.Disk.{ReadsAs, IfRead}
use Rattle.muni_journal_disk.specs.declared.fault.DiskFault.TheVariants.{Failed}
use Rattle.muni_journal.specs.Journal.{IsNoJournal}
use Rattle.muni_journal.specs.declared.fetching.FetchFault.{FetchFault}
use Rattle.muni_journal.specs.declared.fetching.FetchFault.TheVariants.{Disk, NotAJournal}

-- A disk was taken from its shelf and came back: it has failed meanwhile, or what it reads as is no journal.
pub shelf_cause : (old mid bytes : Option (List ℕ)) (before after had has : ℕ) (fault : FetchFault) → bytes ≡ old → is_some mid ≡ is_some old → IfSome old (λ _. had ≡ before) → IfSome mid (λ _. after ≡ has)
    → (fault ≡ Disk Failed → Rose had has) → (fault ≡ NotAJournal → IfRead bytes IsNoJournal) → (fault ≡ Disk Failed) ⊎ (fault ≡ NotAJournal)
    → IfSome old (λ b. Rose before after ⊎ IsNoJournal b)
shelf_cause None mid bytes before after had has fault is tells taken back failed none why = tt
shelf_cause (Some b) None bytes before after had has fault is tells taken back failed none why = absurd (cc tells)
shelf_cause (Some b) (Some m) bytes before after had has fault is tells taken back failed none why =
    ⊎_elim (λ e. inl (subst (λ (n : ℕ). Rose n after) taken (subst (λ (n : ℕ). Rose had n) (sym back) (failed e))))
    (λ e. inr (none e b (subst (λ (o : Option (List ℕ)). ReadsAs o b) (sym is) (λ i. refl))))
    why
