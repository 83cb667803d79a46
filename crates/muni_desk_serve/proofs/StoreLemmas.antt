-- Connections over a store that is lent and given back.
use Rattle.std.proofs.Common.{◌≡◌, ◌≤◌, ◌∙◌, ℕ, List, [], Option, Some, None, IfSome, is_some, Result, Err, inl, refl, sym, subst, arith}
use Rattle.muni_edge.specs.Calls.{raised}
use Rattle.muni_edge.specs.Door.{DoorState}
use Rattle.muni_edge.specs.Faults.{Rose}
use Rattle.muni_keep.specs.Tables.{Tables}
use Rattle.muni_keep.specs.declared.fault.KeepFault.{KeepFault}
use Rattle.muni_keep.specs.declared.fault.KeepFault.TheVariants as keeper
use Rattle.muni_desk_serve.specs.Rules.{ServingRules}
use Rattle.muni_desk_serve.specs.Connections.{Ends, IsRun, IsRunOver}
use Rattle.muni_desk_serve.specs.Fault.{Outcome, of_keeper}
use Rattle.muni_desk_serve.specs.Serves.{Traffic}
use Rattle.muni_desk_serve.specs.declared.fault.ServeFault.TheVariants as fault
use Rattle.muni_desk_serve.proofs.ConnectionLemmas.{none-served}

-- what is known of names
abbrev Told : Type 0
Told = List ℕ → Option Tables

told-too : (a b : Option Tables) (t : Tables) → is_some b ≡ is_some a → a ≡ Some t → (u : Tables) × (b ≡ Some u)
told-too a None t same some = absurd (cc (same, some))
told-too a (Some u) t same some = (u, refl)

itself : (tables : Option Tables) → IfSome tables (λ t. tables ≡ Some t)
itself None = tt
itself (Some t) = refl

same-too : (opening closing : Option Tables) → closing ≡ opening → IfSome opening (λ _. closing ≡ opening)
same-too None closing same = tt
same-too (Some t) closing same = same

-- the store could not be had, and no connection was served
pub none-over : {L : Type 0} (R : ServingRules) (told : L → Traffic) (port most : ℕ) (state : Option (DoorState L)) (opening closing : Option Tables) (before now : ℕ) (end : Outcome)
    → closing ≡ opening → before ≤ now → ((door : DoorState L) → Ends end [] most door)
    → IfSome state (λ d. IsRunOver R told port most d state opening closing before now end)
none-over R told port most None opening closing before now end same later ends = tt
none-over R told port most (Some d) opening closing before now end same later ends =
    let none = none-served R told most d d opening before refl refl refl in
    record {
      first = opening;
      last = opening;
      opens = itself opening;
      closes = same-too opening closing same;
      run = record {
        connections = [];
        after = d;
        told_after = refl;
        served = record { handed = none.handed; few = none.few; faults = none.faults; each = none.each; rose = omega (arith, none.rose, later) };
        bound = inl refl;
        ends = ends d;
      };
    }

-- the fault of a store that cannot be fetched ends the run
pub unfetched : {L : Type 0} (R : ServingRules) (told : L → Traffic) (port most : ℕ) (state : Option (DoorState L)) (opening closing : Option Tables) (before now : ℕ) (refusal : KeepFault) (outcome : Outcome)
    → outcome ≡ Err (of_keeper refusal) → closing ≡ opening → before ≤ now
    → IfSome state (λ d. IsRunOver R told port most d state opening closing before now outcome)
unfetched R told port most state opening closing before now keeper.Failed outcome is same later =
    rw is (none-over R told port most state opening closing before now (Err fault.Store) same later (λ door. refl))
unfetched R told port most state opening closing before now keeper.NoMemory outcome is same later =
    rw is (none-over R told port most state opening closing before now (Err fault.NoMemory) same later (λ door. inl refl))

-- and is counted
pub unfetched-counted : {A : Type 0} (fetched : Result A KeepFault) (refusal : KeepFault) (outcome : Outcome) (before now : ℕ)
    → fetched ≡ Err refusal → outcome ≡ Err (of_keeper refusal) → (fetched ≡ Err keeper.Failed → Rose before now)
    → outcome ≡ Err fault.Store → Rose before now
unfetched-counted fetched keeper.Failed outcome before now is ends failed store = failed is
unfetched-counted fetched keeper.NoMemory outcome before now is ends failed store = absurd (cc (ends, store))

-- the tables of the keeper that comes back are then those of its name, if that name was known
closes-with : (store : List ℕ) (lent_as : ℕ) (old mid new : Told) (out : Option (List ℕ × ℕ)) (first last opening : Option Tables) → old store ≡ opening
    → is_some (mid store) ≡ is_some (old store) → out ≡ Some (store, lent_as) → IfSome (old store) (λ t. first ≡ Some t) → is_some last ≡ is_some first
    → IfSome out (λ lent. IfSome (mid lent.0) (λ _. IfSome last (λ t. new lent.0 ≡ Some t)))
    → IfSome opening (λ _. new store ≡ last)
closes-with store lent_as old mid new out first last None told tells lent opens kept back = tt
closes-with store lent_as old mid new out first last (Some t) told tells lent opens kept back =
    let there = told-too (old store) (mid store) t tells told in
    let is : first ≡ Some t = subst (λ o. IfSome o (λ t. first ≡ Some t)) told opens in
    let now = told-too first last t kept is in
    let named = subst (λ o. IfSome o (λ lent. IfSome (mid lent.0) (λ _. IfSome last (λ t. new lent.0 ≡ Some t)))) lent back in
    let opened = subst (λ m. IfSome m (λ _. IfSome last (λ t. new store ≡ Some t))) there.1 named in
    subst (λ l. IfSome l (λ t. new store ≡ Some t)) now.1 opened ∙ sym now.1

counted-over : {L : Type 0} (R : ServingRules) (told : L → Traffic) (port most : ℕ) (door : DoorState L) (state : Option (DoorState L)) (first last : Option Tables) (before between now kept : ℕ) (end : Outcome)
    → IsRun R told port most door state first last 0 kept end → before ≤ between → now ≡ raised between kept
    → IsRun R told port most door state first last before now end
counted-over R told port most door state first last before between now kept end run later raise =
    record {
      connections = run.connections;
      after = run.after;
      told_after = run.told_after;
      served = record {
        handed = run.served.handed;
        few = run.served.few;
        faults = run.served.faults;
        each = run.served.each;
        rose = omega (arith, run.served.rose, later, raise);
      };
      bound = run.bound;
      ends = run.ends;
    }

-- a run over the keeper that was lent is one over its store
pub run-over : {L : Type 0} (R : ServingRules) (told : L → Traffic) (port most : ℕ) (state after : Option (DoorState L)) (store : List ℕ) (lent_as : ℕ) (old mid new : Told) (out : Option (List ℕ × ℕ))
    (first last : Option Tables) (before between now at kept : ℕ) (end : Outcome)
    → IfSome state (λ d. IsRun R told port most d after first last at kept end) → at ≡ 0 → before ≤ between → now ≡ raised between kept
    → is_some (mid store) ≡ is_some (old store) → out ≡ Some (store, lent_as) → IfSome (old store) (λ t. first ≡ Some t) → is_some last ≡ is_some first
    → IfSome out (λ lent. IfSome (mid lent.0) (λ _. IfSome last (λ t. new lent.0 ≡ Some t)))
    → IfSome state (λ d. IsRunOver R told port most d after (old store) (new store) before now end)
run-over R told port most None after store lent_as old mid new out first last before between now at kept end run none later raise tells lent opens still back = tt
run-over R told port most (Some d) after store lent_as old mid new out first last before between now at kept end run none later raise tells lent opens still back =
    record {
      first = first;
      last = last;
      opens = opens;
      closes = closes-with store lent_as old mid new out first last (old store) refl tells lent opens still back;
      run = counted-over R told port most d after first last before between now kept end
          (subst (λ n. IsRun R told port most d after first last n kept end) none run) later raise;
    }
