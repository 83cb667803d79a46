-- One connection after others.
use Rattle.std.proofs.Common.{◌≡◌, ◌≢◌, ◌≤◌, ◌⊎◌, ◌+◌, ◌-◌, ◌∙◌, ℕ, List, [], ◌∷◌, ◌++◌, length, drop, map, Option, Some, None, IfSome, slice_get, option_map, Ok, Err, inl, inr, refl, sym, ap, subst, arith}
use Rattle.std.specs.List.{Contains}
use Rattle.std.proofs.lemmas.List.{append_assoc, append-nil, length-append, map-append}
use Rattle.std.proofs.lemmas.List.Elements.{All-push, All-nil, Contains-append_left, Contains-push}
use Rattle.muni_edge.specs.Door.{DoorState, after_accept, handed_back, bound_to}
use Rattle.muni_keep.specs.Tables.{Tables}
use Rattle.muni_desk_serve.specs.Rules.{ServingRules}
use Rattle.muni_desk_serve.specs.Connections.{Connection, Exchange, exchange, AreServed, NoneWanted, SomeWanted, AreHandedBack, AreAll, Ends, WereServed, IsRun, IsNext}
use Rattle.muni_desk_serve.specs.Fault.{Outcome, outcome_after}
use Rattle.muni_desk_serve.specs.Serves.{Traffic, Serves, WasServed}
use Rattle.muni_desk_serve.specs.declared.served.Served.{Served}
use Rattle.muni_desk_serve.specs.declared.served.Served.TheVariants as served
use Rattle.muni_desk_serve.specs.declared.fault.ServeFault.TheVariants as fault

served-then : (R : ServingRules) (old mid new : Option Tables) (exchanges : List Exchange) (next : Exchange) (faults one : ℕ)
    → AreServed R old exchanges mid faults → Serves R mid next.before next.came new next.after one
    → AreServed R old (exchanges ++ next ∷ []) new (faults + one)
unfolding AreServed
served-then R old mid new [] next faults one before serves =
    (new, one, 0, omega (arith, before.1), subst (λ t. Serves R t next.before next.came new next.after one) before.0 serves, (refl, refl))
served-then R old mid new (first ∷ others) next faults one (then, here, more, is, serves, later) last =
    (then, here, more + one, omega (arith, is), serves, served-then R then mid new others next more one later last)

first-of : {L : Type 0} (links : List L) (link : L) → Some link ≡ slice_get links 0 → links ≡ link ∷ drop 1 links
first-of [] link e = cc e
first-of (x ∷ links) link e = let same : link ≡ x = cc e in ap (λ y. y ∷ links) (sym same)

-- none is handed back yet
none-back : {L : Type 0} (door after : DoorState L) → after.waiting ≡ door.waiting → after.served ≡ door.served → after.out ≡ door.out → AreHandedBack [] door after
none-back door after waiting served out = record { waiting = sym waiting; served = served ∙ sym (append-nil door.served); out = out }

back-then : {L : Type 0} (door mid : DoorState L) (connections : List (Connection L)) (next : Connection L)
    → AreHandedBack connections door mid → Some next.accepted ≡ slice_get mid.waiting 0
    → AreHandedBack (connections ++ next ∷ []) door (handed_back next.back (after_accept (Some next.accepted) mid))
back-then door mid connections next handed first =
    record {
      waiting = handed.waiting ∙ ap (λ l. map (λ c. c.accepted) connections ++ l) (first-of mid.waiting next.accepted first)
          ∙ sym (append_assoc (map (λ c. c.accepted) connections) (next.accepted ∷ []) (drop 1 mid.waiting))
          ∙ ap (λ l. l ++ drop 1 mid.waiting) (sym (map-append (λ c. c.accepted) connections (next ∷ [])));
      served = ap (λ l. l ++ next.back ∷ []) handed.served ∙ append_assoc door.served (map (λ c. c.back) connections) (next.back ∷ [])
          ∙ ap (λ l. door.served ++ l) (sym (map-append (λ c. c.back) connections (next ∷ [])));
      out = let same : mid.out + 1 - 1 ≡ mid.out = omega arith in same ∙ handed.out;
    }

-- how a run goes on that is not at its end
abbrev pub GoesOn : {L : Type 0} → Outcome → List (Connection L) → Type 0
GoesOn (Ok done) connections = NoneWanted connections
GoesOn (Err fault.Store) connections = ⊥
GoesOn (Err fault.Door) connections = ⊥
GoesOn (Err fault.NoMemory) connections = SomeWanted connections

none-then : {L : Type 0} (connections : List (Connection L)) (next : Connection L) → next.came ≢ served.NoMemory → NoneWanted connections → NoneWanted (connections ++ next ∷ [])
none-then {L} connections next not before = All-push (λ (c : Connection L). c.came ≢ served.NoMemory) connections next before not

came-then : {L : Type 0} (connections : List (Connection L)) (next : Connection L) → map (λ c. c.came) (connections ++ next ∷ []) ≡ map (λ c. c.came) connections ++ next.came ∷ []
came-then {L} connections next = map-append (λ (c : Connection L). c.came) connections (next ∷ [])

some-then : {L : Type 0} (connections : List (Connection L)) (next : Connection L) → SomeWanted connections → SomeWanted (connections ++ next ∷ [])
some-then {L} connections next some =
    subst (λ answers. Contains answers served.NoMemory) (sym (came-then connections next))
    (Contains-append_left (map (λ (c : Connection L). c.came) connections) (next.came ∷ []) served.NoMemory some)

wanted-last : {L : Type 0} (connections : List (Connection L)) (next : Connection L) → next.came ≡ served.NoMemory → SomeWanted (connections ++ next ∷ [])
wanted-last {L} connections next is =
    let before = map (λ (c : Connection L). c.came) connections in
    subst (λ answers. Contains answers served.NoMemory) (ap (λ came. before ++ came ∷ []) (sym is) ∙ sym (came-then connections next)) (Contains-push before served.NoMemory)

goes-on-by : {L : Type 0} (now : Outcome) (came : Served) (connections : List (Connection L)) (next : Connection L) → next.came ≡ came → GoesOn now connections
    → GoesOn (outcome_after now came) (connections ++ next ∷ [])
goes-on-by (Ok done) (served.Answered status) connections next is on = none-then connections next (λ e. cc (is, e)) on
goes-on-by (Ok done) served.Gone connections next is on = none-then connections next (λ e. cc (is, e)) on
goes-on-by (Ok done) served.LinkFault connections next is on = none-then connections next (λ e. cc (is, e)) on
goes-on-by (Ok done) served.NoMemory connections next is on = wanted-last connections next is
goes-on-by (Err fault.Store) came connections next is on = absurd on
goes-on-by (Err fault.Door) came connections next is on = absurd on
goes-on-by (Err fault.NoMemory) (served.Answered status) connections next is on = some-then connections next on
goes-on-by (Err fault.NoMemory) served.Gone connections next is on = some-then connections next on
goes-on-by (Err fault.NoMemory) served.LinkFault connections next is on = some-then connections next on
goes-on-by (Err fault.NoMemory) served.NoMemory connections next is on = wanted-last connections next is

at-end : {L : Type 0} (now : Outcome) (connections : List (Connection L)) (most : ℕ) (after : DoorState L) → GoesOn now connections → AreAll connections most after
    → Ends now connections most after
at-end (Ok done) connections most after on all = (on, all)
at-end (Err fault.Store) connections most after on all = absurd on
at-end (Err fault.Door) connections most after on all = tt
at-end (Err fault.NoMemory) connections most after on all = inr (on, all)

-- this many connections were served, and the run goes on
pub record IsOn {L : Type 0} (R : ServingRules) (told : L → Traffic) (port count : ℕ) (door : DoorState L) (state : Option (DoorState L)) (old new : Option Tables) (before now : ℕ) (end : Outcome) : Type 0 where
  pub connections : List (Connection L)
  pub after : DoorState L
  pub told_after : state ≡ Some after
  pub served : WereServed R told connections count door after old new before now
  pub counted : length connections ≡ count
  pub bound : after.port ≡ Some port
  pub on : GoesOn end connections

-- none were served yet
pub none-served : {L : Type 0} (R : ServingRules) (told : L → Traffic) (most : ℕ) (door after : DoorState L) (old : Option Tables) (before : ℕ)
    → after.waiting ≡ door.waiting → after.served ≡ door.served → after.out ≡ door.out → WereServed R told [] most door after old old before before
unfolding AreServed
none-served R told most door after old before waiting served out =
    record { handed = none-back door after waiting served out; few = omega arith; faults = 0; each = (refl, refl); rose = omega arith }

next-served : {L : Type 0} (R : ServingRules) (told : L → Traffic) (connections : List (Connection L)) (count : ℕ) (door mid : DoorState L) (old kept new : Option Tables) (before at now : ℕ) (next : Connection L)
    → WereServed R told connections count door mid old kept before at → Some next.accepted ≡ slice_get mid.waiting 0
    → WasServed R kept at (told next.accepted) next.came new now (told next.back)
    → WereServed R told (connections ++ next ∷ []) (count + 1) door (handed_back next.back (after_accept (Some next.accepted) mid)) old new before now
next-served R told connections count door mid old kept new before at now next served first one =
    record {
      handed = back-then door mid connections next served.handed first;
      few = omega (arith, served.few, length-append connections (next ∷ []));
      faults = served.faults + one.faults;
      each =
          subst (λ exchanges. AreServed R old exchanges new (served.faults + one.faults)) (sym (map-append (exchange told) connections (next ∷ [])))
          (served-then R old kept new (map (exchange told) connections) (exchange told next) served.faults one.faults served.each one.serves);
      rose = omega (arith, served.rose, one.rose);
    }

more-served : {L : Type 0} (R : ServingRules) (told : L → Traffic) (connections : List (Connection L)) (count most : ℕ) (door after : DoorState L) (old new : Option Tables) (before now : ℕ)
    → WereServed R told connections count door after old new before now → count ≤ most → WereServed R told connections most door after old new before now
more-served R told connections count most door after old new before now served few =
    record { handed = served.handed; few = omega (arith, served.few, few); faults = served.faults; each = served.each; rose = served.rose }

pub first-on : {L : Type 0} (R : ServingRules) (told : L → Traffic) (port : ℕ) (state after : Option (DoorState L)) (old : Option Tables) (before : ℕ) → after ≡ option_map (bound_to port) state
    → IfSome state (λ d. IsOn R told port 0 d after old old before before (Ok tt))
first-on R told port None after old before is = tt
first-on {L} R told port (Some d) after old before is =
    record {
      connections = [];
      after = bound_to port d;
      told_after = is;
      served = none-served R told 0 d (bound_to port d) old before refl refl refl;
      counted = refl;
      bound = refl;
      on = All-nil (λ (c : Connection L). c.came ≢ served.NoMemory);
    }

on-then : {L : Type 0} (R : ServingRules) (told : L → Traffic) (port count : ℕ) (door : DoorState L) (mid new : Option (DoorState L)) (old kept kept' : Option Tables) (before at now : ℕ) (end : Outcome) (came : Served)
    → IsOn R told port count door mid old kept before at end → IfSome mid (λ d. IsNext R told d new kept kept' at now came)
    → IsOn R told port (count + 1) door new old kept' before now (outcome_after end came)
on-then {L} R told port count door mid new old kept kept' before at now end came on next =
    let one = subst (λ m. IfSome m (λ d. IsNext R told d new kept kept' at now came)) on.told_after next in
    let last : Connection L = record { accepted = one.accepted; back = one.back; came = came } in
    record {
      connections = on.connections ++ last ∷ [];
      after = handed_back one.back (after_accept (Some one.accepted) on.after);
      told_after = one.after;
      served = next-served R told on.connections count door on.after old kept kept' before at now last on.served one.first one.served;
      counted = omega (arith, length-append on.connections (last ∷ []), on.counted);
      bound = on.bound;
      on = goes-on-by end came on.connections last refl on.on;
    }

pub next-on : {L : Type 0} (R : ServingRules) (told : L → Traffic) (port count : ℕ) (state mid new : Option (DoorState L)) (old kept kept' : Option Tables) (before at now : ℕ) (end : Outcome) (came : Served)
    → IfSome state (λ d. IsOn R told port count d mid old kept before at end) → IfSome mid (λ d. IsNext R told d new kept kept' at now came)
    → IfSome state (λ d. IsOn R told port (count + 1) d new old kept' before now (outcome_after end came))
next-on R told port count None mid new old kept kept' before at now end came on next = tt
next-on R told port count (Some d) mid new old kept kept' before at now end came on next =
    on-then R told port count d mid new old kept kept' before at now end came on next

-- the end of a run
ended : {L : Type 0} (R : ServingRules) (told : L → Traffic) (port count most : ℕ) (door : DoorState L) (state : Option (DoorState L)) (old new : Option Tables) (before now : ℕ) (end result : Outcome)
    → (on : IsOn R told port count door state old new before now end) → count ≤ most → Ends result on.connections most on.after
    → IsRun R told port most door state old new before now result
ended R told port count most door state old new before now end result on few ends =
    record {
      connections = on.connections;
      after = on.after;
      told_after = on.told_after;
      served = more-served R told on.connections count most door on.after old new before now on.served few;
      bound = inr on.bound;
      ends = ends;
    }

pub not-bound : {L : Type 0} (R : ServingRules) (told : L → Traffic) (port most : ℕ) (state after : Option (DoorState L)) (old : Option Tables) (before : ℕ) → after ≡ state
    → IfSome state (λ d. IsRun R told port most d after old old before before (Err fault.Door))
not-bound R told port most None after old before same = tt
not-bound R told port most (Some d) after old before same =
    record { connections = []; after = d; told_after = same; served = none-served R told most d d old before refl refl refl; bound = inl refl; ends = tt }

pub door-failed : {L : Type 0} (R : ServingRules) (told : L → Traffic) (port count most : ℕ) (state mid after : Option (DoorState L)) (old new : Option Tables) (before now : ℕ) (so_far : Outcome)
    → IfSome state (λ d. IsOn R told port count d mid old new before now so_far) → count ≤ most → after ≡ mid
    → IfSome state (λ d. IsRun R told port most d after old new before now (Err fault.Door))
door-failed R told port count most None mid after old new before now so_far on few same = tt
door-failed R told port count most (Some d) mid after old new before now so_far on few same =
    rw same (ended R told port count most d mid old new before now so_far (Err fault.Door) on few tt)

pub none-waits : {L : Type 0} (R : ServingRules) (told : L → Traffic) (port count most : ℕ) (state mid after : Option (DoorState L)) (old new : Option Tables) (before now : ℕ) (end : Outcome)
    → IfSome state (λ d. IsOn R told port count d mid old new before now end) → count ≤ most → after ≡ mid → IfSome mid (λ d. d.waiting ≡ [])
    → IfSome state (λ d. IsRun R told port most d after old new before now end)
none-waits R told port count most None mid after old new before now end on few same empty = tt
none-waits R told port count most (Some d) mid after old new before now end on few same empty =
    let left = subst (λ m. IfSome m (λ d. d.waiting ≡ [])) on.told_after empty in
    rw same (ended R told port count most d mid old new before now end end on few (at-end end on.connections most on.after on.on (inr left)))

pub all-served : {L : Type 0} (R : ServingRules) (told : L → Traffic) (port most : ℕ) (state after : Option (DoorState L)) (old new : Option Tables) (before now : ℕ) (end : Outcome)
    → IfSome state (λ d. IsOn R told port most d after old new before now end)
    → IfSome state (λ d. IsRun R told port most d after old new before now end)
all-served R told port most None after old new before now end on = tt
all-served R told port most (Some d) after old new before now end on =
    ended R told port most most d after old new before now end end on (omega arith) (at-end end on.connections most on.after on.on (inl on.counted))

-- a run that goes on is at no fault
pub goes-on : (now : Outcome) (came : Served) → (now ≡ (Ok tt)) ⊎ (now ≡ (Err fault.NoMemory)) → (outcome_after now came ≡ (Ok tt)) ⊎ (outcome_after now came ≡ (Err fault.NoMemory))
goes-on now (served.Answered status) is = is
goes-on now served.Gone is = is
goes-on now served.LinkFault is = is
goes-on now served.NoMemory is = inr refl

-- no link waits
pub none-left : {L : Type 0} (state after : Option (DoorState L)) → IfSome state (λ d. None ≡ slice_get d.waiting 0) → after ≡ option_map (after_accept None) state
    → (after ≡ state) × IfSome state (λ d. d.waiting ≡ [])
none-left None after first is = (is, tt)
none-left (Some d) after first is = (is, empty d.waiting first)
  where
    empty : {L : Type 0} (links : List L) → None ≡ slice_get links 0 → links ≡ []
    empty [] e = refl
    empty (x ∷ links) e = cc e

pub bound-port : {L : Type 0} (state after : Option (DoorState L)) (port : ℕ) → after ≡ option_map (bound_to port) state → IfSome after (λ d. d.port ≡ Some port)
bound-port None after port is = rw is tt
bound-port (Some d) after port is = rw is refl
