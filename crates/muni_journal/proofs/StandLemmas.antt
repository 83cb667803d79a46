-- What a stop leaves of the disks of a cabinet while keepers are lent and given back.
use Rattle.std.proofs.Common.{◌≡◌, ◌≢◌, sym, ap, ◌∙◌, refl, subst, Bool, true, false, cond, ℕ, List, Option, Some, None, nat_eq, Ok, Err}
use Rattle.std.specs.Prelude.{Result, MatchBool, IfOk, OnErr}
use Rattle.std.specs.Cmp.Lexicographic.{pointwise, same_text}
use Rattle.std.proofs.lemmas.Cmp.{nat_list_eq_equiv}
use Rattle.muni_journal_disk.specs.Disk.{StopsLeave}
use Rattle.muni_journal_disk.specs.Frames.{IsMoved, KeepsMoments}
use Rattle.muni_journal_disk.specs.declared.disk.Disk as disk
use Rattle.muni_journal_disk.specs.declared.shelf.Shelf as shelf
use Rattle.muni_journal.specs.Journal.{Place, tables_of}
use Rattle.muni_journal.specs.Stops.{StandsFor}
use Rattle.muni_journal.specs.Cabinet.{IsBack}
use Rattle.muni_journal.specs.Whereabouts.{clock_at, LeftSince, LeavesNow, LendsAsItStands, FetchesAsItStands}
use Rattle.muni_journal.specs.declared.cabinet.Held.{Held}
use Rattle.muni_journal.specs.declared.keeper.JournalKeeper.{JournalKeeper}
use Rattle.muni_journal.proofs.JournalImages.{stand_now}
use Rattle.muni_journal.proofs.ToldLemmas.{by_name}

module _ {S D : Type 0} (of : shelf.Ghosts S D) (lends : disk.Ghosts D) where
  -- a disk comes off the shelf, and what is left by a stop since then is an image of it
  pub off_the_shelf : (at : S) (name : List ℕ) (was now : D) → ((c : List ℕ) → lends.image was c → lends.since was (lends.clock was) c) → IsMoved (of.clock at name) (lends.clock was) (of.since at name) (lends.since was)
      → StopsLeave lends.clock lends.since was now (lends.image was) → (c : List ℕ) → lends.since now (of.clock at name) c → of.since at name (of.clock at name) c
  off_the_shelf at name was now here moved run c left =
      let since = subst (λ (t : ℕ). lends.since now t c) (sym moved.clock) left in
      subst (λ (t : ℕ). of.since at name t c) moved.clock (moved.same (lends.clock was) c (here c (run.each c since)))

  -- and it goes back there
  pub on_the_shelf : (at after : S) (name : List ℕ) (was now : D) → ((c : List ℕ) → lends.image was c → lends.since was (lends.clock was) c) → IsMoved (of.clock at name) (lends.clock was) (of.since at name) (lends.since was)
      → StopsLeave lends.clock lends.since was now (lends.image was) → IsMoved (lends.clock now) (of.clock after name) (lends.since now) (of.since after name)
      → (c : List ℕ) → of.since after name (of.clock at name) c → of.since at name (of.clock at name) c
  on_the_shelf at after name was now here moved run back c left = off_the_shelf at name was now here moved run c (back.same (of.clock at name) c left)

  pub two_moves : (name : List ℕ) (old mid new : S) → KeepsMoments of.clock of.since name old mid → KeepsMoments of.clock of.since name mid new → KeepsMoments of.clock of.since name old new
  two_moves name old mid new first second = record {
    others = λ o differs.
        let one = first.others o differs in
        let two = second.others o differs in
        record { clock = two.clock ∙ one.clock; same = λ t c left. one.same t c (two.same t c left) };
  }

  -- the disk of a keeper means its tables, or those after its put in doubt
  pub keeper_stands : (k : JournalKeeper D lends) → ((c : List ℕ) → lends.since k.disk (lends.clock k.disk) c → lends.image k.disk c) → (c : List ℕ) → lends.since k.disk (lends.clock k.disk) c → StandsFor k.kept k.in_doubt None c
  keeper_stands k here c left =
      let at : Place = record { gate = k.gate; tables = k.kept } in
      stand_now at k.in_doubt (lends.image k.disk) k.at_rest k.doubtful c (here c left)

  -- nothing is done
  pub as_it_was : (held : Option (Held D lends)) (at : S) → ((h : Held D lends) (c : List ℕ) → lends.since h.keeper.disk (lends.clock h.keeper.disk) c → lends.image h.keeper.disk c)
      → (o c : List ℕ) → LeftSince of lends held at o (clock_at of lends held at o) c → LeavesNow of lends held at o c
  as_it_was None at here o c left = left
  as_it_was (Some h) at here o c left = by (pointwise nat_eq h.name.items o) left
    where
      by : (same : Bool) → MatchBool same (lends.since h.keeper.disk (cond same (lends.clock h.keeper.disk) (of.clock at o)) c) (of.since at o (cond same (lends.clock h.keeper.disk) (of.clock at o)) c)
          → MatchBool same (StandsFor h.keeper.kept h.keeper.in_doubt None c) (of.since at o (of.clock at o) c)
      by true now = keeper_stands h.keeper (here h) c now
      by false now = now

  -- a name other than that of the held keeper, and its own
  other_test : (h : Held D lends) (o : List ℕ) → o ≢ h.name.items → pointwise nat_eq h.name.items o ≡ false
  other_test h o differs = by (pointwise nat_eq h.name.items o) refl
    where
      by : (same : Bool) → same ≡ pointwise nat_eq h.name.items o → same ≡ false
      by true is = absurd (differs (sym (same_text h.name.items o is)))
      by false is = refl

  own_test : (h : Held D lends) → pointwise nat_eq h.name.items h.name.items ≡ true
  own_test h = nat_list_eq_equiv.refl h.name.items

  -- nothing is held
  pub none_held : {E : Type 0} (name : List ℕ) (result : Result (JournalKeeper D lends) E) (held still : Option (Held D lends)) (old new : S) → held ≡ None → still ≡ None → LendsAsItStands of lends name result old new
      → FetchesAsItStands of lends name result held still old new
  none_held {E} name result held still old new is_none is_still lent =
      subst (λ (h : Option (Held D lends)). FetchesAsItStands of lends name result h still old new) (sym is_none)
      (subst (λ (h : Option (Held D lends)). FetchesAsItStands of lends name result None h old new) (sym is_still) (record {
        lent = lent.lent;
        others = λ o c differs left. (lent.others.others o differs).same (of.clock old o) c left;
        unlent = all result lent;
      }))
    where
      all : (r : Result (JournalKeeper D lends) E) → LendsAsItStands of lends name r old new → OnErr r ((o c : List ℕ) → of.since new o (of.clock old o) c → of.since old o (of.clock old o) c)
      all (Ok k) one = tt
      all (Err e) one = λ o c left. by_name name (λ o. of.since new o (of.clock old o) c → of.since old o (of.clock old o) c) (one.unlent c) (λ o differs. (one.others.others o differs).same (of.clock old o) c) o left

  -- what the test of a name says, for the keeper that is held
  by_own : (h : Held D lends) (o : List ℕ) (P : Bool → Type 0) → o ≡ h.name.items → P true → P (pointwise nat_eq h.name.items o)
  by_own h o P is here = subst P (sym (ap (pointwise nat_eq h.name.items) is ∙ own_test h)) here

  by_other : (h : Held D lends) (o : List ℕ) (P : Bool → Type 0) → o ≢ h.name.items → P false → P (pointwise nat_eq h.name.items o)
  by_other h o P differs here = subst P (sym (other_test h o differs)) here

  -- the keeper that is held is lent
  pub lent_again : {E : Type 0} (h : Held D lends) (name : List ℕ) (k : JournalKeeper D lends) (at : S) → ((c : List ℕ) → lends.since h.keeper.disk (lends.clock h.keeper.disk) c → lends.image h.keeper.disk c)
      → name ≡ h.name.items → k.disk ≡ h.keeper.disk → FetchesAsItStands {E = E} of lends name (Ok k) (Some h) None at at
  lent_again h name k at here named same = record {
    lent = λ c. by_own h name (λ b. lends.since k.disk (cond b (lends.clock h.keeper.disk) (of.clock at name)) c → MatchBool b (StandsFor h.keeper.kept h.keeper.in_doubt None c) (of.since at name (of.clock at name) c)) named
        (λ left. keeper_stands h.keeper here c (subst (λ (d : D). lends.since d (lends.clock h.keeper.disk) c) same left));
    others = λ o c differs. by_other h o (λ b. of.since at o (cond b (lends.clock h.keeper.disk) (of.clock at o)) c → MatchBool b (StandsFor h.keeper.kept h.keeper.in_doubt None c) (of.since at o (of.clock at o) c))
        (λ is. differs (is ∙ sym named)) (λ left. left);
    unlent = tt;
  }

  -- it is let go, and another is lent
  pub let_go : {E : Type 0} (h : Held D lends) (name : List ℕ) (result : Result (JournalKeeper D lends) E) (held still : Option (Held D lends)) (old mid new : S) → held ≡ Some h → still ≡ None → name ≢ h.name.items
      → IsBack of lends h.name.items h.keeper old mid → LendsAsItStands of lends name result mid new → FetchesAsItStands of lends name result held still old new
  let_go {E} h name result held still old mid new is_held is_still differs back lent =
      subst (λ (w : Option (Held D lends)). FetchesAsItStands of lends name result w still old new) (sym is_held)
      (subst (λ (w : Option (Held D lends)). FetchesAsItStands of lends name result (Some h) w old new) (sym is_still) (record {
        lent = first result lent;
        others = others;
        unlent = last result lent;
      }))
    where
      at_name : IsMoved (of.clock old name) (of.clock mid name) (of.since old name) (of.since mid name)
      at_name = back.moments.others name differs

      name_left : (c : List ℕ) → of.since mid name (of.clock mid name) c → of.since old name (of.clock old name) c
      name_left c left = at_name.same (of.clock old name) c (subst (λ (t : ℕ). of.since mid name t c) at_name.clock left)

      first : (r : Result (JournalKeeper D lends) E) → LendsAsItStands of lends name r mid new → IfOk r (λ k. (c : List ℕ) → lends.since k.disk (clock_at of lends (Some h) old name) c → LeavesNow of lends (Some h) old name c)
      first (Ok k) one = λ c. by_other h name (λ b. lends.since k.disk (cond b (lends.clock h.keeper.disk) (of.clock old name)) c → MatchBool b (StandsFor h.keeper.kept h.keeper.in_doubt None c) (of.since old name (of.clock old name) c))
          differs (λ left. name_left c (one.lent c (subst (λ (t : ℕ). lends.since k.disk t c) (sym at_name.clock) left)))
      first (Err e) one = tt

      other_name : (c o : List ℕ) → o ≢ h.name.items → o ≢ name → of.since new o (clock_at of lends (Some h) old o) c → LeavesNow of lends (Some h) old o c
      other_name c o not_held differs_too = by_other h o (λ b. of.since new o (cond b (lends.clock h.keeper.disk) (of.clock old o)) c → MatchBool b (StandsFor h.keeper.kept h.keeper.in_doubt None c) (of.since old o (of.clock old o) c))
          not_held (λ left. (back.moments.others o not_held).same (of.clock old o) c ((lent.others.others o differs_too).same (of.clock old o) c left))

      held_name : (c : List ℕ) → h.name.items ≢ name → of.since new h.name.items (clock_at of lends (Some h) old h.name.items) c → LeavesNow of lends (Some h) old h.name.items c
      held_name c differs_too = by_own h h.name.items (λ b. of.since new h.name.items (cond b (lends.clock h.keeper.disk) (of.clock old h.name.items)) c → MatchBool b (StandsFor h.keeper.kept h.keeper.in_doubt None c) (of.since old h.name.items (of.clock old h.name.items) c))
          refl (λ left. back.stops c ((lent.others.others h.name.items differs_too).same (lends.clock h.keeper.disk) c left))

      others : (o c : List ℕ) → o ≢ name → of.since new o (clock_at of lends (Some h) old o) c → LeavesNow of lends (Some h) old o c
      others o c = by_name h.name.items (λ o. o ≢ name → of.since new o (clock_at of lends (Some h) old o) c → LeavesNow of lends (Some h) old o c) (held_name c) (other_name c) o

      own_name : (c : List ℕ) → ((c : List ℕ) → of.since new name (of.clock mid name) c → of.since mid name (of.clock mid name) c) → of.since new name (clock_at of lends (Some h) old name) c → LeavesNow of lends (Some h) old name c
      own_name c unlent = by_other h name (λ b. of.since new name (cond b (lends.clock h.keeper.disk) (of.clock old name)) c → MatchBool b (StandsFor h.keeper.kept h.keeper.in_doubt None c) (of.since old name (of.clock old name) c))
          differs (λ left. name_left c (unlent c (subst (λ (t : ℕ). of.since new name t c) (sym at_name.clock) left)))

      last : (r : Result (JournalKeeper D lends) E) → LendsAsItStands of lends name r mid new → OnErr r ((o c : List ℕ) → of.since new o (clock_at of lends (Some h) old o) c → LeavesNow of lends (Some h) old o c)
      last (Ok k) one = tt
      last (Err e) one = λ o c. by_name name (λ o. of.since new o (clock_at of lends (Some h) old o) c → LeavesNow of lends (Some h) old o c) (own_name c one.unlent) (λ o differs_too. others o c differs_too) o

  -- the disk of a keeper comes back to the shelf
  module _ (name : List ℕ) (k : JournalKeeper D lends) (disk : D) (new : S) (moved : IsMoved (lends.clock disk) (of.clock new name) (lends.since disk) (of.since new name)) where
    pub back_stands : ((c : List ℕ) → lends.since disk (lends.clock disk) c → lends.image disk c) → ((c : List ℕ) → lends.image disk c → tables_of c ≡ Some k.kept) → (c : List ℕ) → of.since new name (of.clock new name) c → tables_of c ≡ Some k.kept
    back_stands here images c left = images c (here c (subst (λ (t : ℕ). lends.since disk t c) moved.clock (moved.same (of.clock new name) c left)))

    pub back_stops : StopsLeave lends.clock lends.since k.disk disk (StandsFor k.kept k.in_doubt None) → (c : List ℕ) → of.since new name (lends.clock k.disk) c → StandsFor k.kept k.in_doubt None c
    back_stops run c left = run.each c (moved.same (lends.clock k.disk) c left)
