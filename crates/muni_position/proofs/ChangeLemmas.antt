-- The holdings of a desk after a put.
use Rattle.std.proofs.Common.{◌≡◌, ◌<◌, ℕ, true, false, cond, List, map, Option, Some, None, Result, Ok, Err, refl, sym, ap, subst, inl, inr, ◌⊎◌, ◌∙◌, arith}
use Rattle.std.specs.Prelude.{IfSome, OnOk, OnErr}
use Rattle.std.specs.List.{AllByRecursion}
use Rattle.std.specs.Option.{unwrap_or, option_map}
use Rattle.std.specs.Ordering.{eq_by_cmp}
use Rattle.std.specs.Cmp.Lexicographic.{nat_list_cmp_total}
use Rattle.std.specs.FinMap.{empty, get, entries, get-insert}
use Rattle.std.proofs.lemmas.Map.Lookups.{exact_bytes}
use Rattle.std.proofs.lemmas.Map.Views.{tells_apart}
use Rattle.muni_msg.specs.declared.command.Key.{Key}
use Rattle.muni_msg.specs.declared.version.Version.{Version}
use Rattle.muni_keep.specs.Tables.{Tables, last_at, with_version}
use Rattle.muni_keep.specs.Trades.{by_bytes, own, put_own}
use Rattle.muni_position.specs.Change.{IsChange, IsMoved, HasNoRoom, HasNoRoomFor, after_change, named_before, position_after}
use Rattle.muni_position.specs.Positions.{last_versions, position_of}
use Rattle.muni_position.specs.Holding.{nothing, share, share_of_last, plus, holding_of, position_in, IsBounded, IsInRange}
use Rattle.muni_position.specs.Holdings.{Holdings, kept, AreInRange, AreOf, AreRight, is_watched}
use Rattle.muni_position.specs.declared.change.Change.{Change}
use Rattle.muni_position.specs.declared.holding.Holding.{Holding}
use Rattle.muni_position.specs.declared.position.Position.{Position}
use Rattle.muni_position.proofs.BoundLemmas.{bounded_after, too_many_live}
use Rattle.muni_position.proofs.HoldingLemmas.{cancel, position_is}
use Rattle.muni_position.proofs.PutLemmas.{holding_after}
use Rattle.muni_position.proofs.SumLemmas.{share_other}

-- the last version adds nothing to another CUSIP than the one that it names
last_other : (cusip : List ℕ) (last : Option (ℕ × Version)) (version : Version) (before : List ℕ) → before ≡ named_before last version → eq_by_cmp by_bytes before cusip ≡ false → share_of_last cusip last ≡ nothing
last_other cusip None version before named apart = refl
last_other cusip (Some last) version before named apart = share_other cusip last.1 (ap (λ k. eq_by_cmp by_bytes k cusip) (sym named) ∙ apart)

-- each holding is moved
pub change_moves : (old room new : Holdings) (last : Option (ℕ × Version)) (version : Version) (change : Change) (cusip : List ℕ) → IsChange old last version change
    → kept room cusip ≡ kept old cusip → kept new cusip ≡ after_change change room cusip → IsMoved cusip last version (kept old cusip) (kept new cusip)
change_moves old room new last version change cusip is same made =
    let moved = λ (h : Holding). IsMoved cusip last version (kept old cusip) h in
    subst moved (sym made) (elim (eq_by_cmp by_bytes change.cusip cusip) as (λ b. eq_by_cmp by_bytes change.cusip cusip ≡ b → moved (cond b change.held (cond (eq_by_cmp by_bytes change.before cusip) change.left (kept room cusip)))) [
      | true ↦ λ t. subst (λ k. IsMoved k last version (kept old k) change.held) (tells_apart exact_bytes change.cusip cusip t) is.held
      | false ↦ λ here. elim (eq_by_cmp by_bytes change.before cusip) as (λ b. eq_by_cmp by_bytes change.before cusip ≡ b → moved (cond b change.left (kept room cusip))) [
        | true ↦ λ t. subst (λ k. IsMoved k last version (kept old k) change.left) (tells_apart exact_bytes change.before cusip t) is.left
        | false ↦ λ there.
            ap (λ h. plus h (share_of_last cusip last)) same
            ∙ ap (plus (kept old cusip)) (last_other cusip last version change.before is.before there ∙ sym (share_other cusip version (ap (λ k. eq_by_cmp by_bytes k cusip) (sym is.cusip) ∙ here)))
      ] refl
    ] refl)

pub change_ranges : (old room new : Holdings) (last : Option (ℕ × Version)) (version : Version) (change : Change) (cusip : List ℕ) → IsChange old last version change
    → AreInRange old → kept room cusip ≡ kept old cusip → kept new cusip ≡ after_change change room cusip → IsInRange (kept new cusip)
change_ranges old room new last version change cusip is range same made =
    subst IsInRange (sym made) (elim (eq_by_cmp by_bytes change.cusip cusip) as (λ b. IsInRange (cond b change.held (cond (eq_by_cmp by_bytes change.before cusip) change.left (kept room cusip)))) [
      | true ↦ is.held_range
      | false ↦ elim (eq_by_cmp by_bytes change.before cusip) as (λ b. IsInRange (cond b change.left (kept room cusip))) [
        | true ↦ is.left_range
        | false ↦ subst IsInRange (sym same) (range cusip)
      ]
    ])

watched_is : (watched : Option (List ℕ)) (desk name : List ℕ) → is_watched watched name ≡ true → watched ≡ Some desk → name ≡ desk
watched_is None desk name tested is = absurd (cc tested)
watched_is (Some watched) desk name tested is =
    let same : watched ≡ desk = cc is in
    sym (tells_apart exact_bytes watched name tested) ∙ same

pub watched_desk : (watched : Option (List ℕ)) (desk : List ℕ) → is_watched watched desk ≡ true → watched ≡ Some desk
watched_desk None desk tested = absurd (cc tested)
watched_desk (Some watched) desk tested = ap Some (tells_apart exact_bytes watched desk tested)

-- the holdings are right after a put of the watched desk
pub right_after : (watched : Option (List ℕ)) (told now : Option Tables) (old new : Holdings) (key : Key) (version : Version) (last : Option (ℕ × Version))
    → is_watched watched key.desk ≡ true → AreRight watched told old → IsBounded version → IfSome told (λ t. last ≡ last_at t key)
    → now ≡ option_map (with_version key version) told → ((cusip : List ℕ) → IsMoved cusip last version (kept old cusip) (kept new cusip)) → AreRight watched now new
right_after watched None now old new key version last tested right bounded found is moves = λ desk tables w t. absurd (cc (is, t))
right_after watched (Some told) now old new key version last tested right bounded found is moves = λ desk tables w t.
    let name : key.desk ≡ desk = watched_is watched desk key.desk tested w in
    let both : Some (with_version key version told) ≡ Some tables = sym is ∙ t in
    let same : with_version key version told ≡ tables = cc both in
    let was = right key.desk told (w ∙ ap Some (sym name)) refl in
    let versions = last_versions key.desk (with_version key version told) in
    let sums : (cusip : List ℕ) → kept new cusip ≡ holding_of cusip versions = λ cusip.
    cancel _ _ (share_of_last cusip last) (moves cusip ∙ ap (λ h. plus h (share cusip version)) (was.sums cusip) ∙ sym (holding_after cusip key version told) ∙ ap (λ l. plus (holding_of cusip versions) (share_of_last cusip l)) (sym found)) in
    let are : AreOf versions new = record { sums = sums; bounded = bounded_after key version told was.bounded bounded } in
    subst (λ l. AreOf l new) (ap (λ d. last_versions d (with_version key version told)) name ∙ ap (last_versions desk) same) are

versions_other : (desk : List ℕ) (key : Key) (version : Version) (tables : Tables) → eq_by_cmp by_bytes desk key.desk ≡ false → last_versions desk (with_version key version tables) ≡ last_versions desk tables
versions_other desk key version tables apart =
    ap (λ found. map (λ trade. trade.1.last) (entries (unwrap_or found empty)))
    (get-insert nat_list_cmp_total tables.desks key.desk (put_own key.reference version (own key.desk tables.desks)) desk
    ∙ ap (λ b. cond b (Some (put_own key.reference version (own key.desk tables.desks))) (get tables.desks desk)) apart)

-- and after one of another desk
other_after : (watched : Option (List ℕ)) (told now : Option Tables) (holdings : Holdings) (key : Key) (version : Version)
    → is_watched watched key.desk ≡ false → AreRight watched told holdings → now ≡ option_map (with_version key version) told → AreRight watched now holdings
other_after watched None now holdings key version tested right is = λ desk tables w t. absurd (cc (is, t))
other_after None (Some told) now holdings key version tested right is = λ desk tables w t. absurd (cc w)
other_after (Some watched) (Some told) now holdings key version tested right is = λ desk tables w t.
    let both : Some (with_version key version told) ≡ Some tables = sym is ∙ t in
    let same : with_version key version told ≡ tables = cc both in
    let name : watched ≡ desk = cc w in
    subst (λ l. AreOf l holdings) (sym (versions_other desk key version told (ap (λ d. eq_by_cmp by_bytes d key.desk) (sym name) ∙ tested)) ∙ ap (last_versions desk) same) (right desk told w refl)

pub right_still : (watched : Option (List ℕ)) (told now : Option Tables) (holdings : Holdings) → AreRight watched told holdings → now ≡ told → AreRight watched now holdings
right_still watched told now holdings right same = λ desk tables w t. right desk tables w (sym same ∙ t)

pub other_put : {T E : Type 0} (result : Result T E) (watched : Option (List ℕ)) (told now : Option Tables) (holdings : Holdings) (key : Key) (version : Version)
    → is_watched watched key.desk ≡ false → AreRight watched told holdings → OnOk result (now ≡ option_map (with_version key version) told) → OnErr result (now ≡ told) → AreRight watched now holdings
other_put (Ok x) watched told now holdings key version tested right put same = other_after watched told now holdings key version tested right put
other_put (Err e) watched told now holdings key version tested right put same = right_still watched told now holdings right same

-- what is kept is the position over the tables
pub told_position : (watched : Option (List ℕ)) (told : Option Tables) (holdings : Holdings) (cusip : List ℕ) (position : Position) → AreRight watched told holdings
    → position ≡ position_in (kept holdings cusip) → IfSome watched (λ desk. IfSome told (λ t. position ≡ position_of cusip (last_versions desk t)))
told_position None told holdings cusip position right is = tt
told_position (Some desk) None holdings cusip position right is = tt
told_position (Some desk) (Some t) holdings cusip position right is = is ∙ ap position_in ((right desk t refl refl).sums cusip) ∙ position_is cusip (last_versions desk t)

-- what the desk holds after a put is what the shares of its versions move
after_moved : (desk : List ℕ) (holdings : Holdings) (key : Key) (version : Version) (last : Option (ℕ × Version)) (told : Tables) (cusip : List ℕ)
    → key.desk ≡ desk → AreOf (last_versions desk told) holdings → last ≡ last_at told key → IsMoved cusip last version (kept holdings cusip) (holding_of cusip (last_versions key.desk (with_version key version told)))
after_moved desk holdings key version last told cusip name right found =
    ap (λ l. plus (holding_of cusip (last_versions key.desk (with_version key version told))) (share_of_last cusip l)) found
    ∙ holding_after cusip key version told
    ∙ ap (λ h. plus h (share cusip version)) (ap (λ d. holding_of cusip (last_versions d told)) name ∙ sym (right.sums cusip))

-- so if no holding in its range comes after a put, too many trades would be live
no_room : (desk : List ℕ) (holdings : Holdings) (key : Key) (version : Version) (last : Option (ℕ × Version)) (told : Tables) (cusip : List ℕ)
    → key.desk ≡ desk → AreOf (last_versions desk told) holdings → IsBounded version → last ≡ last_at told key → HasNoRoom holdings last version cusip
    → 100_000_000 < (position_after cusip key version told).live
no_room desk holdings key version last told cusip name right bounded found none =
    let all = bounded_after key version told (subst (λ d. AllByRecursion IsBounded (last_versions d told)) (sym name) right.bounded) bounded in
    too_many_live cusip (last_versions key.desk (with_version key version told)) all (λ range. none _ range (after_moved desk holdings key version last told cusip name right found))

-- and the desk has no room for it
pub none_fits : (watched : Option (List ℕ)) (told : Option Tables) (holdings : Holdings) (key : Key) (version : Version) (last : Option (ℕ × Version)) (before cusip : List ℕ)
    → is_watched watched key.desk ≡ true → AreRight watched told holdings → IsBounded version → IfSome told (λ t. last ≡ last_at t key)
    → HasNoRoom holdings last version before ⊎ HasNoRoom holdings last version cusip → IfSome told (λ t. HasNoRoomFor watched key version t)
none_fits watched None holdings key version last before cusip tested right bounded found none = tt
none_fits None (Some told) holdings key version last before cusip tested right bounded found none = absurd (cc tested)
none_fits (Some desk) (Some told) holdings key version last before cusip tested right bounded found (inl none) =
    (tested, (before, no_room desk holdings key version last told before (watched_is (Some desk) desk key.desk tested refl) (right desk told refl refl) bounded found none))
none_fits (Some desk) (Some told) holdings key version last before cusip tested right bounded found (inr none) =
    (tested, (cusip, no_room desk holdings key version last told cusip (watched_is (Some desk) desk key.desk tested refl) (right desk told refl refl) bounded found none))

-- and if it was put, the desk had room
pub had_room : (watched : Option (List ℕ)) (told now : Option Tables) (holdings : Holdings) (key : Key) (version : Version)
    → AreInRange holdings → AreRight watched now holdings → now ≡ option_map (with_version key version) told → IfSome told (λ t. ¬ (HasNoRoomFor watched key version t))
had_room watched None now holdings key version range right is = tt
had_room None (Some told) now holdings key version range right is = λ none. absurd (cc none.0)
had_room (Some desk) (Some told) now holdings key version range right is = λ none.
    let name : key.desk ≡ desk = watched_is (Some desk) desk key.desk none.0 refl in
    let cusip = none.1.0 in
    let held = ap (λ (h : Holding). h.live) ((right key.desk (with_version key version told) (ap Some (sym name)) is).sums cusip) in
    let live = ap (λ (p : Position). p.live) (position_is cusip (last_versions key.desk (with_version key version told))) in
    absurd (omega (arith, none.1.1, (range cusip).few, held, live))

-- a desk that is not watched needs none
pub none_needed : (watched : Option (List ℕ)) (told : Option Tables) (key : Key) (version : Version) → is_watched watched key.desk ≡ false → IfSome told (λ t. ¬ (HasNoRoomFor watched key version t))
none_needed watched None key version tested = tt
none_needed watched (Some told) key version tested = λ none. absurd (cc (tested, none.0))
