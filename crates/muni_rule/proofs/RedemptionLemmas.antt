-- What the list of redemptions holds.
use Rattle.std.proofs.Common.{◌≡◌, ◌<◌, ◌≤◌, ◌&&◌, Bool, true, false, zero, suc, List, [], ◌∷◌, ◌++◌, map, filter, Option, Some, None, refl, sym, subst, ap, ◌∙◌, arith}
use Rattle.std.specs.Prelude.{All, Contains}
use Rattle.std.specs.List.{last_or}
use Rattle.std.proofs.lemmas.Bool.{lt-ltb, le-leb}
use Rattle.std.proofs.lemmas.List.{get_or-map, length-map}
use Rattle.std.proofs.lemmas.List.Elements.{All-nil, All-cons, All-head, All-tail, All-weaker, All-contains, Contains-append_left, Contains-append_right}
use Rattle.muni_rule.specs.Civil.{Civil, order_of, is_before, is_not_after}
use Rattle.muni_rule.specs.Redemptions.{CallEntry, Redemption, at_maturity, end_of, redemption_by, call_days, redemptions_by, is_called_by, final_redemption, to_come_after}
use Rattle.muni_rule.specs.RedemptionLaws.{on_its_day, PlainCallsAreTheirDays, CallsStandOnEachDate}
use Rattle.muni_rule.specs.declared.call_term.CallTerm.TheVariants.{OnDay, OnOrAfter}

-- ---- calls on their days alone
abbrev IsPlain : CallEntry → Type 0
IsPlain entry = entry.term ≡ OnDay

redemption-plain : (entry : CallEntry) → IsPlain entry → redemption_by entry entry.date ≡ on_its_day entry
redemption-plain entry plain = rw plain refl

redemptions-plain : (quasi : List Civil) (entries : List CallEntry) (maturity : Civil) → All IsPlain entries → redemptions_by quasi entries maturity ≡ map on_its_day entries
unfolding redemptions_by
redemptions-plain quasi [] maturity plain = refl
redemptions-plain quasi (entry ∷ entries) maturity plain =
    let here = All-head IsPlain entry entries plain in
    let days : call_days entry.term quasi entry.date (end_of entries maturity) ≡ entry.date ∷ [] = rw here refl in
    let rest = redemptions-plain quasi entries maturity (All-tail IsPlain entry entries plain) in
    rw days (λ i. redemption-plain entry here i ∷ rest i)

last-plain : (before : Option CallEntry) (entries : List CallEntry) → is_called_by before ≡ false → All IsPlain entries → is_called_by (last_or before entries) ≡ false
last-plain before [] first plain = first
last-plain before (entry ∷ entries) first plain =
    let here = All-head IsPlain entry entries plain in
    last-plain (Some entry) entries (rw here refl) (All-tail IsPlain entry entries plain)

pub plain-calls : PlainCallsAreTheirDays
plain-calls settlement maturity quasi entries plain =
    let final : final_redemption entries maturity ≡ at_maturity maturity ∷ [] = rw (last-plain None entries refl plain) refl in
    let calls = redemptions-plain quasi entries maturity plain in
    λ i. to_come_after settlement (calls i) ++ final i

-- ---- calls on or after a day
contains-behind : {X : Type 0} (y x : X) (xs : List X) → Contains xs x → Contains (y ∷ xs) x
contains-behind y x xs contained = let inside = contained.1 in (suc contained.0, omega arith, contained.2)

filter-contains : {X : Type 0} (test : X → Bool) (xs : List X) → All (λ x. test x ≡ true → Contains (filter test xs) x) xs
filter-contains test [] = All-nil (λ x. test x ≡ true → Contains (filter test []) x)
filter-contains {X} test (y ∷ xs) =
    let Holds : X → Type 0 = λ x. test x ≡ true → Contains (filter test (y ∷ xs)) x in
    elim (test y) as (λ said. test y ≡ said → All Holds (y ∷ xs)) [
      | true ↦ λ is.
          let all : filter test (y ∷ xs) ≡ y ∷ filter test xs = rw is refl in
          All-cons Holds y xs (λ holds. subst (λ l. Contains l y) (sym all) (zero, omega arith, refl))
          (All-weaker (λ x. test x ≡ true → Contains (filter test xs) x) Holds (λ x rest. λ holds. subst (λ l. Contains l x) (sym all) (contains-behind y x (filter test xs) (rest holds))) xs (filter-contains test xs))
      | false ↦ λ is.
          let all : filter test (y ∷ xs) ≡ filter test xs = rw is refl in
          All-cons Holds y xs (λ holds. absurd (let never : false ≡ true = sym is ∙ holds in cc))
          (All-weaker (λ x. test x ≡ true → Contains (filter test xs) x) Holds (λ x rest. λ holds. subst (λ l. Contains l x) (sym all) (rest holds)) xs (filter-contains test xs))
    ] refl

pub contains-filter : {X : Type 0} (test : X → Bool) (xs : List X) (x : X) → Contains xs x → test x ≡ true → Contains (filter test xs) x
contains-filter test xs x contained = All-contains (λ x. test x ≡ true → Contains (filter test xs) x) xs x (filter-contains test xs) contained

contains-map : {X Y : Type 0} (f : X → Y) (xs : List X) (x : X) → Contains xs x → Contains (map f xs) (f x)
contains-map f xs x contained =
    let inside = contained.1 in
    let long = length-map xs f in
    (contained.0, omega arith, get_or-map f xs contained.0 x (f x) contained.1 ∙ ap f contained.2)

day-contained : (quasi : List Civil) (entry : CallEntry) (date end : Civil) → entry.term ≡ OnOrAfter → Contains quasi date → order_of entry.date ≤ order_of date → order_of date < order_of end → Contains (call_days entry.term quasi entry.date end) date
day-contained quasi entry date end term contained from below =
    let test : Civil → Bool = λ other. is_not_after entry.date other && is_before other end in
    let on : is_not_after entry.date date ≡ true = le-leb (order_of entry.date) (order_of date) from in
    let before : is_before date end ≡ true = lt-ltb (order_of date) (order_of end) below in
    let passes : test date ≡ true = rw (on, before) refl in
    rw term (contains-filter test quasi date contained passes)

call-contained : (quasi : List Civil) (before later : List CallEntry) (entry : CallEntry) (maturity date : Civil) → Contains (call_days entry.term quasi entry.date (end_of later maturity)) date → Contains (redemptions_by quasi (before ++ entry ∷ later) maturity) (redemption_by entry date)
unfolding redemptions_by
call-contained quasi [] later entry maturity date contained =
    Contains-append_left (map (redemption_by entry) (call_days entry.term quasi entry.date (end_of later maturity))) (redemptions_by quasi later maturity) (redemption_by entry date)
    (contains-map (redemption_by entry) (call_days entry.term quasi entry.date (end_of later maturity)) date contained)
call-contained quasi (other ∷ before) later entry maturity date contained =
    Contains-append_right (map (redemption_by other) (call_days other.term quasi other.date (end_of (before ++ entry ∷ later) maturity))) (redemptions_by quasi (before ++ entry ∷ later) maturity) (redemption_by entry date)
    (call-contained quasi before later entry maturity date contained)

pub each-date : CallsStandOnEachDate
each-date settlement maturity date quasi before later entry term contained from below after =
    let entries = before ++ entry ∷ later in
    let day = day-contained quasi entry date (end_of later maturity) term contained from below in
    let all = call-contained quasi before later entry maturity date day in
    let to_come = contains-filter (λ (redemption : Redemption). is_before settlement redemption.date) (redemptions_by quasi entries maturity) (redemption_by entry date) all (lt-ltb (order_of settlement) (order_of date) after) in
    Contains-append_left (to_come_after settlement (redemptions_by quasi entries maturity)) (final_redemption entries maturity) (redemption_by entry date) to_come
