-- The holdings over bounded versions.
use Rattle.std.proofs.Common.{◌≡◌, ◌≤◌, ◌<◌, ℕ, ◌+◌, ◌*◌, true, false, cond, List, [], ◌∷◌, ◌++◌, length, map, take, get_or, refl, sym, ap, subst, arith}
use Rattle.std.specs.Prelude.{nat_lt, not}
use Rattle.std.specs.List.{AllByRecursion}
use Rattle.std.specs.Cmp.Lexicographic.{nat_list_cmp_total}
use Rattle.std.specs.FinMap.{get, entries, put, entries-insert}
use Rattle.std.specs.FinMap.Entries.{by_order}
use Rattle.std.specs.declared.cmp.Ordering.TheVariants.{Less, Equal, Greater}
use Rattle.std.proofs.lemmas.Bool.Decides.{nat_tests}
use Rattle.std.proofs.lemmas.List.{length-map, map_more}
use Rattle.std.proofs.lemmas.List.Filters.{length-filter_both}
use Rattle.muni_msg.specs.declared.asked.Side.TheVariants.{Buy, Sell}
use Rattle.muni_msg.specs.declared.command.Key.{Key}
use Rattle.muni_msg.specs.declared.command.Line.{Line}
use Rattle.muni_msg.specs.declared.version.Version.{Version}
use Rattle.muni_keep.specs.History.{History, grown}
use Rattle.muni_keep.specs.Tables.{Tables, with_version}
use Rattle.muni_keep.specs.Trades.{by_bytes, own}
use Rattle.muni_position.specs.Holding.{nothing, one, share, holding_of, IsBounded, IsInRange}
use Rattle.muni_position.specs.Laws.{FewTradesHaveRoom}
use Rattle.muni_position.specs.Positions.{counts, last_versions, position_of}
use Rattle.muni_position.specs.declared.holding.Holding.{Holding}
use Rattle.muni_position.specs.declared.position.Position.{Position}
use Rattle.muni_position.proofs.HoldingLemmas.{holding_of-nil, holding_of-cons, position_is}
use Rattle.muni_position.proofs.PutLemmas.{grown_last, own_put}

pub bounded-append : (xs ys : List Version) → AllByRecursion IsBounded xs → AllByRecursion IsBounded ys → AllByRecursion IsBounded (xs ++ ys)
bounded-append [] ys xs_are ys_are = ys_are
bounded-append (x ∷ xs) ys xs_are ys_are = (xs_are.0, bounded-append xs ys xs_are.1 ys_are)

-- one line more
pub bounded-more : (lines : List Line) (i : ℕ) (line : Line) → i < length lines → line ≡ get_or lines i line
    → AllByRecursion IsBounded (map (λ line. line.version) (take i lines)) → IsBounded line.version → AllByRecursion IsBounded (map (λ line. line.version) (take (i + 1) lines))
bounded-more lines i line within is so_far next =
    let version = λ (line : Line). line.version in
    subst (AllByRecursion IsBounded) (sym (map_more version lines i line within))
    (bounded-append (map version (take i lines)) (version (get_or lines i line) ∷ []) so_far (subst (λ l. IsBounded (version l)) is next, tt))

-- at most the greatest par and the greatest total for each live trade
record IsInProportion (h : Holding) : Type 0 where
  par : h.bought + h.sold ≤ h.live * 1_000_000_000
  money : h.paid + h.received ≤ h.live * 9_223_372_036_854_775_807

share_in : (cusip : List ℕ) (version : Version) → IsBounded version → IsInProportion (share cusip version)
unfolding share
share_in cusip version bounded =
    let par = bounded.par in
    let total = bounded.total in
    elim (counts cusip version) as (λ b. IsInProportion (cond b (one version.terms.asked.side version.terms.asked.par version.figures.total) nothing)) [
      | true ↦ elim version.terms.asked.side as (λ s. IsInProportion (one s version.terms.asked.par version.figures.total)) [ Buy ↦ record { par = omega arith; money = omega arith } | Sell ↦ record { par = omega arith; money = omega arith } ]
      | false ↦ record { par = omega arith; money = omega arith }
    ]

holding_in : (cusip : List ℕ) (versions : List Version) → AllByRecursion IsBounded versions → IsInProportion (holding_of cusip versions)
holding_in cusip [] all = subst IsInProportion (sym (holding_of-nil cusip)) (record { par = omega arith; money = omega arith })
holding_in cusip (v ∷ vs) all =
    let one = share_in cusip v all.0 in
    let rest = holding_in cusip vs all.1 in
    subst IsInProportion (sym (holding_of-cons cusip v vs)) (record { par = omega (arith, one.par, rest.par); money = omega (arith, one.money, rest.money) })

-- so a holding out of its range is one of too many live trades
pub too_many_live : (cusip : List ℕ) (versions : List Version) → AllByRecursion IsBounded versions → ¬ (IsInRange (holding_of cusip versions)) → 100_000_000 < (position_of cusip versions).live
too_many_live cusip versions all out =
    let live = ap (λ (p : Position). p.live) (position_is cusip versions) in
    let sums = holding_in cusip versions all in
    elim (nat_lt 100_000_000 (position_of cusip versions).live) as (λ b. nat_lt 100_000_000 (position_of cusip versions).live ≡ b → 100_000_000 < (position_of cusip versions).live) [
      | true ↦ λ t. grind (arith, nat_tests)
      | false ↦ λ t.
          let few : (position_of cusip versions).live ≤ 100_000_000 = grind (arith, nat_tests) in
          absurd (out (record { few = omega (arith, few, live); par = sums.par; money = sums.money }))
    ] refl

bounded_put : (key : List ℕ) (history : History Version) (es : List (List ℕ × History Version)) → AllByRecursion IsBounded (map (λ trade. trade.1.last) es) → IsBounded history.last
    → AllByRecursion IsBounded (map (λ trade. trade.1.last) (put by_bytes key history es))
bounded_put key history [] all next = (next, all)
bounded_put key history (e ∷ es) all next =
    let last = λ (trade : List ℕ × History Version). trade.1.last in
    elim (by_bytes key e.0) as (λ o. AllByRecursion IsBounded (map last (by_order o ((key, history) ∷ e ∷ es) ((e.0, history) ∷ es) (e ∷ put by_bytes key history es)))) [
      | Less ↦ (next, all)
      | Equal ↦ (next, all.1)
      | Greater ↦ (all.0, bounded_put key history es all.1 next)
    ]

-- the last versions stay bounded after a put
pub bounded_after : (key : Key) (version : Version) (tables : Tables) → AllByRecursion IsBounded (last_versions key.desk tables) → IsBounded version
    → AllByRecursion IsBounded (last_versions key.desk (with_version key version tables))
bounded_after key version tables all next =
    let mine = own key.desk tables.desks in
    let history = grown (get mine key.reference) version in
    let last = λ (trade : List ℕ × History Version). trade.1.last in
    subst (λ m. AllByRecursion IsBounded (map last (entries m))) (sym (own_put key.desk key.reference version tables.desks))
    (subst (λ es. AllByRecursion IsBounded (map last es)) (sym (entries-insert nat_list_cmp_total mine key.reference history))
    (bounded_put key.reference history (entries mine) all (subst IsBounded (sym (grown_last (get mine key.reference) version)) next)))

-- no more trades are live than the desk has
pub few_have_room : FewTradesHaveRoom
unfolding position_of
few_have_room watched key version tables few = λ none.
    let versions = last_versions key.desk (with_version key version tables) in
    let live = length-filter_both (counts none.1.0) (λ v. not (counts none.1.0 v)) (λ _. refl) versions in
    let trades = length-map (entries (own key.desk (with_version key version tables).desks)) (λ trade. trade.1.last) in
    absurd (omega (arith, few, none.1.1, live, trades))
