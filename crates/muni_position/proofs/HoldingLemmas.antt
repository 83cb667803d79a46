-- Holdings over versions, and the positions that they come to.
use Rattle.std.proofs.Common.{◌≡◌, ℕ, ◌+◌, ◌==◌, true, false, cond, List, [], ◌∷◌, ◌++◌, length, refl, sym, ap, ◌∙◌, arith, zero-add}
use Rattle.std.specs.Prelude.{pos, ◌-ℤ◌}
use Rattle.std.specs.List.{filter, sum_by}
use Rattle.std.proofs.lemmas.List.Sums.{sum_by-cons, sum_by-append}
use Rattle.muni_msg.specs.Codes.{side_code}
use Rattle.muni_msg.specs.declared.asked.Side.{Side}
use Rattle.muni_msg.specs.declared.asked.Side.TheVariants.{Buy, Sell}
use Rattle.muni_msg.specs.declared.version.Version.{Version}
use Rattle.muni_position.specs.Positions.{counts, is_on, counted_on, position_of}
use Rattle.muni_position.specs.Holding.{nothing, one, share, plus, holding_of, position_in}
use Rattle.muni_position.specs.declared.holding.Holding.{Holding}

pub same : (a b : Holding) → a.live ≡ b.live → a.bought ≡ b.bought → a.sold ≡ b.sold → a.paid ≡ b.paid → a.received ≡ b.received → a ≡ b
same a b live bought sold paid received =
    λ i. record { live = live i; bought = bought i; sold = sold i; paid = paid i; received = received i }

-- what is left if the same is taken off
pub cancel : (a b s : Holding) → plus a s ≡ plus b s → a ≡ b
cancel a b s e =
    let l = ap (λ (h : Holding). h.live) e in
    let x = ap (λ (h : Holding). h.bought) e in
    let y = ap (λ (h : Holding). h.sold) e in
    let p = ap (λ (h : Holding). h.paid) e in
    let r = ap (λ (h : Holding). h.received) e in
    same a b (omega arith) (omega arith) (omega arith) (omega arith) (omega arith)

pub plus_nothing : (a : Holding) → plus a nothing ≡ a
plus_nothing a = same _ _ (omega arith) (omega arith) (omega arith) (omega arith) (omega arith)

pub holding_of-nil : (cusip : List ℕ) → holding_of cusip [] ≡ nothing
unfolding holding_of
holding_of-nil cusip = refl

pub holding_of-append : (cusip : List ℕ) (xs ys : List Version) → holding_of cusip (xs ++ ys) ≡ plus (holding_of cusip xs) (holding_of cusip ys)
unfolding holding_of
holding_of-append cusip xs ys =
    same _ _ (sum_by-append _ xs ys) (sum_by-append _ xs ys) (sum_by-append _ xs ys) (sum_by-append _ xs ys) (sum_by-append _ xs ys)

pub holding_of-cons : (cusip : List ℕ) (v : Version) (vs : List Version) → holding_of cusip (v ∷ vs) ≡ plus (share cusip v) (holding_of cusip vs)
unfolding holding_of
holding_of-cons cusip v vs =
    same _ _ (sum_by-cons _ v vs) (sum_by-cons _ v vs) (sum_by-cons _ v vs) (sum_by-cons _ v vs) (sum_by-cons _ v vs)

live_is : (cusip : List ℕ) (vs : List Version) → sum_by (λ v. (share cusip v).live) vs ≡ length (filter (counts cusip) vs)
unfolding share
live_is cusip [] = refl
live_is cusip (v ∷ vs) =
    let rest = live_is cusip vs in
    sum_by-cons (λ v. (share cusip v).live) v vs
    ∙ elim (counts cusip v) as (λ b. (cond b (one v.terms.asked.side v.terms.asked.par v.figures.total) nothing).live + sum_by (λ v. (share cusip v).live) vs ≡ length (cond b (v ∷ filter (counts cusip) vs) (filter (counts cusip) vs))) [
      | true ↦ elim v.terms.asked.side as (λ s. (one s v.terms.asked.par v.figures.total).live + sum_by (λ v. (share cusip v).live) vs ≡ length (v ∷ filter (counts cusip) vs)) [ Buy ↦ omega (arith, rest) | Sell ↦ omega (arith, rest) ]
      | false ↦ omega (arith, rest)
    ]

-- a sum of what counts, on one side
sum_is : (pick : Holding → ℕ) (amount : Version → ℕ) (side : Side) (cusip : List ℕ)
    → ((v : Version) → pick (one v.terms.asked.side v.terms.asked.par v.figures.total) ≡ cond (is_on side v) (amount v) 0) → pick nothing ≡ 0
    → (vs : List Version) → sum_by (λ v. pick (share cusip v)) vs ≡ sum_by amount (counted_on side cusip vs)
unfolding share
sum_is pick amount side cusip is none [] = refl
sum_is pick amount side cusip is none (v ∷ vs) =
    let rest = sum_is pick amount side cusip is none vs in
    let sum = sum_by (λ v. pick (share cusip v)) vs in
    let left = filter (counts cusip) vs in
    let found = filter (is_on side) left in
    sum_by-cons (λ v. pick (share cusip v)) v vs
    ∙ elim (counts cusip v) as (λ b. pick (cond b (one v.terms.asked.side v.terms.asked.par v.figures.total) nothing) + sum ≡ sum_by amount (filter (is_on side) (cond b (v ∷ left) left))) [
      | true ↦ ap (λ n. n + sum) (is v)
          ∙ elim (is_on side v) as (λ b. cond b (amount v) 0 + sum ≡ sum_by amount (cond b (v ∷ found) found)) [
            | true ↦ ap (λ n. amount v + n) rest ∙ sym (sum_by-cons amount v found)
            | false ↦ zero-add sum ∙ rest
          ]
      | false ↦ ap (λ n. n + sum) none ∙ zero-add sum ∙ rest
    ]

bought_of : (s : Side) (par total : ℕ) → (one s par total).bought ≡ cond (side_code s == side_code Buy) par 0
bought_of Buy par total = refl
bought_of Sell par total = refl

sold_of : (s : Side) (par total : ℕ) → (one s par total).sold ≡ cond (side_code s == side_code Sell) par 0
sold_of Buy par total = refl
sold_of Sell par total = refl

paid_of : (s : Side) (par total : ℕ) → (one s par total).paid ≡ cond (side_code s == side_code Buy) total 0
paid_of Buy par total = refl
paid_of Sell par total = refl

received_of : (s : Side) (par total : ℕ) → (one s par total).received ≡ cond (side_code s == side_code Sell) total 0
received_of Buy par total = refl
received_of Sell par total = refl

-- the holding over versions comes to the position over them
pub position_is : (cusip : List ℕ) (versions : List Version) → position_in (holding_of cusip versions) ≡ position_of cusip versions
unfolding holding_of position_of
position_is cusip vs =
    let par = λ (v : Version). v.terms.asked.par in
    let total = λ (v : Version). v.figures.total in
    let live = live_is cusip vs in
    let bought = sum_is (λ h. h.bought) par Buy cusip (λ v. bought_of v.terms.asked.side v.terms.asked.par v.figures.total) refl vs in
    let sold = sum_is (λ h. h.sold) par Sell cusip (λ v. sold_of v.terms.asked.side v.terms.asked.par v.figures.total) refl vs in
    let paid = sum_is (λ h. h.paid) total Buy cusip (λ v. paid_of v.terms.asked.side v.terms.asked.par v.figures.total) refl vs in
    let received = sum_is (λ h. h.received) total Sell cusip (λ v. received_of v.terms.asked.side v.terms.asked.par v.figures.total) refl vs in
    λ i. record { live = live i; bought = bought i; sold = sold i; money = pos (paid i) -ℤ pos (received i) }
