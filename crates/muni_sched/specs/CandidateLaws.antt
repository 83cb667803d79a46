-- Laws of redemption candidates.
use Rattle.std.specs.Prelude.{◌≡◌, ℕ, ◌+◌, ◌<◌, ◌≤◌, ⊤, true, List, [], ◌∷◌, map, All, Contains, Some, None, ℤ, pos}
use Rattle.std.specs.List.{slice_get}
use Rattle.muni_rule.specs.Civil.{Civil, order_of}
use Rattle.muni_rule.specs.Payments.{payments_of}
use Rattle.muni_rule.specs.Redemptions.{redemption_by}
use Rattle.muni_rule.specs.Schedule.{ExactOutcome, IsFrom, IsRightLow}
use Rattle.muni_rule.specs.declared.call_term.CallTerm.TheVariants.{OnOrAfter}
use Rattle.muni_days.specs.Day.{civil}
use Rattle.muni_days.specs.declared.day.Day.{Day}
use Rattle.muni_terms.specs.Check.{fault_of}
use Rattle.muni_terms.specs.Issue.{settles, payments, entry_of, quasi_dates_of, day_at}
use Rattle.muni_terms.specs.declared.row.Call.{Call}
use Rattle.muni_terms.specs.declared.row.IssueRow.{IssueRow}
use Rattle.muni_sched.specs.declared.candidate.Candidate.{Candidate}
use Rattle.muni_sched.specs.declared.candidate.Shape.{Shape}
use Rattle.muni_sched.specs.declared.candidate.Shape.TheVariants.{Many, One, AtRedemption, Discount}
use Rattle.muni_sched.specs.Candidates.{AreCandidates, redemption_of}

-- an issue has one list of candidates at a settlement
abbrev pub AreOneList : Type 0
AreOneList =
    (row : IssueRow) (settlement : Day) (one other : List Candidate)
    → AreCandidates row settlement one → AreCandidates row settlement other → one ≡ other

-- The numbers by which a redemption is priced stand for these payments. If more than one is to come they stand for
-- all of them, and in the last six months for the only one. A note has no such list.
abbrev pub StandsFor : Shape → List ℕ → Type 0
StandsFor (Many series) paid = payments_of series ≡ paid
StandsFor (One payment) paid = (amount : ℕ) × (paid ≡ amount ∷ []) × (payment.due ≡ pos amount)
StandsFor (AtRedemption payment) paid = ⊤
StandsFor (Discount days basis) paid = ⊤

-- of an issue that passes every test of its terms each candidate stands for what the rule has paid after the
-- settlement up to its redemption
abbrev pub CandidatesStandForPayments : Type 0
CandidatesStandForPayments =
    (row : IssueRow) (settlement : Day) (list : List Candidate)
    → fault_of row ≡ None → settles row settlement ≡ true → AreCandidates row settlement list
    → All (λ candidate. StandsFor candidate.shape
    (payments row settlement candidate.date candidate.price)) list

-- a quasi-coupon date to come on which a call on or after its day stands
pub record IsCalledOn (row : IssueRow) (settlement : Day) (call : Call) (date : Civil) : Type 0 where
  pub place : ℕ
  pub found : slice_get row.calls.items place ≡ Some call
  pub on_or_after : call.term ≡ OnOrAfter
  pub quasi : Contains (quasi_dates_of row) date
  pub from : order_of (civil call.date) ≤ order_of date
  pub before : order_of date < order_of (day_at row (place + 1))
  pub to_come : order_of (civil settlement) < order_of date

-- An issue that may be called on or after a day may be redeemed on each interest date to come from that day on, at
-- the price of the call and before the next one: no such date has a lower figure than the one that is disclosed.
abbrev pub IsAtMostEachDate : Type 0
IsAtMostEachDate =
    (row : IssueRow) (settlement : Day) (list : List Candidate) (call : Call) (date : Civil)
    (exact : ℕ → ExactOutcome) (t : ℤ) (lowest : ℕ)
    → AreCandidates row settlement list → IsCalledOn row settlement call date → IsRightLow exact t lowest
    → (c : ℕ) × (slice_get (map redemption_of list) c ≡ Some (redemption_by (entry_of call) date))
    × IsFrom t (exact c)
