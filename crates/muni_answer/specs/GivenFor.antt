-- What may be given for redemption candidates.
use Rattle.std.specs.Prelude.{◌≡◌, ℕ, ◌<◌, ◌≤◌, ⊤, true, List, length, All}
use Rattle.muni_terms.specs.Issue.{settles}
use Rattle.muni_terms.specs.declared.row.IssueRow.{IssueRow}
use Rattle.muni_sched.specs.Candidates.{IsCandidate}
use Rattle.muni_sched.specs.PriceOutcome.{IsAtYield}
use Rattle.muni_sched.specs.Range.{IsGivenFor}
use Rattle.muni_sched.specs.declared.candidate.Candidate.{Candidate}
use Rattle.muni_sched.specs.declared.candidate.Shape.{Shape}
use Rattle.muni_sched.specs.declared.candidate.Shape.TheVariants.{Many, One, AtRedemption, Discount}
use Rattle.muni_msg.specs.declared.asked.Asked.{Asked}
use Rattle.muni_msg.specs.declared.asked.Given.{Given}
use Rattle.muni_msg.specs.declared.asked.Given.TheVariants.{AtYield, AtPrice, AtRate}
use Rattle.muni_msg.specs.declared.asked.Side.{Side}
use Rattle.muni_answer.specs.Trade.{net_price}

-- a yield or a rate in the range of each candidate, or a price whose net price is above nothing and
-- a price itself
abbrev pub IsInRange : Given → Side → ℕ → List Candidate → Type 0
IsInRange (AtYield y) side fee list = All (IsGivenFor y) list
IsInRange (AtPrice price) side fee list =
    (0 < net_price side price fee) × (net_price side price fee ≤ 999_999_999)
IsInRange (AtRate rate) side fee list = All (IsGivenFor rate) list

-- a candidate is a discounted note
abbrev pub IsDiscounted : Shape → Type 0
IsDiscounted (Many series) = ⊥
IsDiscounted (One payment) = ⊥
IsDiscounted (AtRedemption payment) = ⊥
IsDiscounted (Discount days basis) = ⊤

abbrev pub IsNote : Candidate → Type 0
IsNote candidate = IsDiscounted candidate.shape

-- a yield is given for no discounted note, and a rate for nothing else, both without a commission
abbrev pub IsOnBasis : Given → ℕ → List Candidate → Type 0
IsOnBasis (AtYield y) fee list = (fee ≡ 0) × All IsAtYield list
IsOnBasis (AtPrice price) fee list = ⊤
IsOnBasis (AtRate rate) fee list = (fee ≡ 0) × All IsNote list

-- what is given may be given for these candidates
pub record MayBeGiven (given : Given) (side : Side) (fee : ℕ) (list : List Candidate) : Type 0 where
  pub candidates : All IsCandidate list
  pub basis : IsOnBasis given fee list
  pub in_range : IsInRange given side fee list

-- what is asked of an issue has passed each test, and these are its redemptions to come
pub record IsAskable (row : IssueRow) (asked : Asked) (list : List Candidate) : Type 0 where
  pub settled : settles row asked.settle ≡ true
  pub candidates : All IsCandidate list
  pub some : 0 < length list
  pub few : length list ≤ 100
  pub basis : IsOnBasis asked.given asked.fee list
  pub in_range : IsInRange asked.given asked.side asked.fee list
