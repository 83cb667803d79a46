-- The redemption that figures disclose.
use Rattle.std.specs.Prelude.{◌≡◌, ◌&&◌, Bool, true, List, find, MatchBool, MatchOption, Option, None, is_none}
use Rattle.muni_days.specs.declared.day.Day.{Day}
use Rattle.muni_terms.specs.Issue.{settles}
use Rattle.muni_terms.specs.declared.row.IssueRow.{IssueRow}
use Rattle.muni_sched.specs.Candidates.{AreCandidates}
use Rattle.muni_sched.specs.Range.{side_for}
use Rattle.muni_sched.specs.declared.candidate.Candidate.{Candidate}
use Rattle.muni_sched.specs.declared.candidate.Shape.{Shape}
use Rattle.muni_msg.specs.declared.asked.Asked.{Asked}
use Rattle.muni_msg.specs.declared.asked.Given.{Given}
use Rattle.muni_msg.specs.declared.asked.Given.TheVariants.{AtYield, AtPrice, AtRate}
use Rattle.muni_msg.specs.declared.figures.Figures.{Figures}
use Rattle.muni_book.specs.Risk.{is_on}

-- what is given may be given for a candidate
abbrev pub is_given_for : Given → Candidate → Bool
is_given_for (AtYield y) candidate = is_none (side_for y candidate)
is_given_for (AtPrice price) candidate = true
is_given_for (AtRate rate) candidate = is_none (side_for rate candidate)

-- of some candidates the one that is redeemed on a day, if what is given may be given for it
abbrev pub redeemed_on : Day → Given → List Candidate → Option Candidate
redeemed_on day given list =
    find (λ candidate. is_on day candidate && is_given_for given candidate) list

-- so of the candidates at a settlement
pub record IsAmongCandidates (row : IssueRow) (asked : Asked) (day : Day) (found : Option Candidate) : Type 0 where
  pub list : List Candidate
  pub candidates : AreCandidates row asked.settle list
  pub first : found ≡ redeemed_on day asked.given list

-- the redemption on the day that figures disclose; if the figures are right there is one
abbrev pub IsDisclosed : IssueRow → Asked → Figures → Option Candidate → Type 0
IsDisclosed row asked figures found =
    MatchBool (settles row asked.settle) (IsAmongCandidates row asked figures.redemption found)
    (found ≡ None)

-- Figures are had from how that redemption is priced, and there are none without it.
pub record IsFromDisclosed
    (Is : Shape → Option Figures → Type 0) (row : IssueRow) (asked : Asked) (figures : Figures)
    (theirs : Option Figures)
    : Type 0 where
  pub redemption : Option Candidate
  pub disclosed : IsDisclosed row asked figures redemption
  pub from : MatchOption redemption (theirs ≡ None) (λ candidate. Is candidate.shape theirs)
