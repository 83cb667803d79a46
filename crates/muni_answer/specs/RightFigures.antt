-- Figures that are right by the rule's exact formulas, whatever computed them.
use Rattle.std.specs.Prelude.{◌≡◌, ℕ, true, false, List, Some, None, Ok, ℤ}
use Rattle.muni_terms.specs.Issue as issues
use Rattle.muni_terms.specs.declared.row.IssueRow.{IssueRow}
use Rattle.muni_sched.specs.Answer.{IsRightLowest}
use Rattle.muni_sched.specs.GivenFigure.{at_yield, at_price}
use Rattle.muni_sched.specs.Candidates.{AreCandidates}
use Rattle.muni_sched.specs.declared.answer.LowAnswer.{LowAnswer}
use Rattle.muni_sched.specs.declared.candidate.Candidate.{Candidate}
use Rattle.muni_msg.specs.declared.asked.Asked.{Asked}
use Rattle.muni_msg.specs.declared.asked.Given.{Given}
use Rattle.muni_msg.specs.declared.asked.Given.TheVariants.{AtYield, AtPrice, AtRate}
use Rattle.muni_msg.specs.declared.asked.Side.{Side}
use Rattle.muni_msg.specs.declared.figures.Figures.{Figures}
use Rattle.muni_answer.specs.Answers.{PriceAndYield, found_at_yield, found_at_price, IsFoundAtRate, figures_of}
use Rattle.muni_answer.specs.Trade.{is_wrong_basis, net_price, side_left}

-- At a yield the price is the lowest by the exact outcomes of all candidates, and at a price the yield
-- is, which is that of the net price. At a rate both are exact.
abbrev pub AreRightAt : Given → Side → ℕ → List Candidate → PriceAndYield → Type 0
AreRightAt (AtYield y) side fee list found =
    (low : LowAnswer) × IsRightLowest (at_yield y) list low
    × (Some (Ok found) ≡ found_at_yield y list low)
AreRightAt (AtPrice price) side fee list found =
    (low : LowAnswer) × IsRightLowest (at_price (net_price side price fee)) list low
    × (Some (Ok found) ≡ found_at_price price list low)
AreRightAt (AtRate rate) side fee list found = IsFoundAtRate rate list (Ok found)

-- The figures of a trade that may be done: a price and a yield that are right, the redemption that is
-- disclosed, and the money for them.
pub record AreRightFigures (row : IssueRow) (asked : Asked) (figures : Figures) : Type 0 where
  pub on_basis : is_wrong_basis row.kind asked.given asked.fee ≡ false
  pub settled : issues.settles row asked.settle ≡ true
  pub list : List Candidate
  pub candidates : AreCandidates row asked.settle list
  pub in_range : side_left asked.given asked.side asked.fee list ≡ None
  pub found : PriceAndYield
  pub right : AreRightAt asked.given asked.side asked.fee list found
  pub days : ℤ
  pub accrued : Some days ≡ issues.accrued_days row asked.settle
  pub filled : figures ≡ figures_of row asked days found
