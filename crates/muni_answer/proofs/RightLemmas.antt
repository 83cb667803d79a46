-- Figures that are answered are right.
use Rattle.std.proofs.Common.{◌≡◌, ℕ, Bool, true, false, refl, ap, Option, Some, None, List, ℤ, Result, Ok, Err}
use Rattle.std.specs.Prelude.{MatchBool, MatchOption}
use Rattle.std.specs.Option.{unwrap_or}
use Rattle.std.specs.Result.{result_ok}
use Rattle.muni_rule.specs.Payments.{PaymentSeries}
use Rattle.muni_rule.specs.WorthEnds.{WorthEnds}
use Rattle.muni_terms.specs.Issue.{settles}
use Rattle.muni_terms.specs.declared.row.IssueRow.{IssueRow}
use Rattle.muni_sched.specs.declared.candidate.Candidate.{Candidate}
use Rattle.muni_msg.specs.declared.asked.Asked.{Asked}
use Rattle.muni_msg.specs.declared.asked.Given.{Given}
use Rattle.muni_msg.specs.declared.asked.Given.TheVariants.{AtYield, AtPrice, AtRate}
use Rattle.muni_msg.specs.declared.asked.Side.{Side}
use Rattle.muni_msg.specs.declared.figures.Figures.{Figures}
use Rattle.muni_msg.specs.declared.refusal.Range.{Range}
use Rattle.muni_msg.specs.declared.refusal.Refusal.{Refusal}
use Rattle.muni_msg.specs.declared.refusal.Refusal.TheVariants as refusal
use Rattle.muni_answer.specs.AnswerLaws.{AnsweredFiguresAreRight}
use Rattle.muni_answer.specs.Answers.{PriceAndYield, IsFound, IsShown, IsComputed, IsSettledAnswer}
use Rattle.muni_answer.specs.RightFigures.{AreRightAt, AreRightFigures}
use Rattle.muni_answer.specs.Trade.{is_wrong_basis, side_left}

not-refused : (figures : Figures) (why : Refusal) → Ok figures ≡ Err why → ⊥
not-refused figures why is = let never : Ok figures ≡ Err why = is in cc

right-at : (ends : PaymentSeries → ℤ → WorthEnds) (given : Given) (side : Side) (fee : ℕ) (list : List Candidate) (found : PriceAndYield) → IsFound ends given side fee list (Ok found) → AreRightAt given side fee list found
right-at ends (AtYield y) side fee list found is = (is.0, is.1.right, is.2)
right-at ends (AtPrice price) side fee list found is = (is.0, is.1.right, is.2)
right-at ends (AtRate rate) side fee list found is = is

right-shown : (ends : PaymentSeries → ℤ → WorthEnds) (row : IssueRow) (asked : Asked) (list : List Candidate) (found : Result PriceAndYield Refusal) (figures : Figures)
    → ((found : PriceAndYield) (days : ℤ) → AreRightAt asked.given asked.side asked.fee list found → IsShown row asked (Ok found) (Ok figures) → AreRightFigures row asked figures)
    → IsFound ends asked.given asked.side asked.fee list found → IsShown row asked found (Ok figures) → AreRightFigures row asked figures
right-shown ends row asked list (Ok found) figures right is shown = right found shown.0 (right-at ends asked.given asked.side asked.fee list found is) shown
right-shown ends row asked list (Err why) figures right is shown = absurd (not-refused figures why shown)

right-inside : (ends : PaymentSeries → ℤ → WorthEnds) (row : IssueRow) (asked : Asked) (list : List Candidate) (side : Option Range) (figures : Figures)
    → (side ≡ None → IsComputed ends row asked list (Ok figures) → AreRightFigures row asked figures)
    → MatchOption side (IsComputed ends row asked list (Ok figures)) (λ left. Ok figures ≡ Err (refusal.GivenOutOfRange left)) → AreRightFigures row asked figures
right-inside ends row asked list None figures right is = right refl is
right-inside ends row asked list (Some side) figures right is = absurd (not-refused figures _ is)

right-settled : (ends : PaymentSeries → ℤ → WorthEnds) (row : IssueRow) (asked : Asked) (figures : Figures) → is_wrong_basis row.kind asked.given asked.fee ≡ false → settles row asked.settle ≡ true
    → IsSettledAnswer ends row asked (Ok figures) → AreRightFigures row asked figures
right-settled ends row asked figures basis settled is =
    right-inside ends row asked is.list (side_left asked.given asked.side asked.fee is.list) figures
    (λ inside computed. right-shown ends row asked is.list computed.found figures
    (λ found days right shown. record {
      on_basis = basis;
      settled = settled;
      list = is.list;
      candidates = is.candidates;
      in_range = inside;
      found = found;
      right = right;
      days = shown.0;
      accrued = shown.1;
      filled = ap (λ (answer : Result Figures Refusal). unwrap_or (result_ok answer) figures) shown.2;
    })
    computed.is_found computed.is_shown)
    is.answered

by-tests : (wrong settled : Bool) (Settled Right : Type 0) (figures : Figures) → (wrong ≡ false → settled ≡ true → Settled → Right)
    → MatchBool wrong (Ok figures ≡ Err refusal.WrongBasis) (MatchBool settled Settled (Ok figures ≡ Err refusal.SettleOutside)) → Right
by-tests true settled Settled Right figures right is = absurd (not-refused figures _ is)
by-tests false true Settled Right figures right is = right refl refl is
by-tests false false Settled Right figures right is = absurd (not-refused figures _ is)

pub answered-right : AnsweredFiguresAreRight
answered-right ends row asked figures is =
    by-tests (is_wrong_basis row.kind asked.given asked.fee) (settles row asked.settle) (IsSettledAnswer ends row asked (Ok figures)) (AreRightFigures row asked figures) figures
    (λ basis settled answer. right-settled ends row asked figures basis settled answer) is
