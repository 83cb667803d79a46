-- The redemption candidates of a trade, each with its own figure.
use Rattle.std.specs.Prelude.{◌≡◌, ◌≢◌, ℕ, ◌<◌, Bool, true, false, List, [], ◌∷◌, All, Option, Some, None, Ok, ℤ, pos, ◌≤ℤ◌}
use Rattle.std.specs.List.{slice_get, AllZip}
use Rattle.muni_rule.specs.Payments.{PaymentSeries}
use Rattle.muni_rule.specs.WorthEnds.{WorthEnds}
use Rattle.muni_terms.specs.declared.row.IssueRow.{IssueRow}
use Rattle.muni_sched.specs.Answer.{IsLowestAnswer, IsRightLowest, NamesDoubt, IsDecidedWithoutDoubt, NamesFigure}
use Rattle.muni_sched.specs.Candidates.{AreCandidates}
use Rattle.muni_sched.specs.GivenFigure.{GivenFigure, at_yield, at_price, kind_of}
use Rattle.muni_sched.specs.declared.answer.Figure.TheVariants as figure
use Rattle.muni_sched.specs.declared.answer.LowAnswer.{LowAnswer}
use Rattle.muni_sched.specs.declared.answer.LowAnswer.TheVariants as answer
use Rattle.muni_sched.specs.declared.candidate.Candidate.{Candidate}
use Rattle.muni_msg.specs.declared.asked.Asked.{Asked}
use Rattle.muni_msg.specs.declared.asked.Given.{Given}
use Rattle.muni_msg.specs.declared.asked.Given.TheVariants.{AtYield, AtPrice, AtRate}
use Rattle.muni_msg.specs.declared.asked.Side.{Side}
use Rattle.muni_msg.specs.declared.each.EachFigure.{EachFigure}
use Rattle.muni_msg.specs.declared.each.EachFigure.TheVariants.{Price, Yield, Undecided, Below, Above, NoTime}
use Rattle.muni_msg.specs.declared.each.EachRedemption.{EachRedemption}
use Rattle.muni_msg.specs.declared.figures.Figures.{Figures}
use Rattle.muni_answer.specs.Answers.{IsRightAnswer}
use Rattle.muni_answer.specs.RightFigures.{AreRightFigures}
use Rattle.muni_answer.specs.Trade.{net_price}

-- an answer over one candidate as its figure, or why it has none
abbrev pub figure_of_answer : LowAnswer → EachFigure
figure_of_answer (answer.Low (figure.Price price) c) = Price price
figure_of_answer (answer.Low (figure.Yield yld) c) = Yield yld
figure_of_answer (answer.Undecided date boundary) = Undecided boundary
figure_of_answer (answer.Below date) = Below
figure_of_answer answer.Above = Above
figure_of_answer (answer.NoTime date) = NoTime

-- a candidate's figure is what is answered if it is the only one
abbrev pub IsAnswerAlone : (ends : PaymentSeries → ℤ → WorthEnds) → GivenFigure → Candidate → EachFigure → Type 0
IsAnswerAlone ends given candidate figure =
    (low : LowAnswer) × IsLowestAnswer ends given (candidate ∷ []) low × (figure ≡ figure_of_answer low)

-- it is right by the exact outcome of the candidate, undecided only in doubt, and decided if there is none
pub record IsRightAlone (given : GivenFigure) (candidate : Candidate) (shown : EachFigure) : Type 0 where
  pub low : LowAnswer
  pub right : IsRightLowest given (candidate ∷ []) low
  pub undecided : NamesDoubt given (candidate ∷ []) low
  pub decided : IsDecidedWithoutDoubt given (candidate ∷ []) low
  pub figure : NamesFigure (kind_of given) 1 low
  pub is : shown ≡ figure_of_answer low

-- the figure of a candidate, as what is given is asked of it alone
abbrev pub Alone : Type 1
Alone = GivenFigure → Candidate → EachFigure → Type 0

-- at a yield its price, and at a price its yield, which is that of the net price; a discounted note has its
-- maturity alone, and so at a rate the yield of the figures
abbrev pub IsFigureAlone : Alone → Given → Side → ℕ → ℤ → Candidate → EachFigure → Type 0
IsFigureAlone Is (AtYield y) side fee yld candidate figure = Is (at_yield y) candidate figure
IsFigureAlone Is (AtPrice price) side fee yld candidate figure =
    Is (at_price (net_price side price fee)) candidate figure
IsFigureAlone Is (AtRate rate) side fee yld candidate figure = figure ≡ Yield yld

-- a candidate as it is shown beside figures
pub record IsShownAlone
    (Is : Alone) (asked : Asked) (figures : Figures) (candidate : Candidate) (shown : EachRedemption)
    : Type 0 where
  pub date : shown.date ≡ candidate.date
  pub price : shown.price ≡ candidate.price
  pub label : shown.label ≡ candidate.label
  pub alone : IsFigureAlone Is asked.given asked.side asked.fee figures.yld candidate shown.figure

-- all candidates of an issue at a settlement, in order of date
pub record AreShown
    (Is : Alone) (row : IssueRow) (asked : Asked) (figures : Figures) (each : List EachRedemption)
    : Type 0 where
  pub list : List Candidate
  pub candidates : AreCandidates row asked.settle list
  pub shown : AllZip (IsShownAlone Is asked figures) list each

-- with what is answered of each, or with what is right
abbrev pub AreEach : (ends : PaymentSeries → ℤ → WorthEnds) → IssueRow → Asked → Figures
    → List EachRedemption → Type 0
AreEach ends row asked figures each = AreShown (IsAnswerAlone ends) row asked figures each

abbrev pub AreRightEach : IssueRow → Asked → Figures → List EachRedemption → Type 0
AreRightEach row asked figures each = AreShown IsRightAlone row asked figures each

-- they are shown if they are wanted
abbrev pub AreWanted : Bool → (List EachRedemption → Type 0) → List EachRedemption → Type 0
AreWanted true Are each = Are each
AreWanted false Are each = each ≡ []

-- a figure in thousandths of a dollar or of a percent, if there is one
abbrev pub thousandths_in : EachFigure → Option ℤ
thousandths_in (Price price) = Some (pos price)
thousandths_in (Yield yld) = Some yld
thousandths_in (Undecided boundary) = None
thousandths_in Below = None
thousandths_in Above = None
thousandths_in NoTime = None

-- a redemption has a figure, and has this one
abbrev pub HasFigure : EachRedemption → Type 0
HasFigure shown = thousandths_in shown.figure ≢ None

abbrev pub HasThousandths : ℤ → EachRedemption → Type 0
HasThousandths t shown = thousandths_in shown.figure ≡ Some t

-- the figure that is disclosed: the price at a yield, and else the yield
abbrev pub disclosed_figure : Given → Figures → EachFigure
disclosed_figure (AtYield y) figures = Price figures.price
disclosed_figure (AtPrice price) figures = Yield figures.yld
disclosed_figure (AtRate rate) figures = Yield figures.yld

-- the redemption that is disclosed, with that figure
abbrev pub disclosed : Given → Figures → EachRedemption
disclosed given figures = record {
  date = figures.redemption;
  price = figures.at;
  label = figures.label;
  figure = disclosed_figure given figures;
}

-- it is one of these, none of them has a lower figure, and none before it has the same
pub record IsLeastOfEach (least : EachRedemption) (each : List EachRedemption) : Type 0 where
  pub place : ℕ
  pub there : slice_get each place ≡ Some least
  pub thousandths : ℤ
  pub figure : HasThousandths thousandths least
  pub none_lower : (k : ℕ) (other : EachRedemption) (t : ℤ) → slice_get each k ≡ Some other
      → HasThousandths t other → thousandths ≤ℤ t
  pub none_before : (k : ℕ) (other : EachRedemption) → k < place → slice_get each k ≡ Some other
      → ¬ (HasThousandths thousandths other)

-- what is answered of each is right, whatever the ends
abbrev pub AnsweredEachAreRight : Type 0
AnsweredEachAreRight =
    (ends : PaymentSeries → ℤ → WorthEnds) (row : IssueRow) (asked : Asked) (figures : Figures)
    (each : List EachRedemption)
    → AreEach ends row asked figures each → AreRightEach row asked figures each

-- and for given ends there is one list of it beside figures
abbrev pub EachAreOne : Type 0
EachAreOne =
    (ends : PaymentSeries → ℤ → WorthEnds) (row : IssueRow) (asked : Asked) (figures : Figures)
    (one other : List EachRedemption)
    → IsRightAnswer ends row asked (Ok figures) → AreEach ends row asked figures one
    → AreEach ends row asked figures other → one ≡ other

-- the disclosed figure and redemption are those of the least of all candidates, and the earliest among equal
-- ones, if each has a figure
abbrev pub DisclosedIsLeastOfEach : Type 0
DisclosedIsLeastOfEach =
    (row : IssueRow) (asked : Asked) (figures : Figures) (each : List EachRedemption)
    → AreRightFigures row asked figures → AreRightEach row asked figures each → All HasFigure each
    → IsLeastOfEach (disclosed asked.given figures) each
