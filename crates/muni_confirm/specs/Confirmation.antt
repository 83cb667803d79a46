-- The confirmation of a version of a trade.
use Rattle.std.specs.Prelude.{ℕ, List, [], ◌∷◌, ◌++◌, codes, decimal}
use Rattle.muni_rule.specs.declared.basis.Basis.{Basis}
use Rattle.muni_rule.specs.declared.basis.Basis.TheVariants.{Thirty360, Actual365}
use Rattle.muni_dec.specs.Decimal.{decimal_text}
use Rattle.muni_dec.specs.Line.{line}
use Rattle.muni_days.specs.Day.{civil, day_text}
use Rattle.muni_days.specs.declared.day.Day.{Day}
use Rattle.muni_terms.specs.declared.row.IssueRow.{IssueRow}
use Rattle.muni_msg.specs.declared.asked.Asked.{Asked}
use Rattle.muni_msg.specs.declared.asked.Side.{Side}
use Rattle.muni_msg.specs.declared.asked.Side.TheVariants.{Buy, Sell}
use Rattle.muni_msg.specs.declared.command.Key.{Key}
use Rattle.muni_msg.specs.declared.version.Act.{Act}
use Rattle.muni_msg.specs.declared.version.Act.TheVariants.{Entered, Corrected, Canceled}
use Rattle.muni_msg.specs.declared.version.Version.{Version}
use Rattle.muni_confirm.specs.Figures.{figure_text}

-- what made the version
abbrev pub heading : Act → List ℕ
heading Entered = codes "CONFIRMATION"
heading Corrected = codes "CORRECTED CONFIRMATION"
heading Canceled = codes "CANCELED CONFIRMATION"

-- what the party who is confirmed did
abbrev pub side_text : Side → List ℕ
side_text Buy = codes "BOUGHT"
side_text Sell = codes "SOLD"

-- a line of a word and a date
unfoldable pub day_line : List ℕ → Day → List ℕ
day_line word date = line (word ∷ day_text (civil date) ∷ [])

-- which trade it is: the heading with the number of the version, the desk and the reference
unfoldable pub trade_lines : Act → ℕ → Key → List ℕ
trade_lines act number key =
    line (heading act ∷ decimal number ∷ [])
    ++ line (codes "DESK" ∷ key.desk ∷ [])
    ++ line (codes "REFERENCE" ∷ key.reference ∷ [])

-- how much was bought or sold
unfoldable pub par_line : Asked → List ℕ
par_line asked = line (side_text asked.side ∷ decimal asked.par ∷ [])

-- the issue
unfoldable pub name_lines : IssueRow → List ℕ
name_lines issue =
    line (codes "CUSIP" ∷ issue.cusip ∷ []) ++ line (codes "ISSUE" ∷ issue.name.items ∷ [])

-- the day count of the issue, if it is not 30/360
abbrev pub basis_line : Basis → List ℕ
basis_line Thirty360 = []
basis_line Actual365 = line (codes "BASIS" ∷ codes "ACTUAL/365" ∷ [])

-- the terms of the issue
unfoldable pub terms_lines : IssueRow → List ℕ
terms_lines issue =
    line (codes "COUPON" ∷ decimal_text 7 issue.coupon ∷ [])
    ++ day_line (codes "DATED") issue.dated
    ++ day_line (codes "MATURITY") issue.maturity
    ++ basis_line issue.basis

-- the confirmation: the trade, what was bought or sold, the issue, the settlement and the figures
abbrev pub confirmation_text : IssueRow → Key → ℕ → Version → List ℕ
confirmation_text issue key number version =
    trade_lines version.act number key
    ++ par_line version.terms.asked
    ++ name_lines issue
    ++ terms_lines issue
    ++ day_line (codes "SETTLEMENT") version.terms.asked.settle
    ++ figure_text version.figures version.terms.asked.given version.terms.asked.fee
