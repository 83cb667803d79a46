-- What is shown after figures is right.
use Rattle.std.proofs.Common.{Bool, true, false, List, ℤ}
use Rattle.muni_rule.specs.Payments.{PaymentSeries}
use Rattle.muni_rule.specs.WorthEnds.{WorthEnds}
use Rattle.muni_terms.specs.declared.row.IssueRow.{IssueRow}
use Rattle.muni_msg.specs.declared.asked.Asked.{Asked}
use Rattle.muni_msg.specs.declared.each.EachRedemption.{EachRedemption}
use Rattle.muni_msg.specs.declared.figures.Figures.{Figures}
use Rattle.muni_msg.specs.declared.shown.Shown.{Shown}
use Rattle.muni_confirm.specs.declared.details.Details.{Details}
use Rattle.muni_book.specs.Details.{AreDetails, AreRightDetails}
use Rattle.muni_book.specs.Each.{AreEach, AreRightEach, AreWanted}
use Rattle.muni_book.proofs.EachLemmas.{each-right}

wanted-right : (ends : PaymentSeries → ℤ → WorthEnds) (row : IssueRow) (asked : Asked) (figures : Figures) (wanted : Bool) (each : List EachRedemption) → AreWanted wanted (AreEach ends row asked figures) each → AreWanted wanted (AreRightEach row asked figures) each
wanted-right ends row asked figures true each are = each-right ends row asked figures each are
wanted-right ends row asked figures false each none = none

pub details-right : (ends : PaymentSeries → ℤ → WorthEnds) (row : IssueRow) (asked : Asked) (figures : Figures) (shown : Shown) (details : Details) → AreDetails ends row asked figures shown details → AreRightDetails row asked figures shown details
details-right ends row asked figures shown details are = record {
  each = wanted-right ends row asked figures shown.each details.each.items are.each;
  risk = are.risk;
}
