-- What the desk says to a command, by the price, the figures or the sums that are right for it.
-- `ends` are those that the encloser gives to payments and a yield. What is said is no fact of the workers.
use Rattle.std.specs.Prelude.{◌≡◌, ◌++◌, ◌∷◌, [], List, ℕ, Ok, Err, ℤ}
use Rattle.muni_rule.specs.Payments.{PaymentSeries}
use Rattle.muni_rule.specs.WorthEnds.{WorthEnds}
use Rattle.muni_dec.specs.Decimal.{decimal_text}
use Rattle.muni_terms.specs.declared.row.IssueRow.{IssueRow}
use Rattle.muni_msg.specs.declared.asked.Asked.{Asked}
use Rattle.muni_msg.specs.declared.figures.Figures.{Figures}
use Rattle.muni_msg.specs.declared.refusal.Refusal.{Refusal}
use Rattle.muni_msg.specs.declared.shown.Shown.{Shown}
use Rattle.muni_confirm.specs.Details.{quoted_text}
use Rattle.muni_confirm.specs.declared.details.Details.{Details}
use Rattle.muni_confirm.specs.Refusal.{refusal_text}
use Rattle.muni_book.specs.Details.{AreDetails}
use Rattle.muni_desk.specs.Drill.{IsSummary}
use Rattle.muni_desk.specs.Help.{help_text}
use Rattle.muni_desk.specs.QuoteOne.{IsPriced}
use Rattle.muni_desk.specs.Request.{IsAnswerOf}
use Rattle.muni_desk.specs.declared.command.DeskCommand.{DeskCommand}
use Rattle.muni_desk.specs.declared.command.DeskCommand.TheVariants.{QuoteOne, Quote, Import, Load, Confirm, Serve, Positions, Mark, Check, CheckAlone, Export, Drill, Help}
use Rattle.muni_desk.specs.declared.command.DeskCommand.TheVariants as asks
use Rattle.muni_desk.specs.declared.drill.options.DrillRequest.{DrillRequest}
use Rattle.muni_desk.specs.declared.one_period.QuoteOneRequest.{QuoteOneRequest}
use Rattle.muni_desk.specs.declared.request.QuoteRequest.{QuoteRequest}
use Rattle.muni_desk.specs.declared.status.Answer.{Answer}
use Rattle.muni_desk.specs.declared.status.Status.{Status}
use Rattle.muni_desk.specs.declared.status.Status.TheVariants.{Done, Refused}

-- the line of a price: its three decimals
abbrev pub price_line : ℕ → List ℕ
price_line t = decimal_text 3 t ++ 10 ∷ []

-- `quote-one`: the line says the price, or the refusal that applies
abbrev pub IsQuoteOneText : QuoteOneRequest → Status → List ℕ → Type 0
IsQuoteOneText request Done text = (t : ℕ) × IsPriced request (Ok t) × (text ≡ price_line t)
IsQuoteOneText request Refused text =
    (refusal : Refusal) × IsPriced request (Err refusal) × (text ≡ refusal_text refusal)
IsQuoteOneText request status text = ⊥

-- the lines of figures, with what is to be shown after them
abbrev pub IsTextOf : (ends : PaymentSeries → ℤ → WorthEnds) → IssueRow → Asked → Figures → Shown → List ℕ → Type 0
IsTextOf ends row asked figures shown text =
    (details : Details) × AreDetails ends row asked figures shown details
    × (text ≡ quoted_text figures asked details)

-- and those are right
pub record IsQuoted (ends : PaymentSeries → ℤ → WorthEnds) (request : QuoteRequest) (shown : Shown) (text : List ℕ) : Type 0 where
  pub figures : Figures
  pub answered : IsAnswerOf ends request.row request.asked (Ok figures)
  pub lines : IsTextOf ends request.row request.asked figures shown text

-- `quote`: the lines show the figures, or the line says the refusal that applies
abbrev pub IsQuoteText : (ends : PaymentSeries → ℤ → WorthEnds) → QuoteRequest → Shown → Status → List ℕ → Type 0
IsQuoteText ends request shown Done text = IsQuoted ends request shown text
IsQuoteText ends request shown Refused text =
    (refusal : Refusal) × IsAnswerOf ends request.row request.asked (Err refusal) × (text ≡ refusal_text refusal)
IsQuoteText ends request shown status text = ⊥

-- `drill`: the lines are the summary
abbrev pub IsDrillText : (ends : PaymentSeries → ℤ → WorthEnds) → DrillRequest → Status → List ℕ → Type 0
IsDrillText ends request Done text = IsSummary ends request text
IsDrillText ends request status text = ⊥

-- `help`: a line for each command
abbrev pub IsHelpText : Status → List ℕ → Type 0
IsHelpText Done text = text ≡ help_text
IsHelpText status text = ⊥

-- the answer is right; a command over a store is answered from it, and by no text of its own
abbrev pub IsAnswer : (ends : PaymentSeries → ℤ → WorthEnds) → DeskCommand → Answer → Type 0
IsAnswer ends (QuoteOne request) answer = IsQuoteOneText request answer.status answer.text.items
IsAnswer ends (Quote request shown) answer = IsQuoteText ends request shown answer.status answer.text.items
IsAnswer ends (Import store listed limit) answer = ⊥
IsAnswer ends (Load store limit) answer = ⊥
IsAnswer ends (Confirm store key) answer = ⊥
IsAnswer ends (Serve store port connections limit) answer = ⊥
IsAnswer ends (Positions store desk) answer = ⊥
IsAnswer ends (Mark store) answer = ⊥
IsAnswer ends (asks.Figures store options) answer = ⊥
IsAnswer ends (Check store desk) answer = ⊥
IsAnswer ends CheckAlone answer = ⊥
IsAnswer ends (Export store wanted) answer = ⊥
IsAnswer ends (Drill request) answer = IsDrillText ends request answer.status answer.text.items
IsAnswer ends Help answer = IsHelpText answer.status answer.text.items
