-- What is said to a command is right.
use Rattle.std.proofs.Common.{◌≡◌, Option, Some, None, List, ℕ, refl, sym, subst, Result, Ok, Err, ℤ}
use Rattle.muni_rule.specs.Payments.{PaymentSeries}
use Rattle.muni_rule.specs.WorthEnds.{WorthEnds}
use Rattle.muni_terms.specs.Check.{checked, fault_of, unless_fault}
use Rattle.muni_terms.specs.declared.row.IssueRow.{IssueRow}
use Rattle.muni_terms.specs.declared.row.TermsFault.{TermsFault}
use Rattle.muni_msg.specs.declared.figures.Figures.{Figures}
use Rattle.muni_msg.specs.declared.refusal.Refusal.TheVariants.{BadTerms}
use Rattle.muni_msg.specs.declared.shown.Shown.{Shown}
use Rattle.muni_confirm.specs.Refusal.{refusal_text}
use Rattle.muni_answer.specs.Answers.{IsRightAnswer}
use Rattle.muni_desk.specs.Answers.{IsTextOf, IsQuoteText}
use Rattle.muni_desk.specs.Request.{IsAnswerOf}
use Rattle.muni_desk.specs.declared.request.QuoteRequest.{QuoteRequest}
use Rattle.muni_desk.specs.declared.status.Status.{Status}
use Rattle.muni_desk.specs.declared.status.Status.TheVariants.{Done, Refused}

-- an issue that is checked has the terms that were
unfaulted : (row issue : IssueRow) (fault : Option TermsFault) → unless_fault row fault ≡ Ok issue → issue ≡ row
unfaulted row issue None is = let same : Ok row ≡ Ok issue = is in cc
unfaulted row issue (Some fault) is = absurd (let never : Err fault ≡ Ok issue = is in cc)

-- the lines of right figures
pub quote-shown : (ends : PaymentSeries → ℤ → WorthEnds) (request : QuoteRequest) (issue : IssueRow) (shown : Shown) (status : Status) (text : List ℕ) (figures : Figures) → checked request.row ≡ Ok issue → status ≡ Done → IsRightAnswer ends issue request.asked (Ok figures) → IsTextOf ends issue request.asked figures shown text → IsQuoteText ends request shown status text
quote-shown ends request issue shown status text figures checks done right lines =
    let same = unfaulted request.row issue (fault_of request.row) checks in
    subst (λ s. IsQuoteText ends request shown s text) (sym done) (record {
      figures = figures;
      answered = rw checks right;
      lines = subst (λ row. IsTextOf ends row request.asked figures shown text) same lines;
    })

-- the line of a fault of the terms
pub fault-shown : (ends : PaymentSeries → ℤ → WorthEnds) (request : QuoteRequest) (fault : TermsFault) (shown : Shown) (status : Status) (text : List ℕ) → checked request.row ≡ Err fault → status ≡ Refused → text ≡ refusal_text (BadTerms fault) → IsQuoteText ends request shown status text
fault-shown ends request fault shown status text checks refused is =
    subst (λ s. IsQuoteText ends request shown s text) (sym refused) (BadTerms fault, rw checks refl, is)
