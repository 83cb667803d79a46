-- One answer is right for a command.
use Rattle.std.proofs.Common.{◌≡◌, ℕ, zero, suc, ◌∷◌, [], ◌++◌, List, refl, sym, ap, ◌∙◌, subst, Bool, true, false, Option, Some, None, Result, Ok, Err, ℤ}
use Rattle.std.specs.Prelude.{MatchResult}
use Rattle.std.specs.List.{flat_map}
use Rattle.std.proofs.lemmas.List.{append_assoc, append-nil}
use Rattle.muni_rule.specs.Payments.{PaymentSeries}
use Rattle.muni_rule.specs.WorthEnds.{WorthEnds}
use Rattle.muni_days.specs.Day.{civil}
use Rattle.muni_terms.specs.Check.{checked, fault_of, unless_fault}
use Rattle.muni_terms.specs.declared.row.IssueRow.{IssueRow}
use Rattle.muni_terms.specs.declared.row.TermsFault.{TermsFault}
use Rattle.muni_msg.specs.declared.asked.Asked.{Asked}
use Rattle.muni_msg.specs.declared.figures.Figures.{Figures}
use Rattle.muni_msg.specs.declared.refusal.Refusal.{Refusal}
use Rattle.muni_msg.specs.declared.refusal.Refusal.TheVariants.{BadTerms}
use Rattle.muni_msg.specs.declared.each.EachRedemption.{EachRedemption}
use Rattle.muni_msg.specs.declared.shown.Shown.{Shown}
use Rattle.muni_risk.specs.declared.Risk.{Risk}
use Rattle.muni_confirm.specs.Each.{each_text}
use Rattle.muni_confirm.specs.Figures.{figure_text}
use Rattle.muni_confirm.specs.Risk.{risk_lines}
use Rattle.muni_confirm.specs.Refusal.{refusal_text}
use Rattle.muni_answer.specs.Answers.{IsRightAnswer}
use Rattle.muni_book.specs.Details.{IsRiskWanted}
use Rattle.muni_book.specs.Each.{AreEach, AreWanted}
use Rattle.muni_book.specs.Risk.{IsRiskOf}
use Rattle.muni_book.proofs.EachLemmas.{each-unique}
use Rattle.muni_answer.proofs.UniqueLemmas.{answers-unique}
use Rattle.muni_desk.specs.AnswerLaws.{DifferByRisk, AreOneText, AreOneAnswer}
use Rattle.muni_desk.specs.Answers.{price_line, IsQuoteOneText, IsTextOf, IsQuoteText, IsDrillText, IsHelpText, IsAnswer}
use Rattle.muni_desk.specs.Drill.{IsDrilled, IsBook}
use Rattle.muni_desk.specs.NextInterestDate.{is_next}
use Rattle.muni_desk.specs.Request.{IsAnswerOf}
use Rattle.muni_desk.specs.Sums.{Answered, summary_text}
use Rattle.muni_desk.specs.declared.command.DeskCommand.{DeskCommand}
use Rattle.muni_desk.specs.declared.command.DeskCommand.TheVariants.{QuoteOne, Quote, Import, Load, Confirm, Serve, Positions, Mark, Check, CheckAlone, Export, Drill, Help}
use Rattle.muni_desk.specs.declared.command.DeskCommand.TheVariants as asks
use Rattle.muni_desk.specs.declared.drill.options.DrillRequest.{DrillRequest}
use Rattle.muni_desk.specs.declared.one_period.QuoteOneRequest.{QuoteOneRequest}
use Rattle.muni_desk.specs.declared.request.QuoteRequest.{QuoteRequest}
use Rattle.muni_desk.specs.declared.status.Answer.{Answer}
use Rattle.muni_desk.specs.declared.status.Status.{Status}
use Rattle.muni_desk.specs.declared.status.Status.TheVariants.{Done, Refused}
use Rattle.muni_desk.proofs.GeneratorLemmas.{generated-unique}
use Rattle.muni_desk.proofs.NextDateLemmas.{HasNextDate}
use Rattle.muni_desk.proofs.QuoteOneLemmas.{priced-unique}

-- ---- a request for figures
answered-by : (ends : PaymentSeries → ℤ → WorthEnds) (asked : Asked) (read : Result IssueRow TermsFault) (answer other : Result Figures Refusal) → MatchResult read (λ issue. IsRightAnswer ends issue asked answer) (λ fault. answer ≡ Err (BadTerms fault)) → MatchResult read (λ issue. IsRightAnswer ends issue asked other) (λ fault. other ≡ Err (BadTerms fault)) → answer ≡ other
answered-by ends asked (Ok issue) answer other is also = answers-unique ends issue asked answer other is also
answered-by ends asked (Err fault) answer other is also = is ∙ sym also

answered-unique : (ends : PaymentSeries → ℤ → WorthEnds) (row : IssueRow) (asked : Asked) (answer other : Result Figures Refusal) → IsAnswerOf ends row asked answer → IsAnswerOf ends row asked other → answer ≡ other
answered-unique ends row asked answer other is also = answered-by ends asked (checked row) answer other is also

-- ---- a generated book
drilled-unique : (ends : PaymentSeries → ℤ → WorthEnds) (seed place : ℕ) (it other : Answered) → IsDrilled ends seed place it → IsDrilled ends seed place other → it ≡ other
drilled-unique ends seed place it other is also =
    let request : it.request ≡ other.request = generated-unique _ it.request other.request is.generated also.generated in
    let moved : IsAnswerOf ends other.request.row other.request.asked it.answer = subst (λ r. IsAnswerOf ends r.row r.asked it.answer) request is.answered in
    let answer : it.answer ≡ other.answer = answered-unique ends other.request.row other.request.asked it.answer other.answer moved also.answered in
    λ i. record { request = request i; answer = answer i }

book-unique : (ends : PaymentSeries → ℤ → WorthEnds) (seed count : ℕ) (book others : List Answered) → IsBook ends seed count book → IsBook ends seed count others → book ≡ others
book-unique ends seed zero book others is also = is ∙ sym also
book-unique ends seed (suc count) book others is also =
    let earlier : is.0 ≡ also.0 = book-unique ends seed count is.0 also.0 is.2 also.2 in
    let last : is.1 ≡ also.1 = drilled-unique ends seed count is.1 also.1 is.3 also.3 in
    is.4 ∙ (λ i. earlier i ++ last i ∷ []) ∙ sym also.4

-- ---- texts and the status
record IsSame (status other : Status) (text also : List ℕ) : Type 0 where
  ends : status ≡ other
  writes : text ≡ also

result-either : {A : Type 0} (x : ℕ) (refused : Refusal) → Ok x ≡ Err refused → A
result-either x refused same = absurd (let never : Ok x ≡ Err refused = same in cc)

figures-either : {A : Type 0} (figures : Figures) (refused : Refusal) → Ok figures ≡ Err refused → A
figures-either figures refused same = absurd (let never : Ok figures ≡ Err refused = same in cc)

quote_one-same : (request : QuoteOneRequest) (status other : Status) (text also : List ℕ) → is_next (civil request.next) ≡ true → IsQuoteOneText request status text → IsQuoteOneText request other also → IsSame status other text also
quote_one-same request Done Done text also next is so =
    let price : is.0 ≡ so.0 = (let same : Ok is.0 ≡ Ok so.0 = priced-unique request (Ok is.0) (Ok so.0) next is.1 so.1 in cc) in
    record { ends = refl; writes = is.2 ∙ ap price_line price ∙ sym so.2 }
quote_one-same request Done Refused text also next is so = result-either is.0 so.0 (priced-unique request (Ok is.0) (Err so.0) next is.1 so.1)
quote_one-same request Refused Done text also next is so = result-either so.0 is.0 (priced-unique request (Ok so.0) (Err is.0) next so.1 is.1)
quote_one-same request Refused Refused text also next is so =
    let refusal : is.0 ≡ so.0 = (let same : Err is.0 ≡ Err so.0 = priced-unique request (Err is.0) (Err so.0) next is.1 so.1 in cc) in
    record { ends = refl; writes = is.2 ∙ ap refusal_text refusal ∙ sym so.2 }
quote_one-same request Done other text also next is so = absurd so
quote_one-same request Refused other text also next is so = absurd so
quote_one-same request status other text also next is so = absurd is

-- ---- the redemption candidates beside figures
of-checked : (ends : PaymentSeries → ℤ → WorthEnds) (row : IssueRow) (asked : Asked) (fault : Option TermsFault) (figures : Figures) → MatchResult (unless_fault row fault) (λ issue. IsRightAnswer ends issue asked (Ok figures)) (λ fault. Ok figures ≡ Err (BadTerms fault)) → IsRightAnswer ends row asked (Ok figures)
of-checked ends row asked None figures is = is
of-checked ends row asked (Some fault) figures is = absurd (let never : Ok figures ≡ Err (BadTerms fault) = is in cc)

each-same : (ends : PaymentSeries → ℤ → WorthEnds) (request : QuoteRequest) (wanted : Bool) (figures : Figures) (one other : List EachRedemption) → IsAnswerOf ends request.row request.asked (Ok figures) → AreWanted wanted (AreEach ends request.row request.asked figures) one → AreWanted wanted (AreEach ends request.row request.asked figures) other → one ≡ other
each-same ends request true figures one other answered is also = each-unique ends request.row request.asked figures one other (of-checked ends request.row request.asked (fault_of request.row) figures answered) is also
each-same ends request false figures one other answered is also = is ∙ sym also

-- ---- the lines of how the price moves with the yield
none-risk : (text : List ℕ) → DifferByRisk text text
none-risk text = record { same = text; risk = None; other_risk = None; text_is = sym (append-nil text); other_is = sym (append-nil text) }

one-text : (wanted : Bool) (text other : List ℕ) → text ≡ other → AreOneText wanted text other
one-text true text other same = subst (DifferByRisk text) same (none-risk text)
one-text false text other same = same

risk-apart : (lead : List ℕ) (risk : Option Risk) (each : List ℕ) → lead ++ (each ++ risk_lines risk) ≡ (lead ++ each) ++ risk_lines risk
risk-apart lead risk each = sym (append_assoc lead each (risk_lines risk))

-- figures and redemption candidates are one, and so are the texts up to these lines
quoted-same : (wanted : Bool) (Is : Option Risk → Type 0) (lead each : List ℕ) (risk other : Option Risk) → IsRiskWanted wanted Is risk → IsRiskWanted wanted Is other → AreOneText wanted (lead ++ (each ++ risk_lines risk)) (lead ++ (each ++ risk_lines other))
quoted-same true Is lead each risk other is also = record { same = lead ++ each; risk = risk; other_risk = other; text_is = risk-apart lead risk each; other_is = risk-apart lead other each }
quoted-same false Is lead each risk other is also = ap (λ r. lead ++ (each ++ risk_lines r)) (is ∙ sym also)

record IsSameQuote (shown : Shown) (end other_end : Status) (text also : List ℕ) : Type 0 where
  pub ends : end ≡ other_end
  pub texts : AreOneText shown.risk text also

texts-same : (ends : PaymentSeries → ℤ → WorthEnds) (request : QuoteRequest) (shown : Shown) (figures : Figures) (text also : List ℕ) → IsAnswerOf ends request.row request.asked (Ok figures) → IsTextOf ends request.row request.asked figures shown text → IsTextOf ends request.row request.asked figures shown also → AreOneText shown.risk text also
texts-same ends request shown figures text also answered is so =
    let each : is.0.each.items ≡ so.0.each.items = each-same ends request shown.each figures is.0.each.items so.0.each.items answered is.1.each so.1.each in
    let lead = figure_text figures request.asked.given request.asked.fee in
    let lines = flat_map each_text so.0.each.items in
    let first : text ≡ lead ++ (lines ++ risk_lines is.0.risk) = is.2 ∙ ap (λ e. lead ++ (flat_map each_text e ++ risk_lines is.0.risk)) each in
    subst (λ t. AreOneText shown.risk t also) (sym first)
    (subst (AreOneText shown.risk (lead ++ (lines ++ risk_lines is.0.risk))) (sym so.2)
    (quoted-same shown.risk (IsRiskOf request.row request.asked figures) lead lines is.0.risk so.0.risk is.1.risk so.1.risk))

quote-same : (ends : PaymentSeries → ℤ → WorthEnds) (request : QuoteRequest) (shown : Shown) (end other : Status) (text also : List ℕ) → IsQuoteText ends request shown end text → IsQuoteText ends request shown other also → IsSameQuote shown end other text also
quote-same ends request shown Done Done text also is so =
    let figures : is.figures ≡ so.figures = (let same : Ok is.figures ≡ Ok so.figures = answered-unique ends request.row request.asked (Ok is.figures) (Ok so.figures) is.answered so.answered in cc) in
    record {
      ends = refl;
      texts = texts-same ends request shown is.figures text also is.answered is.lines
          (subst (λ it. IsTextOf ends request.row request.asked it shown also) (sym figures) so.lines);
    }
quote-same ends request shown Done Refused text also is so = figures-either is.figures so.0 (answered-unique ends request.row request.asked (Ok is.figures) (Err so.0) is.answered so.1)
quote-same ends request shown Refused Done text also is so = figures-either so.figures is.0 (answered-unique ends request.row request.asked (Ok so.figures) (Err is.0) so.answered is.1)
quote-same ends request shown Refused Refused text also is so =
    let refusal : is.0 ≡ so.0 = (let same : Err is.0 ≡ Err so.0 = answered-unique ends request.row request.asked (Err is.0) (Err so.0) is.1 so.1 in cc) in
    record { ends = refl; texts = one-text shown.risk text also (is.2 ∙ ap refusal_text refusal ∙ sym so.2) }
quote-same ends request shown Done other text also is so = absurd so
quote-same ends request shown Refused other text also is so = absurd so
quote-same ends request shown end other text also is so = absurd is

drill-same : (ends : PaymentSeries → ℤ → WorthEnds) (request : DrillRequest) (status other : Status) (text also : List ℕ) → IsDrillText ends request status text → IsDrillText ends request other also → IsSame status other text also
drill-same ends request Done Done text also is so =
    let book = book-unique ends request.seed request.count is.0 so.0 is.1 so.1 in
    record { ends = refl; writes = is.2 ∙ ap summary_text book ∙ sym so.2 }
drill-same ends request Done other text also is so = absurd so
drill-same ends request status other text also is so = absurd is

help-same : (status other : Status) (text also : List ℕ) → IsHelpText status text → IsHelpText other also → IsSame status other text also
help-same Done Done text also is so = record { ends = refl; writes = is ∙ sym so }
help-same Done other text also is so = absurd so
help-same status other text also is so = absurd is

-- ---- the answer
answer-by : (answer other : Answer) → IsSame answer.status other.status answer.text.items other.text.items → answer ≡ other
answer-by answer other same = λ i. record { status = same.ends i; text = record { items = same.writes i } }

pub answer-unique : (ends : PaymentSeries → ℤ → WorthEnds) (command : DeskCommand) (answer other : Answer) → HasNextDate command → IsAnswer ends command answer → IsAnswer ends command other → AreOneAnswer command answer other
answer-unique ends (QuoteOne request) answer other next is also = answer-by answer other (quote_one-same request answer.status other.status answer.text.items other.text.items next is also)
answer-unique ends (Quote request shown) answer other fine is also =
    let same = quote-same ends request shown answer.status other.status answer.text.items other.text.items is also in
    record { status = same.ends; text = same.texts }
answer-unique ends (Drill request) answer other few is also = answer-by answer other (drill-same ends request answer.status other.status answer.text.items other.text.items is also)
answer-unique ends Help answer other fine is also = answer-by answer other (help-same answer.status other.status answer.text.items other.text.items is also)
answer-unique ends (Import store listed limit) answer other fine is also = absurd is
answer-unique ends (Load store limit) answer other fine is also = absurd is
answer-unique ends (Confirm store key) answer other fine is also = absurd is
answer-unique ends (Serve store port connections limit) answer other fine is also = absurd is
answer-unique ends (Positions store desk) answer other fine is also = absurd is
answer-unique ends (Mark store) answer other fine is also = absurd is
answer-unique ends (asks.Figures store options) answer other fine is also = absurd is
answer-unique ends (Check store desk) answer other fine is also = absurd is
answer-unique ends CheckAlone answer other fine is also = absurd is
answer-unique ends (Export store wanted) answer other fine is also = absurd is
