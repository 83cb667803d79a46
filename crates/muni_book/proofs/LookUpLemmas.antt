-- What the commands that keep nothing are answered.
use Rattle.std.proofs.Common.{◌≡◌, inl, inr, ℕ, refl, sym, ap, subst, Option, Some, None, Result, Ok, Err}
use Rattle.muni_terms.specs.declared.row.IssueRow.{IssueRow}
use Rattle.muni_msg.specs.declared.asked.Asked.{Asked}
use Rattle.muni_msg.specs.declared.command.Key.{Key}
use Rattle.muni_msg.specs.declared.command.Reply.TheVariants.{Confirmed}
use Rattle.muni_msg.specs.declared.figures.Figures.{Figures}
use Rattle.muni_msg.specs.declared.refusal.Refusal.{Refusal}
use Rattle.muni_msg.specs.declared.version.Version.{Version}
use Rattle.muni_msg.specs.declared.shown.Shown.{Shown}
use Rattle.muni_keep.specs.Tables.{Tables, issue_at, last_at}
use Rattle.muni_book_step.specs.declared.plan.Plan.TheVariants.{Answer, Quote}
use Rattle.muni_book_step.specs.Plan.{issue_of, for_issue, for_trade, confirmed}
use Rattle.muni_book_step.specs.Step.{Pricing, Rules, Outcome, quoted, IsOutcome}
use Rattle.muni_book.specs.LookUps.{ConfirmsLast, QuotesFigures, LastsAreConfirmed, PagesAreListed, FiguresAreQuoted}

-- ---- confirmations
abbrev ByLast : Tables → Key → Outcome → Type 0
ByLast t key outcome = ConfirmsLast t key outcome.reply × (outcome.entry ≡ None)

by-issue : (P : Pricing) (t : Tables) (key : Key) (last : ℕ × Version) (o : Option IssueRow) (outcome : Outcome) → last_at t key ≡ Some last → issue_of t.issues last.1 ≡ o
    → IsOutcome P (for_issue (λ issue. Answer (Confirmed issue key last.0 last.1)) o) outcome → ByLast t key outcome
by-issue P t key last None outcome is there step = subst (ByLast t key) (sym step) (inr (refl, last, is, there), refl)
by-issue P t key last (Some issue) outcome is there step = subst (ByLast t key) (sym step) ((refl, is, there), refl)

by-last : (P : Pricing) (t : Tables) (key : Key) (o : Option (ℕ × Version)) (outcome : Outcome) → last_at t key ≡ o → IsOutcome P (for_trade (λ last. confirmed t.issues key last.0 last.1) o) outcome → ByLast t key outcome
by-last P t key None outcome is step = subst (ByLast t key) (sym step) (inl (refl, is), refl)
by-last P t key (Some last) outcome is step = by-issue P t key last (issue_of t.issues last.1) outcome is refl step

pub lasts-confirmed : (P : Rules) → LastsAreConfirmed P
lasts-confirmed P t key reply entry step = by-last P.prices t key (last_at t key) (record { reply = reply; entry = entry }) refl step

-- ---- lists
pub pages-listed : (P : Rules) → PagesAreListed P
pages-listed P t desk from reply entry step = (ap (λ (o : Outcome). o.reply) step, ap (λ (o : Outcome). o.entry) step)

-- ---- quotes
abbrev ByFigures : Pricing → Tables → Asked → Shown → Outcome → Type 0
ByFigures P t asked shown outcome = QuotesFigures P t asked shown outcome.reply × (outcome.entry ≡ None)

by-answer : (P : Pricing) (t : Tables) (asked : Asked) (shown : Shown) (issue : IssueRow) (answer : Result Figures Refusal) → issue_at t asked.cusip ≡ Some issue → P issue asked answer → ByFigures P t asked shown (quoted issue asked shown answer)
by-answer P t asked shown issue (Ok figures) there prices = ((refl, refl, there, prices), refl)
by-answer P t asked shown issue (Err why) there prices = (inr (issue, there, prices), refl)

by-figures : (P : Pricing) (t : Tables) (asked : Asked) (shown : Shown) (o : Option IssueRow) (outcome : Outcome) → issue_at t asked.cusip ≡ o → IsOutcome P (for_issue (λ issue. Quote issue asked shown) o) outcome → ByFigures P t asked shown outcome
by-figures P t asked shown None outcome there step = subst (ByFigures P t asked shown) (sym step) (inl (refl, there), refl)
by-figures P t asked shown (Some issue) outcome there step = subst (ByFigures P t asked shown) (sym step.2) (by-answer P t asked shown issue step.0 there step.1)

pub figures-quoted : (P : Rules) → FiguresAreQuoted P
figures-quoted P t asked shown reply entry step = by-figures P.prices t asked shown (issue_at t asked.cusip) (record { reply = reply; entry = entry }) refl step
