-- Plans that are carried out.
use Rattle.std.proofs.Common.{◌≡◌, refl, sym, ap, subst, ◌∙◌, ℕ, true, false, Option, Some, None, Ok, Result}
use Rattle.std.specs.Prelude.{IfSome}
use Rattle.std.specs.Option.{is_some}
use Rattle.muni_terms.specs.declared.row.IssueRow.{IssueRow}
use Rattle.muni_msg.specs.declared.asked.Terms.{Terms}
use Rattle.muni_msg.specs.declared.command.Command.{Command}
use Rattle.muni_msg.specs.declared.command.Key.{Key}
use Rattle.muni_msg.specs.declared.command.Reply.{Reply}
use Rattle.muni_msg.specs.declared.figures.Figures.{Figures}
use Rattle.muni_msg.specs.declared.refusal.Refusal.{Refusal}
use Rattle.muni_msg.specs.declared.version.Act.{Act}
use Rattle.muni_msg.specs.declared.version.Version.{Version}
use Rattle.muni_keep.specs.Tables.{Tables}
use Rattle.muni_book_step.specs.declared.plan.Plan.{Plan}
use Rattle.muni_book_step.specs.declared.plan.Plan.TheVariants.{KeepIssue, KeepAmendment, KeepVersion, KeepPriced}
use Rattle.muni_book_step.specs.CarriedOut.{KeepsIssue, KeepsAmendment, KeepsVersion, IsCarriedOut}
use Rattle.muni_book_step.specs.Plan.{plan_of}
use Rattle.muni_book_step.specs.Runs.{IsRefusal}
use Rattle.muni_book_step.specs.Step.{Pricing, NewIssue, NewVersion, IsOutcome, CanKeep, after, desk_of, own_of}
use Rattle.muni_book_step.proofs.OutcomeLemmas.{refused-by}
use Rattle.muni_book_step.proofs.ReadyLemmas.{ready}

-- ---- what was put
pub issue-carried : (P : Pricing) (old new : Option Tables) (plan : Plan) (issue : IssueRow) (reply : Reply) → plan ≡ KeepIssue issue
    → KeepsIssue issue old new reply → IfSome old (λ t. IsCarriedOut P plan t reply new)
issue-carried P None new plan issue reply is keeps = tt
issue-carried P (Some t) new plan issue reply is keeps =
    let entry = Some (NewIssue issue) in
    (entry, subst (λ p. IsOutcome P p (record { reply = reply; entry = entry })) (sym is) (ap (λ r. record { reply = r; entry = entry }) keeps.0), keeps.1)

pub amendment-carried : (P : Pricing) (old new : Option Tables) (plan : Plan) (number : ℕ) (issue : IssueRow) (reply : Reply) → plan ≡ KeepAmendment number issue
    → KeepsAmendment number issue old new reply → IfSome old (λ t. IsCarriedOut P plan t reply new)
amendment-carried P None new plan number issue reply is keeps = tt
amendment-carried P (Some t) new plan number issue reply is keeps =
    let entry = Some (NewIssue issue) in
    (entry, subst (λ p. IsOutcome P p (record { reply = reply; entry = entry })) (sym is) (ap (λ r. record { reply = r; entry = entry }) keeps.0), keeps.1)

pub version-carried : (P : Pricing) (old new : Option Tables) (plan : Plan) (issue : IssueRow) (key : Key) (number : ℕ) (version : Version) (reply : Reply) → plan ≡ KeepVersion issue key number version
    → KeepsVersion issue key number version old new reply → IfSome old (λ t. IsCarriedOut P plan t reply new)
version-carried P None new plan issue key number version reply is keeps = tt
version-carried P (Some t) new plan issue key number version reply is keeps =
    let entry = Some (NewVersion key version) in
    (entry, subst (λ p. IsOutcome P p (record { reply = reply; entry = entry })) (sym is) (ap (λ r. record { reply = r; entry = entry }) keeps.0), keeps.1)

pub priced-carried : (P : Pricing) (old new : Option Tables) (plan : Plan) (issue : IssueRow) (issue_number : ℕ) (key : Key) (number : ℕ) (act : Act) (terms : Terms) (figures : Figures) (answer : Result Figures Refusal) (reply : Reply)
    → plan ≡ KeepPriced issue issue_number key number act terms → answer ≡ Ok figures → P issue terms.asked answer
    → KeepsVersion issue key number (record { act = act; terms = terms; issue_number = issue_number; figures = figures }) old new reply → IfSome old (λ t. IsCarriedOut P plan t reply new)
priced-carried P None new plan issue issue_number key number act terms figures answer reply is priced prices keeps = tt
priced-carried P (Some t) new plan issue issue_number key number act terms figures answer reply is priced prices keeps =
    let entry = Some (NewVersion key (record { act = act; terms = terms; issue_number = issue_number; figures = figures })) in (
      entry,
      subst (λ p. IsOutcome P p (record { reply = reply; entry = entry })) (sym is)
          (Ok figures, subst (P issue terms.asked) priced prices, ap (λ r. record { reply = r; entry = entry }) keeps.0),
      keeps.1,
    )

-- ---- tables that are known after a plan was made, and after it was carried out
pub still-ready : (limit : ℕ) (old told : Option Tables) (c : Command) (plan : Plan) → told ≡ old → IfSome old (λ t. plan ≡ plan_of limit t.issues (own_of (desk_of c) t) c) → IfSome told (λ t. CanKeep t plan)
still-ready limit old told c plan same planned = subst (λ o. IfSome o (λ t. CanKeep t plan)) (sym same) (ready limit old c plan planned)

told-none : (told : Option Tables) → is_some told ≡ false → told ≡ None
told-none None none = refl
told-none (Some t) none = absurd (let never : true ≡ false = none in cc)

pub refused-unchanged : (P : Pricing) (old told new : Option Tables) (plan : Plan) (reply : Reply) → told ≡ old → is_some new ≡ is_some told
    → IfSome told (λ t. IsCarriedOut P plan t reply new) → IsRefusal reply → new ≡ old
refused-unchanged P old None new plan reply same tells done refusal = told-none new tells ∙ same
refused-unchanged P old (Some t) new plan reply same tells done refusal =
    let none = refused-by P plan (record { reply = reply; entry = done.0 }) done.1 refusal in
    done.2 ∙ ap (λ entry. Some (after entry t)) none ∙ same
