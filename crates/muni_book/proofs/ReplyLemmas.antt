-- Replies are unique.
use Rattle.std.proofs.Common.{◌≡◌, refl, sym, ap, subst, ◌∙◌, [], ◌∷◌}
use Rattle.muni_book_step.specs.declared.plan.Plan.{Plan}
use Rattle.muni_book_step.specs.declared.plan.Plan.TheVariants.{Answer, Quote, KeepIssue, KeepAmendment, KeepVersion, KeepPriced}
use Rattle.muni_book_step.specs.Plan.{plan_of}
use Rattle.muni_book_step.specs.Runs.{Runs}
use Rattle.muni_book_step.specs.Step.{Pricing, Rules, Outcome, quoted, priced, IsOutcome, after, desk_of, own_of}
use Rattle.muni_book.specs.Unique.{PricesOnce, StepsAreUnique, RunsAreUnique}

one-outcome : (P : Pricing) → PricesOnce P → (plan : Plan) (outcome other : Outcome) → IsOutcome P plan outcome → IsOutcome P plan other → outcome ≡ other
one-outcome P once (Answer reply) outcome other is also = is ∙ sym also
one-outcome P once (Quote issue asked shown) outcome other is also = is.2 ∙ ap (quoted issue asked shown) (once issue asked is.0 also.0 is.1 also.1) ∙ sym also.2
one-outcome P once (KeepIssue issue) outcome other is also = is ∙ sym also
one-outcome P once (KeepAmendment number issue) outcome other is also = is ∙ sym also
one-outcome P once (KeepVersion issue key number version) outcome other is also = is ∙ sym also
one-outcome P once (KeepPriced issue issue_number key number act terms) outcome other is also =
    is.2 ∙ ap (priced issue issue_number key number act terms) (once issue terms.asked is.0 also.0 is.1 also.1) ∙ sym also.2

pub steps-unique : (P : Rules) → PricesOnce P.prices → StepsAreUnique P
steps-unique P once issues own c outcome other step also = one-outcome P.prices once (plan_of P.limit issues own c) outcome other step also

pub runs-unique : (P : Rules) → PricesOnce P.prices → RunsAreUnique P
runs-unique P once old new other [] [] [] run also = (refl, run ∙ sym also)
runs-unique P once old new other [] [] (o ∷ others) run also = absurd also
runs-unique P once old new other [] (r ∷ replies) others run also = absurd run
runs-unique P once old new other (c ∷ commands) [] others run also = absurd run
runs-unique P once old new other (c ∷ commands) (r ∷ replies) [] run also = absurd also
runs-unique P once old new other (c ∷ commands) (r ∷ replies) (o ∷ others) run also =
    let same = one-outcome P.prices once (plan_of P.limit old.issues (own_of (desk_of c) old) c) (record { reply = r; entry = run.0 }) (record { reply = o; entry = also.0 }) run.1 also.1 in
    let entries : run.0 ≡ also.0 = ap (λ (x : Outcome). x.entry) same in
    let rest = runs-unique P once (after run.0 old) new other commands replies others run.2 (subst (λ e. Runs P (after e old) commands others other) (sym entries) also.2) in
    ((λ i. ap (λ (x : Outcome). x.reply) same i ∷ rest.0 i), rest.1)
