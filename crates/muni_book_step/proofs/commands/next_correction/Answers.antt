use Rattle.std.proofs.Common.{subst, sym, ◌∙◌}
use Rattle.std.specs.Prelude.{IfSome, ◌≡◌}
use Rattle.muni_msg.specs.declared.version.Act.TheVariants.{Corrected}
use Rattle.muni_book_step.specs.declared.plan.Plan.TheVariants.{KeepPriced}
use Rattle.muni_book_step.specs.Plan as spec
use Rattle.muni_book_step.proofs.FoundLemmas.{no_terms_to_correct}
use Rattle.muni_book_step.proofs.commands.next_correction.Goals as goal

pub returns-in-Err : goal.returns-in-Err
returns-in-Err g c =
    let sent = c.args.sent.now in
    let told = g.K.Keeper.tables c.args.keeper.now in
    let found = c.in_ok-issue_number.ensures.terms in
    let none = no_terms_to_correct told (spec.correction_refusal (c.args.count, c.args.last.now) sent.number)
    (λ t. λ found. KeepPriced found.1 found.0 sent.key.now sent.number Corrected sent.terms.now)
    (λ t. spec.terms_for t.issues sent.terms.now.asked.cusip sent.issue_number) _ c.in-Err.why (sym c.correction_refusal.ensures ∙ c.in_default.is) found.found c.in-Err.is in
    record {
      plan = record {
        found = subst (λ said. IfSome told (λ t. said ≡ spec.next_correction_plan t.issues sent.key.now sent.number sent.terms.now sent.issue_number (c.args.count, c.args.last.now))) (sym c.refused-in-Err.ensures) none;
        reads = record {
          unchanged = found.reads.unchanged;
          later = found.reads.later;
          failed = λ is. absurd (cc is);
          lent_as = found.reads.lent_as;
        };
      };
    }
