use Rattle.std.proofs.Common.{subst, sym}
use Rattle.std.specs.Prelude.{IfSome, ◌≡◌, if◌then◌else◌}
use Rattle.muni_msg.specs.declared.refusal.Refusal.TheVariants.{DeskFull}
use Rattle.muni_msg.specs.declared.version.Act.TheVariants.{Entered}
use Rattle.muni_book_step.specs.declared.plan.Plan.TheVariants.{KeepPriced}
use Rattle.muni_book_step.specs.Plan as spec
use Rattle.muni_keep.specs.Trades.{own}
use Rattle.muni_book_step.proofs.FoundLemmas.{no_terms}
use Rattle.muni_book_step.proofs.commands.first_entry.Goals as goal

pub returns-in-Err : goal.returns-in-Err
returns-in-Err g c =
    let sent = c.args.sent.now in
    let told = g.K.Keeper.tables c.args.keeper.now in
    let found = c.in_ok-found.ensures.terms in
    let none = no_terms told
    (λ t. λ found. if spec.is_full c.args.limit (own sent.key.now.desk t.desks) then spec.refused DeskFull else KeepPriced found.1 found.0 sent.key.now 1 Entered sent.terms.now)
    (λ t. spec.terms_for t.issues sent.terms.now.asked.cusip sent.issue_number) _ c.in-Err.why found.found c.in-Err.is in
    record {
      plan = record {
        found = subst (λ said. IfSome told (λ t. said ≡ spec.first_entry_plan c.args.limit t.issues (own sent.key.now.desk t.desks) sent.key.now sent.terms.now sent.issue_number)) (sym c.refused.ensures) none;
        reads = record {
          unchanged = found.reads.unchanged;
          later = found.reads.later;
          failed = λ is. absurd (cc is);
          lent_as = found.reads.lent_as;
        };
      };
    }
