use Rattle.std.proofs.Common.{◌≡◌, IfSome, subst}
use Rattle.muni_book_step.specs.Plan.{issue_of}
use Rattle.muni_desk_import.proofs.ConfirmLemmas.{kept-confirmed}
use Rattle.muni_desk_import.proofs.confirmations.answer.Goals as goal

pub returns-clause-answered : goal.returns-clause-answered
returns-clause-answered g c =
    let told = g.K.Keeper.tables c.args.keeper.now in
    let version = c.in-Some.version in
    let issue = subst (λ told. IfSome told (λ t. c.in_ok-issue.field-0 ≡ issue_of t.issues version)) c.last.ensures.reads.unchanged c.in_ok-issue.ensures.found in
    kept-confirmed told c.args.key.now c.in-Some.number version c.in-Some-2.issue c.confirmation.new.text.items
    (rw c.in-Some.is at c.in_ok-number.ensures.found) (rw c.in-Some-2.is at issue) c.confirmation.ensures.items
