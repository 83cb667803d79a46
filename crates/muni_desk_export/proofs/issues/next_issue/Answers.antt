use Rattle.std.proofs.Common.{◌≡◌, subst, sym}
use Rattle.std.specs.Prelude.{IfSome, IsSome}
use Rattle.muni_keep.specs.Tables.{issue_history}
use Rattle.muni_desk_export.specs.Issues.{is_wanted, text_at}
use Rattle.muni_desk_export.proofs.IssueLemmas.{next-issue, next-kept, no-issue}
use Rattle.muni_desk_export.proofs.issues.next_issue.Goals as goal

pub returns-in_default-clause-next : goal.returns-in_default-clause-next
returns-in_default-clause-next g c =
    no-issue (g.K.Keeper.tables c.args.keeper.now) c.args.named.now c.args.after.now (rw c.in_default.is at c.in_ok-next.ensures.found)

pub rows_of-requires : goal.rows_of-requires
rows_of-requires g c = record {
  kept = subst (λ told. IfSome told (λ t. IsSome (issue_history t c.in-Some.next.0))) (sym c.in_ok-next.ensures.reads.unchanged)
      (next-kept (g.K.Keeper.tables c.args.keeper.now) c.args.after.now c.in-Some.next (rw c.in-Some.is at c.in_ok-next.ensures.found));
}

pub returns-clause-next : goal.returns-clause-next
returns-clause-next g c =
    let said = subst (λ told. IfSome told (λ t. c.in_ok-text.text.items ≡ text_at t (is_wanted c.args.named.now) c.in-Some.next.0)) c.in_ok-next.ensures.reads.unchanged c.in_ok-text.ensures.text in
    next-issue (g.K.Keeper.tables c.args.keeper.now) c.args.named.now c.args.after.now c.in-Some.next c.in_ok-text.text.items
    (rw c.in-Some.is at c.in_ok-next.ensures.found) said
