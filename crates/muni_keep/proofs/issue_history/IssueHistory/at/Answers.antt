use Rattle.std.proofs.Common.{rules, ◌≡◌, ◌≢◌, ◌-◌, length, ap, ◌∙◌}
use Rattle.std.specs.Prelude.{slice_get}
use Rattle.muni_keep.specs.History.{version_in}
use Rattle.muni_keep.proofs.HistoryLemmas.{last_in, earlier_in, looked_up}
use Rattle.muni_keep.proofs.issue_history.IssueHistory.at.Goals as goal

pub returns-then-place-len : goal.returns-then-place-len
returns-then-place-len c =
    let last : c.args.number - 1 ≡ length c.self.inside.earlier.items = search rules in
    last_in (record { earlier = c.self.inside.earlier.items; last = c.self.inside.last }) c.args.number c.if-number-eq0.false last
    ∙ ap (λ history. version_in history c.args.number) c.self.view_is

pub returns : goal.returns
returns c =
    let earlier : c.args.number - 1 ≢ length c.self.inside.earlier.items = search rules in
    looked_up (λ issue. issue.now) c.get.result c.deref.result.now (c.args.number - 1) c.get.ensures.lookup.0 c.get.ensures.lookup.1
    ∙ ap (λ list. slice_get list (c.args.number - 1)) c.deref.ensures.value
    ∙ earlier_in (record { earlier = c.self.inside.earlier.items; last = c.self.inside.last }) c.args.number c.if-number-eq0.false earlier
    ∙ ap (λ history. version_in history c.args.number) c.self.view_is
