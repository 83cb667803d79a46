use Rattle.std.proofs.Common.{sym, ap, ◌∙◌}
use Rattle.muni_position.specs.Holding.{plus, share}
use Rattle.muni_position.proofs.change.moved_at.Goals as goal

pub returns-clause-none : goal.returns-clause-none
returns-clause-none c = λ none h range moved.
    c.moved.ensures.none none h range
    (ap (plus h) c.share_of_last-less.ensures.value ∙ moved
    ∙ ap (λ k. plus k (share c.args.cusip.now c.args.version.now)) (sym c.kept.ensures)
    ∙ ap (plus c.kept.result) (sym c.share-more.ensures.value))
