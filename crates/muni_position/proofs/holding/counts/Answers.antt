use Rattle.std.proofs.Common.{sym, ap, ◌∙◌}
use Rattle.std.specs.Prelude.{◌&&◌}
use Rattle.std.specs.Ordering.{eq_by_cmp}
use Rattle.std.specs.Cmp.Lexicographic.{texts_ties}
use Rattle.muni_keep.specs.Trades.{by_bytes}
use Rattle.muni_position.proofs.holding.counts.Goals as goal

pub returns-then-is_live : goal.returns-then-is_live
returns-then-is_live c =
    let named = c.args.version.now.terms.asked.cusip in
    let cusip = c.args.cusip.now in
    c.eq.ensures ∙ texts_ties named cusip
    ∙ ap (λ live. live && eq_by_cmp by_bytes named cusip) (sym c.if-is_live.true ∙ c.is_live.ensures)
