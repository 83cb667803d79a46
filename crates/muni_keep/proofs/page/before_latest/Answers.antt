use Rattle.std.proofs.Common.{sym, ap, reverse, ◌∙◌}
use Rattle.std.specs.Prelude.{slice_get}
use Rattle.std.specs.Option.{option_map, unwrap_or}
use Rattle.std.specs.FinMap.{entries, empty}
use Rattle.muni_keep.proofs.EntriesLemmas.{past-all}
use Rattle.muni_keep.proofs.MapLemmas.{entries-empty}
use Rattle.muni_keep.proofs.page.before_latest.Goals as goal

pub returns-in-Some : goal.returns-in-Some
returns-in-Some c =
    c.before_last.ensures
    ∙ ap (λ es. option_map (λ trade. trade.0) (slice_get (reverse es) 50)) (c.past.ensures ∙ past-all c.in-Some.trades.now ∙ ap (λ found. entries (unwrap_or found empty)) c.in-Some.ensures)

pub returns-in-None : goal.returns-in-None
returns-in-None c =
    sym (ap (λ es. option_map (λ trade. trade.0) (slice_get (reverse es) 50)) entries-empty)
    ∙ ap (λ found. option_map (λ trade. trade.0) (slice_get (reverse (entries (unwrap_or found empty))) 50)) c.in-None.ensures
