use Rattle.std.proofs.Common.{sym, ap, ◌∙◌, is_none}
use Rattle.std.specs.FinMap as map
use Rattle.muni_keep.specs.History.{grown}
use Rattle.muni_keep.proofs.MapLemmas.{get_found, insert_one, insert_back}
use Rattle.muni_keep.proofs.trades.Trades.put_first.Goals as goal

pub returns-in_ok-insert-in-Some : goal.returns-in_ok-insert-in-Some
returns-in_ok-insert-in-Some g c =
    let m = c.args.self.now in
    let key = c.args.reference.now in
    let es = c.self.inside.trades.entries in
    let found = ap (map.get m) (sym c.copy.ensures) ∙ get_found es m c.copy.result c.in_ok-kept.field-0 c.self.view_is c.in_ok-kept.ensures.old ∙ c.in-Some.is in
    let first = insert_one es c.insert.new.self.entries m c.copy.result c.in_ok-trade.trade c.self.view_is c.in_ok-kept.ensures.updates.0 ∙ ap (λ key. map.insert m key c.in_ok-trade.trade) c.copy.ensures in
    let second = insert_one c.insert.new.self.entries c.insert-in-Some.new.self.entries (map.insert m key c.in_ok-trade.trade) c.copy-in-Some.result c.in-Some.kept first c.in_ok-insert-in-Some.ensures.updates.0
    ∙ ap (λ key. map.insert (map.insert m c.args.reference.now c.in_ok-trade.trade) key c.in-Some.kept) c.copy-in-Some.ensures in
    record {
      answer = ap is_none (sym found);
      kept = λ is. absurd (cc is);
      refused = λ _. second ∙ insert_back m key c.in_ok-trade.trade c.in-Some.kept found;
      unchanged = tt;
    }

pub returns-in-None : goal.returns-in-None
returns-in-None g c =
    let m = c.args.self.now in
    let key = c.args.reference.now in
    let es = c.self.inside.trades.entries in
    let none = ap (map.get m) (sym c.copy.ensures) ∙ get_found es m c.copy.result c.in_ok-kept.field-0 c.self.view_is c.in_ok-kept.ensures.old ∙ c.in-None.is in
    let one = insert_one es c.insert.new.self.entries m c.copy.result c.in_ok-trade.trade c.self.view_is c.in_ok-kept.ensures.updates.0 in
    record {
      answer = ap is_none (sym none);
      kept = λ _. one ∙ ap (λ key. map.insert m key c.in_ok-trade.trade) c.copy.ensures ∙ ap (map.insert m key) (c.in_ok-trade.ensures ∙ ap (λ found. grown found c.args.version) (sym none));
      refused = λ is. absurd (cc is);
      unchanged = tt;
    }
