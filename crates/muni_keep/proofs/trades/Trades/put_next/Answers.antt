use Rattle.std.proofs.Common.{sym, ap, ◌∙◌, refl, Some, None}
use Rattle.std.specs.FinMap as map
use Rattle.std.specs.BTreeMap.{is_at}
use Rattle.std.proofs.lemmas.Map.Steps.{set_value_same}
use Rattle.std.proofs.lemmas.Result.{on_err_weaker}
use Rattle.muni_keep.specs.History.{grown}
use Rattle.muni_keep.specs.Trades.{by_bytes}
use Rattle.muni_keep.proofs.HistoryLemmas.{not_first}
use Rattle.muni_keep.proofs.MapLemmas.{get_found, insert_one}
use Rattle.muni_keep.proofs.trades.Trades.put_next.Goals as goal

pub returns : goal.returns
returns g c =
    let m = c.args.self.now in
    let key = c.args.reference.now in
    let es = c.self.inside.trades.entries in
    let trade = c.in-Some.trade.now in
    let written = c.add_next.new.self in
    let found = get_found es m key (Some c.in-Some.trade.now) c.self.view_is c.in-Some.ensures.value in
    let one = insert_one es (c.get_mut.follows.lender written).entries m key written c.self.view_is ((c.get_mut.follows.holds written).3 (rw (← c.in-Some.ensures.value) refl)).0 in
    let still = (c.get_mut.follows.holds trade).0 ∙ set_value_same (is_at (by_bytes key)) es trade (sym c.in-Some.ensures.value) in
    record {
      answer = rw found c.add_next.ensures.answer;
      kept = λ is. one ∙ ap (map.insert m key) (c.add_next.ensures.kept is ∙ ap (λ found. grown found c.args.version) (sym found));
      refused = λ is. ap (λ written. map.from_entries (c.get_mut.follows.lender written).entries) (c.add_next.ensures.refused is) ∙ ap map.from_entries still ∙ c.self.view_is;
      unchanged = on_err_weaker c.add_next.result (λ same. ap (λ written. map.from_entries (c.get_mut.follows.lender written).entries) same ∙ ap map.from_entries still ∙ c.self.view_is) c.add_next.ensures.unchanged;
    }

pub returns-in_default : goal.returns-in_default
returns-in_default g c =
    let m = c.args.self.now in
    let key = c.args.reference.now in
    let none = get_found c.self.inside.trades.entries m key None c.self.view_is c.in_default.ensures.value in
    record {
      answer = rw none (not_first c.args.number c.if-number-eq1.false);
      kept = λ is. absurd (cc is);
      refused = λ _. ap (λ tree. map.from_entries tree.entries) c.get_mut.follows.holds-at-none ∙ c.self.view_is;
      unchanged = tt;
    }
