use Rattle.std.proofs.Common.{◌==◌, sym, ap, ◌∙◌, refl, Some, None, Ok}
use Rattle.std.specs.Option.{unwrap_or}
use Rattle.std.specs.FinMap as map
use Rattle.std.specs.BTreeMap.{is_at}
use Rattle.std.proofs.lemmas.Map.Steps.{set_value_same}
use Rattle.std.proofs.lemmas.Result.{on_err_weaker}
use Rattle.muni_keep.specs.History.{next_number}
use Rattle.muni_keep.specs.Trades.{by_bytes, put_own}
use Rattle.muni_keep.proofs.MapLemmas.{get_found, insert_one}
use Rattle.muni_keep.proofs.desks.Desks.put_next.Goals as goal

pub returns-in-Some : goal.returns-in-Some
returns-in-Some g c =
    let m = c.args.self.now in
    let key = c.args.desk.now in
    let es = c.self.inside.desks.entries in
    let trades = c.in-Some.trades.now in
    let written = c.put_next.new.self in
    let found = get_found es m key (Some c.in-Some.trades.now) c.self.view_is c.in-Some.ensures.value in
    let one = insert_one es (c.get_mut.follows.lender written).entries m key written c.self.view_is ((c.get_mut.follows.holds written).3 (rw (← c.in-Some.ensures.value) refl)).0 in
    let still = (c.get_mut.follows.holds trades).0 ∙ set_value_same (is_at (by_bytes key)) es trades (sym c.in-Some.ensures.value) in
    record {
      answer = rw found c.put_next.ensures.answer;
      kept = λ is. one ∙ ap (map.insert m key) (c.put_next.ensures.kept is ∙ ap (λ found. put_own c.args.reference.now c.args.version (unwrap_or found map.empty)) (sym found));
      refused = λ is. ap (λ written. map.from_entries (c.get_mut.follows.lender written).entries) (c.put_next.ensures.refused is) ∙ ap map.from_entries still ∙ c.self.view_is;
      unchanged = on_err_weaker c.put_next.result (λ same. ap (λ written. map.from_entries (c.get_mut.follows.lender written).entries) same ∙ ap map.from_entries still ∙ c.self.view_is) c.put_next.ensures.unchanged;
    }

pub returns-then-not-branch : goal.returns-then-not-branch
returns-then-not-branch g c =
    let none = get_found c.self.inside.desks.entries c.args.self.now c.args.desk.now None c.self.view_is c.in-None.ensures.value in
    let own_none = c.new-trades.ensures ∙ ap (λ found. unwrap_or found map.empty) (sym none) in
    record {
      answer = sym c.if-not-branch.true ∙ c.in_ok-put_next-in-None.ensures.answer ∙ ap (λ trades. c.args.number == next_number (map.get trades c.args.reference.now)) own_none;
      kept = λ is. absurd (cc is);
      refused = λ _. ap (λ tree. map.from_entries tree.entries) c.get_mut.follows.holds-at-none ∙ c.self.view_is;
      unchanged = tt;
    }

pub returns-in_ok-insert-in-None : goal.returns-in_ok-insert-in-None
returns-in_ok-insert-in-None g c =
    let m = c.args.self.now in
    let key = c.args.desk.now in
    let left = c.get_mut.follows.lender-at-none in
    let is = ap (λ tree. map.from_entries tree.entries) c.get_mut.follows.holds-at-none ∙ c.self.view_is in
    let none = get_found c.self.inside.desks.entries m key None c.self.view_is c.in-None.ensures.value in
    let own_none = c.new-trades.ensures ∙ ap (λ found. unwrap_or found map.empty) (sym none) in
    let trades = c.put_next-in-None.new.self in
    let one = insert_one left.entries c.insert.new.self.entries m c.copy.result trades is c.in_ok-insert-in-None.ensures.updates.0 in
    let put = c.put_next-in-None.ensures.kept (c.in_ok-put_next-in-None.was ∙ ap Ok c.if-not-branch.false) in
    record {
      answer = sym c.if-not-branch.false ∙ c.in_ok-put_next-in-None.ensures.answer ∙ ap (λ trades. c.args.number == next_number (map.get trades c.args.reference.now)) own_none;
      kept = λ _. one ∙ ap (λ key. map.insert m key trades) c.copy.ensures ∙ ap (map.insert m key) (put ∙ ap (put_own c.args.reference.now c.args.version) own_none);
      refused = λ is. absurd (cc is);
      unchanged = tt;
    }
