use Rattle.std.proofs.Common.{◌≡◌, ◌==◌, sym, ap, subst, ◌∙◌, refl, Some, None}
use Rattle.std.specs.FinMap as map
use Rattle.std.specs.BTreeMap.{is_at}
use Rattle.std.proofs.lemmas.Map.Steps.{set_value_same}
use Rattle.std.proofs.lemmas.Result.{on_err_weaker}
use Rattle.muni_keep.specs.History.{grown, next_number}
use Rattle.muni_keep.specs.Puts.{PutsIf}
use Rattle.muni_keep.specs.Trades.{by_bytes}
use Rattle.muni_keep.proofs.HistoryLemmas.{is_first, not_first}
use Rattle.muni_keep.proofs.MapLemmas.{get_found, insert_one}
use Rattle.muni_keep.proofs.issues.Issues.put_next.Goals as goal

pub returns-in-Some : goal.returns-in-Some
returns-in-Some c =
    let m = c.args.self.now in
    let key = c.row.result.now.cusip in
    let issue = c.args.issue.now in
    let es = c.self.inside.issues.entries in
    let history = c.in-Some.history.now in
    let written = c.add_next.new.self in
    let found = get_found es m key (Some c.in-Some.history.now) c.self.view_is c.in-Some.ensures.value in
    let one = insert_one es (c.get_mut.follows.lender written).entries m key written c.self.view_is ((c.get_mut.follows.holds written).3 (rw (← c.in-Some.ensures.value) refl)).0 in
    let still = (c.get_mut.follows.holds history).0 ∙ set_value_same (is_at (by_bytes key)) es history (sym c.in-Some.ensures.value) in
    subst (λ key. PutsIf (c.args.number == next_number (map.get m key)) (map.insert m key (grown (map.get m key) issue)) c.add_next.result m (map.from_entries (c.get_mut.follows.lender written).entries))
    (ap (λ row. row.cusip) c.row.ensures.value)
    (record {
      answer = rw found c.add_next.ensures.answer;
      kept = λ is. one ∙ ap (map.insert m key) (c.add_next.ensures.kept is ∙ ap (λ found. grown found issue) (sym found));
      refused = λ is. ap (λ written. map.from_entries (c.get_mut.follows.lender written).entries) (c.add_next.ensures.refused is) ∙ ap map.from_entries still ∙ c.self.view_is;
      unchanged = on_err_weaker c.add_next.result (λ same. ap (λ written. map.from_entries (c.get_mut.follows.lender written).entries) same ∙ ap map.from_entries still ∙ c.self.view_is) c.add_next.ensures.unchanged;
    })

pub returns-then-number-ne1 : goal.returns-then-number-ne1
returns-then-number-ne1 c =
    let m = c.args.self.now in
    let key = c.row.result.now.cusip in
    let none = get_found c.self.inside.issues.entries m key None c.self.view_is c.in-None.ensures.value in
    let key_is = ap (λ row. row.cusip) c.row.ensures.value in
    record {
      answer = not_first c.args.number c.if-number-ne1.true ∙ ap (λ found. c.args.number == next_number found) (sym none) ∙ ap (λ key. c.args.number == next_number (map.get m key)) key_is;
      kept = λ is. absurd (cc is);
      refused = λ _. ap (λ tree. map.from_entries tree.entries) c.get_mut.follows.holds-at-none ∙ c.self.view_is;
      unchanged = tt;
    }

pub returns-in_ok-insert-in-None : goal.returns-in_ok-insert-in-None
returns-in_ok-insert-in-None c =
    let m = c.args.self.now in
    let key = c.row.result.now.cusip in
    let issue = c.args.issue.now in
    let left = c.get_mut.follows.lender-at-none in
    let is = ap (λ tree. map.from_entries tree.entries) c.get_mut.follows.holds-at-none ∙ c.self.view_is in
    let none = get_found c.self.inside.issues.entries m key None c.self.view_is c.in-None.ensures.value in
    let one = insert_one left.entries c.insert.new.self.entries m key c.new.result is c.in_ok-insert-in-None.ensures.updates.0 in
    let first = c.new.ensures ∙ ap (λ found. grown found issue) (sym none) in
    let key_is = ap (λ row. row.cusip) c.row.ensures.value in
    record {
      answer = is_first c.args.number c.if-number-ne1.false ∙ ap (λ found. c.args.number == next_number found) (sym none) ∙ ap (λ key. c.args.number == next_number (map.get m key)) key_is;
      kept = λ _. one ∙ ap (map.insert m key) first ∙ ap (λ key. map.insert m key (grown (map.get m key) issue)) key_is;
      refused = λ is. absurd (cc is);
      unchanged = tt;
    }
