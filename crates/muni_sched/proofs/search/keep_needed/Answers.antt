use Rattle.std.proofs.Common.{◌≡◌, ◌<◌, ◌+◌, ◌++◌, ◌∷◌, [], Bool, true, false, length, take, drop, refl, ap, sym, ◌∙◌, arith}
use Rattle.std.specs.List.{filter}
use Rattle.std.proofs.lemmas.List.{drop-set-lt, append-nil, get_or_default}
use Rattle.std.proofs.lemmas.Grind.{take-set_at, drop_more_same}
use Rattle.muni_sched.specs.declared.search.OpenSearch.{OpenSearch}
use Rattle.muni_sched.specs.Search.{is_needed}
use Rattle.muni_sched.proofs.RoundLemmas.{needed-next}
use Rattle.muni_sched.proofs.search.keep_needed.Goals.{then-is_needed, else-is_needed}
use Rattle.muni_sched.proofs.search.keep_needed.Goals as goal

pub loop-place-preserved : goal.loop-place-preserved
loop-place-preserved c =
    let before = c.args.searches.now in
    let searches = c.loop-place.searches in
    let place = c.loop-place.place in
    let kept = c.loop-place.kept in
    let so_far = c.loop-place.invariant in
    let needed : OpenSearch → Bool = is_needed c.args.ceiling c.args.missed in
    let one = c.index-searches-place.result in
    let same = c.loop-place.auto.searches in
    let within : place < length before = c.loop-place-test.true in
    let inside : place < length searches = omega (arith, same, within) in
    let room = so_far.room in
    let next = needed-next needed before searches place one within so_far.rest c.index-searches-place.is in
    let rest = drop_more_same searches before place so_far.rest in
    elim c.if-is_needed.branch [
      | then-is_needed w ↦
          let moved = w.index-searches-place-then-is_needed in
          let own : moved.result ≡ one = moved.is ∙ (get_or_default searches place moved.result one inside ∙ sym c.index-searches-place.is) in
          let yes : needed one ≡ true = ap needed c.index-searches-place.is ∙ (sym c.is_needed.ensures ∙ w.if-is_needed.true) in
          let put = take-set_at searches kept c.if-is_needed.kept moved.result w.kept-is (omega arith) in
          let here : filter needed (one ∷ []) ≡ one ∷ [] = rw yes refl in
          record {
            needed = ap (take c.if-is_needed.kept) w.searches-is ∙ (put ∙ (ap (λ (it : OpenSearch). take kept searches ++ it ∷ []) own ∙ (ap (λ it. it ++ one ∷ []) so_far.needed ∙ (ap (λ it. filter needed (take place before) ++ it) (sym here) ∙ sym next))));
            rest = ap (drop (place + 1)) w.searches-is ∙ (drop-set-lt (place + 1) searches kept moved.result (omega arith) ∙ rest);
            room = rw w.kept-is (omega arith);
          }
      | else-is_needed w ↦
          let no : needed one ≡ false = ap needed c.index-searches-place.is ∙ (sym c.is_needed.ensures ∙ w.if-is_needed.false) in
          let here : filter needed (one ∷ []) ≡ [] = rw no refl in
          record {
            needed = rw (w.searches-is, w.kept-is) (so_far.needed ∙ sym (next ∙ (ap (λ it. filter needed (take place before) ++ it) here ∙ append-nil (filter needed (take place before)))));
            rest = ap (drop (place + 1)) w.searches-is ∙ rest;
            room = rw w.kept-is (omega arith);
          }
    ]
