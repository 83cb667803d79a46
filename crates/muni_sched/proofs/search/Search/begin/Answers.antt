use Rattle.std.proofs.Common.{◌≡◌, ◌≤◌, ◌++◌, ◌∙◌, List, None, take, drop, refl, sym, inr, arith}
use Rattle.std.proofs.lemmas.Bool.Decides.{nat_tests}
use Rattle.std.proofs.lemmas.List.{take-append-le}
use Rattle.muni_sched.specs.declared.search.OpenSearch.{OpenSearch}
use Rattle.muni_sched.specs.Search.{SearchState, ceiling_first, searches_from}
use Rattle.muni_sched.proofs.search.Search.begin.Goals as goal

pub returns-clause-begun : goal.returns-clause-begun
returns-clause-begun g c = λ begun.
    let but = c.put_unless_shown-left.ensures.looked in
    let known = c.push_known_first-self.new.known.items in
    let ceiling = c.push_known_first-self.result in
    let missed = c.least_missed-self.result in
    let searches = c.keep_needed-self.new.searches in
    let rest : List OpenSearch = drop c.put_unless_shown-left.result c.put_unless_shown-left.new.slots in
    let most : missed ≤ c.question-question.result = grind (arith, nat_tests, c.is_below.ensures, c.if-is_below.false, c.place.ensures.value) in
    let front : take c.keep_needed-self.result (searches ++ rest) ≡ take c.keep_needed-self.result searches = take-append-le c.keep_needed-self.result searches rest c.keep_needed-self.ensures.fits in
    let first : SearchState = record { known = known; searches = searches_from c.args.price 0 c.args.list.now; ceiling = ceiling_first None known; missed = 105003 } in
    record {
      first = first;
      started = record {
        known = c.push_known_first-self.ensures.known;
        range = c.push_known_first-self.ensures.range;
        searches = refl;
        ceiling = refl;
        missed = refl;
      };
      look = inr (record {
        looked = but.looked;
        each = but.each;
        known = refl;
        ceiling = c.push_known_first-self.ensures.ceiling;
        missed = c.least_missed-self.ensures ∙ sym (but.missed 105003 (omega arith));
        searches = front ∙ (c.keep_needed-self.ensures.needed ∙ sym (but.needed ceiling missed most));
      });
    }
