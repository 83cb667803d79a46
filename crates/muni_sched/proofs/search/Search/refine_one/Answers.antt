use Rattle.std.proofs.Common.{rules, List, [], ◌∷◌, ◌≡◌, ◌≤◌, ◌<◌, true, false, refl, ap, sym, subst, ◌∙◌, length, take, get_or, set, arith}
use Rattle.std.specs.List.{refill, filter}
use Rattle.std.proofs.lemmas.List.{length-set}
use Rattle.muni_yield.specs.Places.{place_verdict}
use Rattle.muni_yield.specs.declared.guided.GuidedSearch.{GuidedSearch}
use Rattle.muni_sched.specs.declared.search.OpenSearch.{OpenSearch}
use Rattle.muni_sched.specs.Search.{SearchState, IsSearch, IsOpen, IsRound, lower_of, is_needed, state}
use Rattle.muni_sched.proofs.RoundLemmas.{half-search, front-of, front-has, front-put, one-round, recorded-now}
use Rattle.muni_sched.proofs.search.Search.refine_one.Given as given
use Rattle.muni_sched.proofs.search.Search.refine_one.Goals.{After-index-slots-0-2, After-is_needed}
use Rattle.muni_sched.proofs.search.Search.refine_one.Goals as goal

some : (g : given.Over) (c : After-index-slots-0-2 g) → 1 ≤ length c.args.slots.now
some g c = let one = c.requires.one in let fits = c.requires.fits in omega arith

-- the search with its halved bracket
abbrev next : List OpenSearch → OpenSearch → GuidedSearch → OpenSearch
next slots d guided = record { candidate = (get_or slots 0 d).candidate; guided = guided }

-- and as it is read again
abbrev told : (g : given.Over) (c : After-index-slots-0-2 g) → OpenSearch
told g c = get_or (set c.args.slots.now 0 (next c.args.slots.now c.index-slots-0.result c.halve.new.self)) 0 c.index-slots-0-2.result

told-is : (g : given.Over) (c : After-index-slots-0-2 g) → told g c ≡ (next c.args.slots.now c.index-slots-0.result c.halve.new.self)
told-is g c = front-put c.args.slots.now (next c.args.slots.now c.index-slots-0.result c.halve.new.self) c.index-slots-0-2.result (some g c)

is : (g : given.Over) (c : After-index-slots-0-2 g) → IsSearch (told g c)
is g c =
    let verdicts = place_verdict (g.E.Encloser.ends c.args.calculator.now.encloser.now) in
    let slots = c.args.slots.now in
    let before = front-has (IsOpen verdicts) slots c.args.self.now.left c.index-slots-0.result c.requires.one c.requires.fits c.requires.can.each in
    subst IsSearch (sym (told-is g c)) (half-search verdicts (get_or slots 0 c.index-slots-0.result) (next c.args.slots.now c.index-slots-0.result c.halve.new.self) before (record { candidate = refl; bracket = c.halve.ensures.halved; guided = c.halve.ensures.known }))

pub note_settled-requires-clause-search : goal.note_settled-requires-clause-search
note_settled-requires-clause-search g c = is g (goal.at.note_settled-requires-clause-search g c).After-index-slots-0-2

pub note_settled-requires-clause-candidate : goal.note_settled-requires-clause-candidate
note_settled-requires-clause-candidate g c =
    let place = (goal.at.note_settled-requires-clause-candidate g c).After-index-slots-0-2 in
    let within = front-has (λ (it : OpenSearch). it.candidate < length c.args.self.now.known.items) c.args.slots.now c.args.self.now.left c.index-slots-0.result c.requires.one c.requires.fits c.requires.can.candidates in
    let long = ap length c.as_mut_slice.ensures.value in
    subst (λ (it : OpenSearch). it.candidate < length c.as_mut_slice.result.now) (sym (told-is g place)) (omega (arith, within, long))

pub missed-requires : goal.missed-requires
missed-requires g c = is g (goal.at.missed-requires g c).After-index-slots-0-2

-- a round that leaves these searches
round : (g : given.Over) (c : After-is_needed g) (after : SearchState) → after.known ≡ refill (length c.args.self.now.known.items) c.args.self.now.known.items c.note_settled.new.known → after.ceiling ≡ c.lower_of-self.result → after.missed ≡ c.lower-self.result
    → after.searches ≡ filter (is_needed c.lower_of-self.result c.lower-self.result) (get_or (set c.args.slots.now 0 (next c.args.slots.now c.index-slots-0.result c.halve.new.self)) 0 c.index-slots-0-2.result ∷ [])
    → IsRound (place_verdict (g.E.Encloser.ends c.args.calculator.now.encloser.now)) (state c.args.self.now c.args.slots.now) after
round g c after known ceiling least searches =
    let verdicts = place_verdict (g.E.Encloser.ends c.args.calculator.now.encloser.now) in
    let slots = c.args.slots.now in
    let it : OpenSearch = get_or (set slots 0 (next c.args.slots.now c.index-slots-0.result c.halve.new.self)) 0 c.index-slots-0-2.result in
    one-round verdicts (state c.args.self.now slots) after (get_or slots 0 c.index-slots-0.result) (next c.args.slots.now c.index-slots-0.result c.halve.new.self) it
    (front-of slots c.args.self.now.left c.index-slots-0.result c.requires.one c.requires.fits) (record { candidate = refl; bracket = c.halve.ensures.halved; guided = c.halve.ensures.known })
    (front-put slots (next c.args.slots.now c.index-slots-0.result c.halve.new.self) c.index-slots-0-2.result (let one = c.requires.one in let fits = c.requires.fits in omega arith))
    (known ∙ recorded-now (it ∷ []) (it ∷ []) c.args.self.now.known.items c.as_mut_slice.result.now c.note_settled.new.known refl c.as_mut_slice.ensures.value c.note_settled.ensures)
    (ceiling ∙ (c.lower_of-self.ensures ∙ ap (lower_of c.args.self.now.ceiling) c.missed.ensures))
    (least ∙ search rules)
    (searches ∙ (λ i. filter (is_needed (sym ceiling i) (sym least i)) (it ∷ [])))

-- the search stays in its slot
stays : (g : given.Over) (c : After-is_needed g) → c.is_needed.result ≡ true → take c.args.self.now.left (set c.args.slots.now 0 (next c.args.slots.now c.index-slots-0.result c.halve.new.self)) ≡ filter (is_needed c.lower_of-self.result c.lower-self.result) (get_or (set c.args.slots.now 0 (next c.args.slots.now c.index-slots-0.result c.halve.new.self)) 0 c.index-slots-0-2.result ∷ [])
stays g c needs =
    let slots = c.args.slots.now in
    let now : List OpenSearch = set slots 0 (next c.args.slots.now c.index-slots-0.result c.halve.new.self) in
    let it : OpenSearch = get_or now 0 c.index-slots-0-2.result in
    let needed : is_needed c.lower_of-self.result c.lower-self.result it ≡ true = sym c.is_needed.ensures ∙ needs in
    let kept : filter (is_needed c.lower_of-self.result c.lower-self.result) (it ∷ []) ≡ it ∷ [] = rw needed refl in
    let one = c.requires.one in
    let fits = c.requires.fits in
    front-of now c.args.self.now.left c.index-slots-0-2.result one (omega (arith, fits, length-set slots 0 (next c.args.slots.now c.index-slots-0.result c.halve.new.self))) ∙ sym kept

pub returns-then-not-is_needed-clause-round : goal.returns-then-not-is_needed-clause-round
returns-then-not-is_needed-clause-round g c =
    let place = (goal.at.returns-then-not-is_needed-clause-round g c).After-is_needed in
    let no : c.is_needed.result ≡ false = search rules in
    let dropped : is_needed c.lower_of-self.result c.lower-self.result (get_or (set c.args.slots.now 0 (next c.args.slots.now c.index-slots-0.result c.halve.new.self)) 0 c.index-slots-0-2.result) ≡ false = sym c.is_needed.ensures ∙ no in
    round g place _ refl refl refl (rw dropped refl)

pub returns-then-is_wide-2-clause-round : goal.returns-then-is_wide-2-clause-round
returns-then-is_wide-2-clause-round g c =
    let place = (goal.at.returns-then-is_wide-2-clause-round g c).After-is_needed in
    let needs : c.is_needed.result ≡ true = search rules in
    round g place _ refl refl refl (stays g place needs)

pub returns-else-is_wide-2-clause-round : goal.returns-else-is_wide-2-clause-round
returns-else-is_wide-2-clause-round g c =
    let place = (goal.at.returns-else-is_wide-2-clause-round g c).After-is_needed in
    let needs : c.is_needed.result ≡ true = search rules in
    round g place _ refl refl refl (stays g place needs)
