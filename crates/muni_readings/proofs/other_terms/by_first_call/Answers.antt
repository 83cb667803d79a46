use Rattle.std.proofs.Common.{◌≡◌, ◌<◌, ◌∙◌, List, length, refl, sym, ap, subst, arith}
use Rattle.std.proofs.lemmas.Option.{slice_get_read}
use Rattle.muni_sched.specs.Candidates.{AreCandidates}
use Rattle.muni_sched.specs.declared.candidate.Candidate.{Candidate}
use Rattle.muni_readings.specs.OtherTerms.{IsOver, redeemed_at}
use Rattle.muni_readings.proofs.OtherTermsLemmas.{over-equal}
use Rattle.muni_readings.proofs.other_terms.by_first_call.Goals as goal

pub returns-then-eq : goal.returns-then-eq
returns-then-eq g c = λ right.
    let ends = g.E.Encloser.ends c.args.calculator.now.encloser.now in
    let row = c.args.answered.now.issue.now in
    let asked = c.args.answered.now.asked.now in
    let figures = c.args.answered.now.figures.now in
    let first = c.index-candidates-0.result in
    let changed : c.redeemed_at-changed.result ≡ redeemed_at first.label first.date first.price row = c.redeemed_at-changed.ensures ∙ ap (redeemed_at first.label first.date first.price) c.row-row.ensures.value in
    let same : c.redeemed_at-changed.result ≡ row = c.eq.ensures.same.0 (c.if-eq.true) ∙ c.row-row.ensures.value in
    let some : 0 < length c.candidates.result.now = subst (λ (list : List Candidate). 0 < length list) (sym c.candidates.ensures) (let count = c.fill.ensures.count.0 in omega (arith, count)) in
    record {
      list = c.candidates.result.now;
      candidates = subst (AreCandidates row asked.settle) (sym c.candidates.ensures) c.fill.ensures.candidates;
      first = first;
      there = slice_get_read c.candidates.result.now (length c.candidates.result.now) 0 first refl some c.index-candidates-0.is;
      over = over-equal ends row (redeemed_at first.label first.date first.price row) asked figures c.row-row.ensures.passed (sym changed ∙ same) right;
    }

pub returns : goal.returns
returns g c = λ right.
    let ends = g.E.Encloser.ends c.args.calculator.now.encloser.now in
    let row = c.args.answered.now.issue.now in
    let asked = c.args.answered.now.asked.now in
    let first = c.index-candidates-0.result in
    let changed : c.redeemed_at-changed.result ≡ redeemed_at first.label first.date first.price row = c.redeemed_at-changed.ensures ∙ ap (redeemed_at first.label first.date first.price) c.row-row.ensures.value in
    let some : 0 < length c.candidates.result.now = subst (λ (list : List Candidate). 0 < length list) (sym c.candidates.ensures) (let count = c.fill.ensures.count.0 in omega (arith, count)) in
    record {
      list = c.candidates.result.now;
      candidates = subst (AreCandidates row asked.settle) (sym c.candidates.ensures) c.fill.ensures.candidates;
      first = first;
      there = slice_get_read c.candidates.result.now (length c.candidates.result.now) 0 first refl some c.index-candidates-0.is;
      over = subst (λ it. IsOver ends it asked c.figures_over.result) changed c.figures_over.ensures;
    }
