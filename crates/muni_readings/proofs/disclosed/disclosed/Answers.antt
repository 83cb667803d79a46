use Rattle.std.proofs.Common.{◌≡◌, ◌&&◌, Some, sym, ap, subst, ◌∙◌}
use Rattle.std.specs.Prelude.{All}
use Rattle.std.specs.Option.{option_map}
use Rattle.std.proofs.lemmas.Bool.{and_parts}
use Rattle.muni_sched.specs.Candidates.{IsCandidate}
use Rattle.muni_book.specs.Risk.{is_on}
use Rattle.muni_book.proofs.RiskLemmas.{found-all}
use Rattle.muni_readings.specs.Disclosed.{redeemed_on, is_given_for}
use Rattle.muni_readings.proofs.DisclosedLemmas.{found-passes}
use Rattle.muni_readings.proofs.disclosed.disclosed.Goals as goal

pub returns-in-Some-clause-candidate : goal.returns-in-Some-clause-candidate
returns-in-Some-clause-candidate c =
    let day = c.args.answered.now.figures.now.redemption in
    let given = c.args.answered.now.asked.now.given in
    let list = c.candidates.result.now in
    let found : redeemed_on day given list ≡ Some c.in-Some.found.now = sym c.redeemed_on.ensures ∙ ap (option_map (λ candidate. candidate.now)) c.in-Some.is in
    found-all (λ candidate. is_on day candidate && is_given_for given candidate) IsCandidate list c.in-Some.found.now
    (subst (All IsCandidate) (sym c.candidates.ensures) c.fill.ensures.candidates.ranges) found

pub returns-in-Some-clause-given : goal.returns-in-Some-clause-given
returns-in-Some-clause-given c =
    let day = c.args.answered.now.figures.now.redemption in
    let given = c.args.answered.now.asked.now.given in
    let list = c.candidates.result.now in
    let found : redeemed_on day given list ≡ Some c.in-Some.found.now = sym c.redeemed_on.ensures ∙ ap (option_map (λ candidate. candidate.now)) c.in-Some.is in
    (and_parts (is_on day c.in-Some.found.now) (is_given_for given c.in-Some.found.now) (found-passes (λ candidate. is_on day candidate && is_given_for given candidate) list c.in-Some.found.now found)).1
