use Rattle.std.proofs.Common.{◌≡◌}
use Rattle.muni_terms.proofs.BesideLemmas.{half_years, has_beside}
use Rattle.muni_terms.proofs.issue.Issue.flows_beside.Goals as goal

pub half_years-requires : goal.half_years-requires
half_years-requires c =
    let numbers = has_beside c.self.inside.row c.args.self.now c.args.settlement c.args.redemption c.args.price c.args.known.now c.self.view_is c.self.invariant c.requires.settled c.requires.later c.requires.redeemed c.requires.known in
    rw c.self.view_is numbers.order

pub redeemed_earlier-requires-clause-paid : goal.redeemed_earlier-requires-clause-paid
redeemed_earlier-requires-clause-paid c =
    let numbers = has_beside c.self.inside.row c.args.self.now c.args.settlement c.args.redemption c.args.price c.args.known.now c.self.view_is c.self.invariant c.requires.settled c.requires.later c.requires.redeemed c.requires.known in
    let count : c.half_years.result ≡ half_years c.args.self.now c.args.redemption = cc in
    rw count numbers.paid

pub redeemed_earlier-requires-clause-price : goal.redeemed_earlier-requires-clause-price
redeemed_earlier-requires-clause-price c =
    let numbers = has_beside c.self.inside.row c.args.self.now c.args.settlement c.args.redemption c.args.price c.args.known.now c.self.view_is c.self.invariant c.requires.settled c.requires.later c.requires.redeemed c.requires.known in
    (numbers.price_from, numbers.price_to)

pub returns : goal.returns
returns c =
    let numbers = has_beside c.self.inside.row c.args.self.now c.args.settlement c.args.redemption c.args.price c.args.known.now c.self.view_is c.self.invariant c.requires.settled c.requires.later c.requires.redeemed c.requires.known in
    let count : c.half_years.result ≡ half_years c.args.self.now c.args.redemption = cc in
    rw (c.redeemed_earlier.ensures, count) numbers.numbers
