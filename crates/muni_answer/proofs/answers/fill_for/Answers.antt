use Rattle.std.proofs.Common.{rules, ◌≡◌, None, false, arith}
use Rattle.muni_answer.specs.GivenFor.{IsInRange}
use Rattle.muni_answer.specs.Trade.{is_wrong_basis, side_left}
use Rattle.muni_answer.proofs.CandidateLemmas.{on-basis}
use Rattle.muni_answer.proofs.answers.fill_for.Goals as goal

pub returns-in-None : goal.returns-in-None
returns-in-None c =
    let list = c.fill.new.self.candidates in
    let basis : is_wrong_basis c.args.issue.now.kind c.args.asked.now.given c.args.asked.now.fee ≡ false = search rules in
    let inside : side_left c.args.asked.now.given c.args.asked.now.side c.args.asked.now.fee list ≡ None = search rules in
    let in_range : IsInRange c.args.asked.now.given c.args.asked.now.side c.args.asked.now.fee list = search rules in
    record {
      on_basis = basis;
      candidates = c.fill.ensures.candidates;
      in_range = inside;
      askable = record {
        settled = search rules;
        candidates = c.fill.ensures.candidates.ranges;
        some = omega (arith, c.fill.ensures.count.0);
        few = c.fill.ensures.count.1;
        basis = on-basis c.args.asked.now.given c.args.asked.now.fee c.args.issue.now c.args.asked.now.settle list basis c.fill.ensures.candidates.shapes;
        in_range = in_range;
      };
    }
