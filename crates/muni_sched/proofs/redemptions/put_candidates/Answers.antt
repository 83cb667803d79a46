use Rattle.std.proofs.Common.{◌≡◌, ◌+◌, ◌<◌, ◌++◌, [], ◌∷◌, List, length, take, set, refl, sym, ap, ◌∙◌, arith}
use Rattle.std.proofs.lemmas.List.{take_more_set, length-set, length-take-le}
use Rattle.muni_rule.specs.Redemptions.{par_price}
use Rattle.muni_rule.specs.declared.label.Label.TheVariants.{Maturity}
use Rattle.muni_days.specs.declared.day.Day.{Day}
use Rattle.muni_terms.specs.declared.row.IssueRow.{IssueRow}
use Rattle.muni_terms.proofs.IssueLemmas.{is_issue, is_settled}
use Rattle.muni_sched.specs.Candidates.{AreCandidates}
use Rattle.muni_sched.specs.declared.candidate.Candidate.{Candidate}
use Rattle.muni_sched.proofs.CandidateLemmas.{are_candidates, are_called, some-called}
use Rattle.muni_sched.proofs.RiseLemmas.{candidates-rise}
use Rattle.muni_sched.proofs.redemptions.put_candidates.Goals as goal

pub returns-then-is_called-clause-candidates : goal.returns-then-is_called-clause-candidates
returns-then-is_called-clause-candidates c =
    are_called c.args.issue.now c.args.settlement (take c.put_calls-calls.result c.put_calls-calls.new.slots) (sym c.is_called.ensures ∙ c.if-is_called.true) c.put_calls-calls.ensures.candidates

pub returns-then-is_called-clause-count : goal.returns-then-is_called-clause-count
returns-then-is_called-clause-count c =
    let calls = c.put_calls-calls in
    let few = calls.ensures.few in
    let room = c.requires.room in
    let some = some-called c.args.issue.now c.args.settlement (take calls.result calls.new.slots) (sym c.is_called.ensures ∙ c.if-is_called.true) c.requires.settled calls.ensures.candidates in
    let long : length (take calls.result calls.new.slots) ≡ calls.result = length-take-le calls.result calls.new.slots (rw calls.ensures.len (omega arith)) in
    (omega arith, omega arith)

pub returns-then-is_called-clause-rising : goal.returns-then-is_called-clause-rising
returns-then-is_called-clause-rising c =
    let list = take c.put_calls-calls.result c.put_calls-calls.new.slots in
    let all = are_called c.args.issue.now c.args.settlement list (sym c.is_called.ensures ∙ c.if-is_called.true) c.put_calls-calls.ensures.candidates in
    candidates-rise c.args.issue.now c.args.settlement list c.row.ensures.passed all.redemptions

pub shape_at-requires-clause-later : goal.shape_at-requires-clause-later
shape_at-requires-clause-later c =
    let settled = is_settled c.args.issue.now c.args.settlement (is_issue c.args.issue.now c.row.ensures.passed) c.requires.settled in
    rw c.row.ensures.value settled.below

pub returns : goal.returns
returns c =
    let row = c.args.issue.now in
    let calls = c.put_calls-calls in
    let same = c.row.ensures.value in
    let at : Day → Candidate = λ date. record { date = date; price = par_price; label = Maturity; shape = c.shape_at.result } in
    let candidate = at row.maturity in
    let slots : List Candidate = set calls.new.slots calls.result (at c.row.result.now.maturity) in
    let shape = rw same at c.shape_at.ensures.shape in
    let few = calls.ensures.few in
    let room = c.requires.room in
    let inside : calls.result < length calls.new.slots = rw calls.ensures.len (omega arith) in
    let put : take (calls.result + 1) slots ≡ take calls.result calls.new.slots ++ candidate ∷ [] =
    take_more_set calls.new.slots calls.result (at c.row.result.now.maturity) inside ∙ ap (λ (it : IssueRow). take calls.result calls.new.slots ++ at it.maturity ∷ []) same in
    let all : AreCandidates row c.args.settlement (take (calls.result + 1) slots) =
    are_candidates row c.args.settlement (take calls.result calls.new.slots) (take (calls.result + 1) slots) candidate
    (sym c.is_called.ensures ∙ c.if-is_called.false) calls.ensures.candidates
    refl shape c.shape_at.ensures.range put in
    record {
      candidates = all;
      count = (omega arith, omega arith);
      rising = candidates-rise row c.args.settlement (take (calls.result + 1) slots) c.row.ensures.passed all.redemptions;
      len = length-set calls.new.slots calls.result (at c.row.result.now.maturity) ∙ calls.ensures.len;
    }
