use Rattle.std.proofs.Common.{◌≡◌, suc, ◌+◌, ◌-◌, sym, ap, ◌∙◌, arith, Some, None}
use Rattle.muni_journal_record.specs.IssueBody.{call_size, call_of}
use Rattle.muni_journal_record.specs.Words.{front}
use Rattle.muni_journal_record.proofs.CallLemmas.{step, none_read, bad_read}
use Rattle.muni_journal_record.proofs.issue_body.calls_of.Goals as goal

pub returns-in_err-call : goal.returns-in_err-call
returns-in_err-call c =
    let n = c.args.count - (c.loop-i.i + 1) in
    let more : c.args.count - c.loop-i.i ≡ suc n = omega arith in
    let none : front (call_size c.args.marked) c.loop-i.rest.now ≡ None = ap (λ n. front n c.loop-i.rest.now) (sym c.call_size.ensures) ∙ sym c.in_err-call.ensures.found in
    rw c.from_residual.ensures
    (sym (none_read c.args.marked c.loop-i.calls.items (c.args.count - c.loop-i.i) n c.loop-i.rest.now more none) ∙ c.loop-i.invariant.found)

pub returns-in_err-call_of : goal.returns-in_err-call_of
returns-in_err-call_of c =
    let n = c.args.count - (c.loop-i.i + 1) in
    let more : c.args.count - c.loop-i.i ≡ suc n = omega arith in
    let there : front (call_size c.args.marked) c.loop-i.rest.now ≡ Some (c.in_ok-call.call.now, c.in_ok-call.behind.now) = ap (λ n. front n c.loop-i.rest.now) (sym c.call_size.ensures) ∙ sym c.in_ok-call.ensures.found in
    let bad : call_of c.in_ok-call.call.now ≡ None = sym c.in_err-call_of.ensures in
    rw c.from_residual-in_err-call_of.ensures
    (sym (bad_read c.args.marked c.loop-i.calls.items (c.args.count - c.loop-i.i) n c.loop-i.rest.now c.in_ok-call.call.now c.in_ok-call.behind.now more there bad) ∙ c.loop-i.invariant.found)

pub loop-i-preserved : goal.loop-i-preserved
loop-i-preserved c =
    let n = c.args.count - (c.loop-i.i + 1) in
    let more : c.args.count - c.loop-i.i ≡ suc n = omega arith in
    let there : front (call_size c.args.marked) c.loop-i.rest.now ≡ Some (c.in_ok-call.call.now, c.in_ok-call.behind.now) = ap (λ n. front n c.loop-i.rest.now) (sym c.call_size.ensures) ∙ sym c.in_ok-call.ensures.found in
    let is : call_of c.in_ok-call.call.now ≡ Some c.in_ok-call_of.field-0 = sym c.in_ok-call_of.ensures in
    record {
      found = step c.args.marked c.loop-i.calls.items c.push.new.self.items (c.args.count - c.loop-i.i) n c.loop-i.rest.now c.in_ok-call.call.now c.in_ok-call.behind.now c.in_ok-call_of.field-0 more there is c.push.ensures.items ∙ c.loop-i.invariant.found;
      room = omega arith;
    }
