use Rattle.std.proofs.Common.{◌≡◌, ◌==◌, ◌<◌, false, length, sym, ◌∙◌, arith, inr}
use Rattle.std.proofs.lemmas.Bool.Decides.{nat_tests}
use Rattle.muni_terms.proofs.CallLemmas.{call-at}
use Rattle.muni_test_figures.proofs.terms.payments.Goals as goal

pub flows-requires-2-clause-redeemed : goal.flows-requires-2-clause-redeemed
flows-requires-2-clause-redeemed c =
    let row = c.in_ok-issue.issue in
    let items : c.as_slice-calls.result.now ≡ row.calls.items = cc in
    let test : (length c.as_slice-calls.result.now == 0) ≡ false = sym c.is_empty.ensures ∙ c.if-is_empty.false in
    let some : 0 < length row.calls.items = grind (arith, nat_tests, rw items at test) in
    let at = call-at row 0 c.index-calls-0.result c.row-row.ensures.passed some (rw items at c.index-calls-0.is) in
    inr (at.is_call.on_calendar, at.is_call.in_range)
