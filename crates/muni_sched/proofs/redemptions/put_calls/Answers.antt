use Rattle.std.proofs.Common.{◌≡◌, ◌<◌, ◌++◌, [], ◌∷◌, true, false, length, take, refl, sym, subst, ap, ◌∙◌, arith, inr}
use Rattle.std.proofs.lemmas.Grind.{take-set_at}
use Rattle.muni_rule.specs.Civil.{Civil, is_before}
use Rattle.muni_rule.specs.QuasiDates.{half_years_after}
use Rattle.muni_rule.specs.Redemptions.{redemption_by}
use Rattle.muni_days.specs.Day.{civil}
use Rattle.muni_terms.specs.Check.{is_call_date}
use Rattle.muni_terms.specs.Issue.{entry_of, day_at}
use Rattle.muni_terms.proofs.CallLemmas.{call-at}
use Rattle.muni_sched.specs.Candidates.{redemption_of, AreCandidatesOf}
use Rattle.muni_sched.specs.declared.candidate.Candidate.{Candidate}
use Rattle.muni_sched.proofs.CandidateLemmas.{calls_before, days_from, no-calls, no-candidates, all-days, day-more, day-later, day-earlier, read-day}
use Rattle.muni_sched.proofs.DayLemmas.{few-days}
use Rattle.muni_sched.proofs.redemptions.put_calls.Goals.{then-is_to_come, else-is_to_come}
use Rattle.muni_sched.proofs.redemptions.put_calls.Goals as goal

pub loop-place-init : goal.loop-place-init
loop-place-init c =
    record {
      candidates = subst (λ l. AreCandidatesOf c.args.issue.now c.args.settlement l []) (sym (no-calls c.args.issue.now)) (no-candidates c.args.issue.now c.args.settlement);
      room = omega arith;
    }

pub half_years_on-date-requires-clause-day : goal.half_years_on-date-requires-clause-day
half_years_on-date-requires-clause-day c =
    let read = read-day c.args.issue.now c.deref-call-items.result.now c.loop-place.place c.loop-half_years.half_years c.call_days-half_years-end.result c.call-item.result c.row.ensures.passed (cc) c.loop-place-test.true c.call-item.is c.loop-half_years-test.true c.call_days-half_years-end.ensures.end in
    read.is_day.day

pub half_years_on-date-requires-clause-few : goal.half_years_on-date-requires-clause-few
half_years_on-date-requires-clause-few c =
    let read = read-day c.args.issue.now c.deref-call-items.result.now c.loop-place.place c.loop-half_years.half_years c.call_days-half_years-end.result c.call-item.result c.row.ensures.passed (cc) c.loop-place-test.true c.call-item.is c.loop-half_years-test.true c.call_days-half_years-end.ensures.end in
    read.is_day.few

pub half_years_on-date-requires-clause-of_desk : goal.half_years_on-date-requires-clause-of_desk
half_years_on-date-requires-clause-of_desk c =
    let read = read-day c.args.issue.now c.deref-call-items.result.now c.loop-place.place c.loop-half_years.half_years c.call_days-half_years-end.result c.call-item.result c.row.ensures.passed (cc) c.loop-place-test.true c.call-item.is c.loop-half_years-test.true c.call_days-half_years-end.ensures.end in
    read.is_day.of_desk

pub shape_at-requires-clause-redeemed : goal.shape_at-requires-clause-redeemed
shape_at-requires-clause-redeemed c =
    let row = c.args.issue.now in
    let read = read-day row c.deref-call-items.result.now c.loop-place.place c.loop-half_years.half_years c.call_days-half_years-end.result c.call-item.result c.row.ensures.passed (cc) c.loop-place-test.true c.call-item.is c.loop-half_years-test.true c.call_days-half_years-end.ensures.end in
    inr (subst (λ (date : Civil). is_call_date row.kind (civil row.dated) (civil row.maturity) date ≡ true) (sym c.half_years_on-date.ensures) read.is_day.on_calendar, read.at.is_call.in_range)

pub bounds-slots-count : goal.bounds-slots-count
bounds-slots-count c =
    let row = c.args.issue.now in
    let read = read-day row c.deref-call-items.result.now c.loop-place.place c.loop-half_years.half_years c.call_days-half_years-end.result c.call-item.result c.row.ensures.passed (cc) c.loop-place-test.true c.call-item.is c.loop-half_years-test.true c.call_days-half_years-end.ensures.end in
    let own : day_at row c.loop-place.place ≡ civil c.call-item.result.date = rw read.at.from refl in
    let so_far = rw own at c.loop-half_years.invariant.room in
    let room = read.is_day.room in
    omega arith

pub loop-half_years-preserved : goal.loop-half_years-preserved
loop-half_years-preserved c =
    let row = c.args.issue.now in
    let settlement = c.args.settlement in
    let place = c.loop-place.place in
    let call = c.call-item.result in
    let half_years = c.loop-half_years.half_years in
    let slots = c.loop-half_years.slots in
    let count = c.loop-half_years.count in
    let before = calls_before row place ++ days_from call half_years in
    let redemption = redemption_by (entry_of call) (half_years_after (civil call.date) half_years) in
    let more = day-more (calls_before row place) call half_years in
    let date = c.half_years_on-date.ensures in
    let so_far = c.loop-half_years.invariant.candidates in
    let room = c.loop-half_years.invariant.room in
    let read = read-day row c.deref-call-items.result.now place half_years c.call_days-half_years-end.result call c.row.ensures.passed (cc) c.loop-place-test.true c.call-item.is c.loop-half_years-test.true c.call_days-half_years-end.ensures.end in
    let own : day_at row place ≡ civil call.date = rw read.at.from refl in
    let so_far_room = rw own at room in
    let day_room = read.is_day.room in
    let inside : count < length slots = omega arith in
    elim c.if-is_to_come.branch [
      | then-is_to_come w ↦
          let candidate : Candidate = record { date = c.half_years_on-date.result; price = call.price; label = w.call_label.result; shape = w.shape_at.result } in
          let later : is_before (civil settlement) redemption.date ≡ true = ap (is_before (civil settlement)) (sym date) ∙ sym c.is_to_come.ensures ∙ w.if-is_to_come.true in
          let put : take c.if-is_to_come.count c.if-is_to_come.slots ≡ take count slots ++ candidate ∷ [] =
          rw w.slots-is (take-set_at slots count c.if-is_to_come.count candidate w.count-is inside) in
          let redeemed : redemption_of candidate ≡ redemption = λ i. record { date = date i; price = call.price; label = w.call_label.ensures i } in
          record {
            candidates = subst (λ l. AreCandidatesOf row settlement l (take c.if-is_to_come.count c.if-is_to_come.slots)) (sym more)
                (day-later row settlement before redemption (take count slots) (take c.if-is_to_come.count c.if-is_to_come.slots) candidate later so_far redeemed w.shape_at.ensures.shape w.shape_at.ensures.range put);
            room = rw w.count-is (omega arith);
          }
      | else-is_to_come w ↦
          let earlier : is_before (civil settlement) redemption.date ≡ false = ap (is_before (civil settlement)) (sym date) ∙ sym c.is_to_come.ensures ∙ w.if-is_to_come.false in
          record {
            candidates = subst (λ l. AreCandidatesOf row settlement l (take c.if-is_to_come.count c.if-is_to_come.slots)) (sym more)
                (rw (w.slots-is, w.count-is) (day-earlier row settlement before redemption (take count slots) earlier so_far));
            room = rw w.count-is (omega arith);
          }
    ]

pub loop-place-preserved : goal.loop-place-preserved
loop-place-preserved c =
    let row = c.args.issue.now in
    let place = c.loop-place.place in
    let call = c.call-item.result in
    let calls = c.deref-call-items.result.now in
    let days = c.call_days-half_years-end.result in
    let items : calls ≡ row.calls.items = cc in
    let within : place < length row.calls.items = rw items at c.loop-place-test.true in
    let is = rw items at c.call-item.is in
    let at = call-at row place call c.row.ensures.passed within is in
    let all : c.loop-half_years.half_years ≡ days = omega arith in
    let same = ap (λ n. calls_before row place ++ days_from call n) all ∙ all-days row place call days within is at c.call_days-half_years-end.ensures.days in
    let room = rw all at c.loop-half_years.invariant.room in
    let end = c.call_days-half_years-end.ensures.end in
    record {
      candidates = subst (λ l. AreCandidatesOf row c.args.settlement l (take c.loop-half_years.count c.loop-half_years.slots)) same c.loop-half_years.invariant.candidates;
      room = omega arith;
    }

pub returns-clause-few : goal.returns-clause-few
returns-clause-few c =
    few-days c.args.issue.now c.deref-call-items.result.now c.loop-place.place c.loop-place.count c.row.ensures.passed (cc) (omega arith) c.loop-place.invariant.room
