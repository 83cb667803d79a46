-- The dates on which a call on or after its day stands are candidates.
use Rattle.std.proofs.Common.{◌≡◌, ℕ, zero, suc, ◌+◌, ◌<◌, List, [], ◌∷◌, ◌++◌, length, take, drop, map, Some, refl, sym, subst, ap, ◌∙◌, arith}
use Rattle.std.specs.Prelude.{Contains}
use Rattle.std.specs.List.{slice_get}
use Rattle.std.proofs.lemmas.List.{map-append, take-append-drop}
use Rattle.std.proofs.lemmas.Option.{slice_get-get_or}
use Rattle.muni_rule.specs.Redemptions.{Redemption, redemption_by, redemptions_after}
use Rattle.muni_rule.proofs.RedemptionLemmas.{each-date}
use Rattle.muni_days.specs.Day.{civil}
use Rattle.muni_days.specs.declared.day.Day.{Day}
use Rattle.muni_terms.specs.Issue.{entry_of, entries_of, quasi_dates_of}
use Rattle.muni_terms.specs.declared.row.Call.{Call}
use Rattle.muni_terms.specs.declared.row.IssueRow.{IssueRow}
use Rattle.muni_sched.specs.Candidates.{redemption_of, redemptions_of}
use Rattle.muni_sched.specs.CandidateLaws.{IsCalledOn, IsAtMostEachDate}

call-behind : (calls : List Call) (place : ℕ) (call : Call) → slice_get calls place ≡ Some call → drop place calls ≡ call ∷ drop (place + 1) calls
call-behind [] place call is = absurd (cc)
call-behind (first ∷ calls) zero call is = let same : first ≡ call = (let both : Some first ≡ Some call = is in cc) in λ i. same i ∷ calls
call-behind (first ∷ calls) (suc place) call is =
    let next : suc place + 1 ≡ suc (place + 1) = omega arith in
    call-behind calls place call is ∙ ap (λ n. call ∷ drop n (first ∷ calls)) (sym next)

entries-split : (calls : List Call) (place : ℕ) (call : Call) → slice_get calls place ≡ Some call → map entry_of calls ≡ map entry_of (take place calls) ++ entry_of call ∷ map entry_of (drop (place + 1) calls)
entries-split calls place call is =
    ap (map entry_of) (sym (take-append-drop place calls) ∙ ap (λ l. take place calls ++ l) (call-behind calls place call is))
    ∙ map-append entry_of (take place calls) (call ∷ drop (place + 1) calls)

found-at : (xs : List Redemption) (x : Redemption) → Contains xs x → (c : ℕ) × (slice_get xs c ≡ Some x)
found-at xs x contained = (contained.0, slice_get-get_or xs contained.0 x contained.1 ∙ ap Some contained.2)

pub lowest-at_most : IsAtMostEachDate
lowest-at_most row settlement list call date exact t lowest are is right =
    let quasi = quasi_dates_of row in
    let maturity = civil row.maturity in
    let redemption = redemption_by (entry_of call) date in
    let before = map entry_of (take is.place row.calls.items) in
    let later = map entry_of (drop (is.place + 1) row.calls.items) in
    let split = entries-split row.calls.items is.place call is.found in
    let all = each-date (civil settlement) maturity date quasi before later (entry_of call) is.on_or_after is.quasi is.from is.before is.to_come in
    let contained : Contains (redemptions_of row settlement) redemption = subst (λ entries. Contains (redemptions_after (civil settlement) quasi entries maturity) redemption) (sym split) all in
    let found = found-at (map redemption_of list) redemption (subst (λ l. Contains l redemption) (sym are.redemptions) contained) in
    (found.0, found.1, right.none_lower found.0)
