-- Tables that keep the same are equal, if no desk is kept without a trade.
use Rattle.std.proofs.Common.{◌≡◌, ◌+◌, ℕ, suc, true, false, cond, List, [], ◌∷◌, Option, Some, None, refl, sym, ap, subst, ◌∙◌}
use Rattle.std.specs.Prelude.{slice_get}
use Rattle.std.specs.Option.{option_and_then, unwrap_or}
use Rattle.std.specs.Ordering.{eq_by_cmp}
use Rattle.std.specs.Cmp.Lexicographic.{nat_list_cmp_total}
use Rattle.std.specs.FinMap.{empty, get, get-empty, get-insert, same_map}
use Rattle.std.proofs.lemmas.List.{same_from_push}
use Rattle.std.proofs.lemmas.Map.Lookups.{exact_bytes}
use Rattle.std.proofs.lemmas.Option.{none-some, same_Some}
use Rattle.muni_terms.specs.declared.row.IssueRow.{IssueRow}
use Rattle.muni_msg.specs.declared.command.Command.{Command}
use Rattle.muni_msg.specs.declared.command.Key.{Key}
use Rattle.muni_msg.specs.declared.command.Reply.{Reply}
use Rattle.muni_msg.specs.declared.version.Version.{Version}
use Rattle.muni_keep.specs.History.{History, grown, version_in, versions}
use Rattle.muni_keep.specs.Tables.{Tables, issue_numbered, trade_at, version_at, no_tables, with_version}
use Rattle.muni_keep.specs.Trades.{by_bytes, Trades, own, put_own}
use Rattle.muni_book_step.specs.Runs.{Runs}
use Rattle.muni_book_step.specs.Step.{Rules, Entry, NewIssue, NewVersion, after}
use Rattle.muni_book_step.proofs.PlanLemmas.{none-kept}
use Rattle.muni_book.specs.Once.{Keeps}
use Rattle.muni_desk_export.proofs.MapLemmas.{get-put}
use Rattle.muni_desk_export.proofs.AgainVersionLemmas.{numbered}

-- ---- options and lists
same-option : {A : Type 0} (o p : Option A) → ((x : A) → o ≡ Some x → p ≡ Some x) → ((x : A) → p ≡ Some x → o ≡ Some x) → o ≡ p
same-option None None to from = refl
same-option None (Some x) to from = from x refl
same-option (Some x) p to from = sym (to x refl)

same-list : {A : Type 0} (xs ys : List A) → ((i : ℕ) → slice_get xs i ≡ slice_get ys i) → xs ≡ ys
same-list [] [] is = refl
same-list [] (y ∷ ys) is = absurd (none-some y (is 0))
same-list (x ∷ xs) [] is = absurd (none-some x (sym (is 0)))
same-list (x ∷ xs) (y ∷ ys) is =
    let heads = same_Some x y (is 0) in
    let tails = same-list xs ys (λ i. is (suc i)) in
    λ i. heads i ∷ tails i

-- ---- trades
same-history : {V : Type 0} (history other : History V) → ((number : ℕ) → version_in history number ≡ version_in other number) → history ≡ other
same-history history other is =
    let all = same-list (versions history) (versions other) (λ i. sym (numbered history (i + 1) i refl) ∙ is (i + 1) ∙ numbered other (i + 1) i refl) in
    let parts = same_from_push history.earlier other.earlier history.last other.last all in
    λ i. record { earlier = parts.0 i; last = parts.1 i }

same-trade : {V : Type 0} (trade other : Option (History V))
    → ((number : ℕ) → option_and_then (λ history. version_in history number) trade ≡ option_and_then (λ history. version_in history number) other) → trade ≡ other
same-trade None other is = sym (none-kept other (sym (is 1)))
same-trade (Some history) None is = none-kept (Some history) (is 1)
same-trade (Some history) (Some other) is = ap (λ x. Some x) (same-history history other is)

-- ---- desks
abbrev HasTrade : Trades Version → Type 0
HasTrade trades = (reference : List ℕ) × (history : History Version) × (get trades reference ≡ Some history)

abbrev HasTradeIfKept : Option (Trades Version) → Type 0
HasTradeIfKept kept = (trades : Trades Version) → kept ≡ Some trades → HasTrade trades

-- each desk that is kept has a trade
abbrev pub AreFilled : Tables → Type 0
AreFilled t = (desk : List ℕ) → HasTradeIfKept (get t.desks desk)

same-desk : (desk other : Option (Trades Version)) → ((reference : List ℕ) → get (unwrap_or desk empty) reference ≡ get (unwrap_or other empty) reference)
    → HasTradeIfKept desk → HasTradeIfKept other → desk ≡ other
same-desk None None same filled also = refl
same-desk None (Some trades) same filled also =
    let one = also trades refl in
    absurd (none-some one.1 (sym (get-empty by_bytes one.0) ∙ same one.0 ∙ one.2))
same-desk (Some trades) None same filled also =
    let one = filled trades refl in
    absurd (none-some one.1 (sym (get-empty by_bytes one.0) ∙ sym (same one.0) ∙ one.2))
same-desk (Some trades) (Some others) same filled also = ap (λ x. Some x) (same_map nat_list_cmp_total exact_bytes trades others same)

-- ---- issues
-- what tables keep of issues the others keep too
abbrev pub HasIssues : Tables → Tables → Type 0
HasIssues all t = (cusip : List ℕ) (number : ℕ) (issue : IssueRow) → issue_numbered all cusip number ≡ Some issue → issue_numbered t cusip number ≡ Some issue

pub same-issues : (t other : Tables) → HasIssues t other → HasIssues other t → t.issues ≡ other.issues
same-issues t other to from =
    same_map nat_list_cmp_total exact_bytes t.issues other.issues (λ q.
    same-trade (get t.issues q) (get other.issues q) (λ number. same-option (issue_numbered t q number) (issue_numbered other q number) (to q number) (from q number)))

-- ---- tables
pub same-tables : (t other : Tables) → Keeps t other → Keeps other t → AreFilled t → AreFilled other → t ≡ other
same-tables t other to from filled also =
    let issues : t.issues ≡ other.issues =
    same-issues t other to.issues from.issues in
    let trade : (key : Key) → trade_at t key ≡ trade_at other key = λ key.
    same-trade (trade_at t key) (trade_at other key) (λ number. same-option (version_at t key number) (version_at other key number) (to.versions key number) (from.versions key number)) in
    let desks : t.desks ≡ other.desks =
    same_map nat_list_cmp_total exact_bytes t.desks other.desks (λ desk.
    same-desk (get t.desks desk) (get other.desks desk) (λ reference. trade (record { desk = desk; reference = reference })) (filled desk) (also desk)) in
    λ i. record { issues = issues i; desks = desks i }

-- ---- runs from empty tables leave no desk without a trade
pub filled-empty : AreFilled no_tables
filled-empty desk trades is = absurd (none-some trades (sym (get-empty by_bytes desk) ∙ is))

filled-with : (t : Tables) (key : Key) (version : Version) → AreFilled t → AreFilled (with_version key version t)
filled-with t key version filled desk trades is =
    let before = own key.desk t.desks in
    let put = put_own key.reference version before in
    elim (eq_by_cmp by_bytes desk key.desk) as (λ b. cond b (Some put) (get t.desks desk) ≡ Some trades → HasTrade trades) [
      | true ↦ λ here.
          let added = grown (get before key.reference) version in
          subst HasTrade (same_Some put trades here) (key.reference, added, get-put before key.reference added)
      | false ↦ λ there. filled desk trades there
    ] (sym (get-insert nat_list_cmp_total t.desks key.desk put desk) ∙ is)

filled-after : (entry : Option Entry) (t : Tables) → AreFilled t → AreFilled (after entry t)
filled-after None t filled = filled
filled-after (Some (NewIssue issue)) t filled = filled
filled-after (Some (NewVersion key version)) t filled = filled-with t key version filled

pub runs-filled : (P : Rules) (old new : Tables) (commands : List Command) (replies : List Reply) → AreFilled old → Runs P old commands replies new → AreFilled new
runs-filled P old new [] [] filled run = subst AreFilled (sym run) filled
runs-filled P old new [] (reply ∷ replies) filled run = absurd run
runs-filled P old new (c ∷ commands) [] filled run = absurd run
runs-filled P old new (c ∷ commands) (reply ∷ replies) filled run =
    runs-filled P (after run.0 old) new commands replies (filled-after run.0 old filled) run.2
