-- No desk grows beyond a limit by the steps of the book.
use Rattle.std.proofs.Common.{◌≡◌, ◌⊎◌, inl, inr, ℕ, ◌+◌, ◌≤◌, ◌<◌, arith, Bool, true, false, cond, refl, sym, subst, Option, Some, None, List, [], ◌∷◌}
use Rattle.std.specs.Prelude.{nat_le}
use Rattle.std.specs.Option.{option_map, is_some}
use Rattle.std.specs.Ordering.{eq_by_cmp}
use Rattle.std.specs.Cmp.Lexicographic.{nat_list_cmp_total}
use Rattle.std.specs.FinMap.{get, len, contains_key, len-insert}
use Rattle.std.proofs.lemmas.Bool.Decides.{nat_tests}
use Rattle.std.proofs.lemmas.Option.{none-some}
use Rattle.muni_terms.specs.declared.row.IssueRow.{IssueRow}
use Rattle.muni_msg.specs.declared.command.Command.{Command}
use Rattle.muni_msg.specs.declared.command.Key.{Key}
use Rattle.muni_msg.specs.declared.command.Reply.{Reply}
use Rattle.muni_msg.specs.declared.version.Version.{Version}
use Rattle.muni_keep.specs.History.{History, count, grown}
use Rattle.muni_keep.specs.Tables.{Tables, trade_at, with_version}
use Rattle.muni_keep.specs.Trades.{by_bytes, own, put_own}
use Rattle.muni_book_step.specs.Reasons.{IsReasoned, IsReasonFor}
use Rattle.muni_book_step.specs.Runs.{Runs}
use Rattle.muni_book_step.specs.Sound.{HasAtMost}
use Rattle.muni_book_step.specs.Step.{Rules, Entry, NewIssue, NewVersion, after}
use Rattle.muni_book_step.proofs.OutcomeLemmas.{step-reason}
use Rattle.muni_book.proofs.PutLemmas.{same-name, own-put}

-- the trade is there, or its desk has room for one more
abbrev MayBePut : ℕ → Key → Tables → Type 0
MayBePut most key tables =
    (contains_key (own key.desk tables.desks) key.reference ≡ true) ⊎ (len (own key.desk tables.desks) < most)

one-more : (most : ℕ) (b : Bool) (n : ℕ) → n < most → cond b n (n + 1) ≤ most
one-more most true n room = omega arith
one-more most false n room = omega arith

below : (limit n : ℕ) → nat_le limit n ≡ false → n < limit
below limit n room = grind (arith, nat_tests)

has-room : (limit most n : ℕ) → limit ≤ most → nat_le limit n ≡ false → n < most
has-room limit most n within room = let less = below limit n room in omega arith

few-own : (most : ℕ) (key : Key) (version : Version) (tables : Tables) → MayBePut most key tables → len (own key.desk tables.desks) ≤ most
    → len (put_own key.reference version (own key.desk tables.desks)) ≤ most
few-own most key version tables (inl there) few =
    let trades = own key.desk tables.desks in
    rw (len-insert nat_list_cmp_total trades key.reference (grown (get trades key.reference) version), there) few
few-own most key version tables (inr room) few =
    let trades = own key.desk tables.desks in
    rw (len-insert nat_list_cmp_total trades key.reference (grown (get trades key.reference) version))
    (one-more most (contains_key trades key.reference) (len trades) room)

few-put : (most : ℕ) (desk : List ℕ) (key : Key) (version : Version) (tables : Tables) → MayBePut most key tables → HasAtMost most desk tables → HasAtMost most desk (with_version key version tables)
few-put most desk key version tables may few =
    rw (own-put desk key.desk key.reference version tables.desks)
    (elim (eq_by_cmp by_bytes desk key.desk) as (λ b. eq_by_cmp by_bytes desk key.desk ≡ b → len (cond b (put_own key.reference version (own key.desk tables.desks)) (own desk tables.desks)) ≤ most) [
      | true ↦ λ same. few-own most key version tables may (subst (λ d. len (own d tables.desks) ≤ most) (same-name desk key.desk same) few)
      | false ↦ λ other. few
    ] refl)

-- ---- what a step puts may be put
is-there : (trade : Option (History Version)) (last : ℕ × Version) → option_map (λ history. (count history, history.last)) trade ≡ Some last → is_some trade ≡ true
is-there None last none = absurd (none-some last none)
is-there (Some history) last is = refl

may-be-put : (R : Rules) (most : ℕ) → R.limit ≤ most → (tables : Tables) (c : Command) (issue : IssueRow) (key : Key) (number : ℕ) (version : Version)
    → IsReasonFor R tables c issue key number version → MayBePut most key tables
may-be-put R most within tables c issue key number version (inl cancel) = inl (is-there (trade_at tables key) cancel.last cancel.is_live.last_is)
may-be-put R most within tables c issue key number version (inr (inl entered, prices)) =
    inr (has-room R.limit most (len (own key.desk tables.desks)) within entered.room)
may-be-put R most within tables c issue key number version (inr (inr corrected, prices)) = inl (is-there (trade_at tables key) corrected.last corrected.is_live.last_is)

pub few-after : (R : Rules) (most : ℕ) → R.limit ≤ most → (desk : List ℕ) (tables : Tables) (c : Command) (reply : Reply) (entry : Option Entry)
    → IsReasoned R tables c reply entry → HasAtMost most desk tables → HasAtMost most desk (after entry tables)
few-after R most within desk tables c reply None why few = few
few-after R most within desk tables c reply (Some (NewIssue issue)) why few = few
few-after R most within desk tables c reply (Some (NewVersion key version)) why few =
    few-put most desk key version tables (may-be-put R most within tables c why.0 key why.1 version why.3) few

pub few-run : (R : Rules) (most : ℕ) → R.limit ≤ most → (desk : List ℕ) (old new : Tables) (commands : List Command) (replies : List Reply)
    → Runs R old commands replies new → HasAtMost most desk old → HasAtMost most desk new
few-run R most within desk old new [] [] run few = subst (HasAtMost most desk) (sym run) few
few-run R most within desk old new [] (reply ∷ replies) run few = absurd run
few-run R most within desk old new (c ∷ commands) [] run few = absurd run
few-run R most within desk old new (c ∷ commands) (reply ∷ replies) run few =
    few-run R most within desk (after run.0 old) new commands replies run.2
    (few-after R most within desk old c reply run.0 (step-reason R old c reply run.0 run.1) few)
