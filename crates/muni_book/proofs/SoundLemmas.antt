-- Sound tables stay sound.
use Rattle.std.proofs.Common.{◌≡◌, ◌⊎◌, inl, inr, ℕ, ◌≤◌, arith, true, false, refl, sym, ap, subst, ◌∙◌, Option, Some, None, Ok, Err, List, [], ◌∷◌, ◌++◌, All}
use Rattle.std.specs.Prelude.{nat_le}
use Rattle.std.specs.Option.{option_map}
use Rattle.std.specs.FinMap.{get, insert}
use Rattle.std.proofs.lemmas.Bool.Decides.{nat_tests}
use Rattle.std.proofs.lemmas.List.Elements.{All-head, All-tail, All-cons, All-nil}
use Rattle.std.proofs.lemmas.Option.{same_Some}
use Rattle.muni_terms.specs.Check.{fault_of, unless_fault, checked}
use Rattle.muni_terms.specs.declared.row.IssueRow.{IssueRow}
use Rattle.muni_msg.specs.declared.command.Command.{Command}
use Rattle.muni_msg.specs.declared.command.Key.{Key}
use Rattle.muni_msg.specs.declared.command.Reply.{Reply}
use Rattle.muni_msg.specs.declared.version.Act.TheVariants.{Entered, Canceled}
use Rattle.muni_msg.specs.declared.version.Version.{Version}
use Rattle.muni_keep.specs.History.{History, versions, count, grown}
use Rattle.muni_keep.specs.Tables.{Tables, Issues, numbered_terms, trade_at, with_version}
use Rattle.muni_book_step.specs.Plan.{is_canceled, cancel_of}
use Rattle.muni_book_step.specs.Sound.{Rightness, IsRightVersion, Follows, AreFollowing, AreVersions, IsSoundTrade, IsSoundIssue, AreSoundTerms, HaveAtMost, IsSound}
use Rattle.muni_book_step.specs.Step.{Rules, Entry, NewIssue, NewVersion, after}
use Rattle.muni_book_step.specs.Reasons.{IsReasoned, IsReasonFor}
use Rattle.muni_book_step.proofs.OutcomeLemmas.{step-reason}
use Rattle.muni_book_step.proofs.PlanLemmas.{none-kept}
use Rattle.muni_book.specs.StaysSound.{PricesRight, RunsStaySound}
use Rattle.muni_book.specs.Once.{Keeps}
use Rattle.muni_book.proofs.FewLemmas.{few-after}
use Rattle.muni_book.proofs.KeepLemmas.{step-keeps, terms-after}
use Rattle.muni_book.proofs.TermsLemmas.{terms-found}
use Rattle.muni_book.proofs.PutLemmas.{trade-put, length-behind}

-- ---- lists
pub all-still : {A : Type 0} (P Q : A → Type 0) (xs : List A) → ((x : A) → P x → Q x) → All P xs → All Q xs
all-still P Q [] f all = All-nil Q
all-still P Q (x ∷ xs) f all = All-cons Q x xs (f x (All-head P x xs all)) (all-still P Q xs f (All-tail P x xs all))

all-with : {A : Type 0} (P : A → Type 0) (xs : List A) (v : A) → All P xs → P v → All P (xs ++ v ∷ [])
all-with P [] v all such = All-cons P v [] such (All-nil P)
all-with P (x ∷ xs) v all such = All-cons P x (xs ++ v ∷ []) (All-head P x xs all) (all-with P xs v (All-tail P x xs all) such)

all-last : {A : Type 0} (P : A → Type 0) (xs : List A) (v : A) → All P (xs ++ v ∷ []) → P v
all-last P [] v all = All-head P v [] all
all-last P (x ∷ xs) v all = all-last P xs v (All-tail P x (xs ++ v ∷ []) all)

-- ---- one version more
following-with : (before : Version) (xs : List Version) (last v : Version) → AreFollowing before (xs ++ last ∷ []) → is_canceled last.act ≡ false → Follows last v → AreFollowing before ((xs ++ last ∷ []) ++ v ∷ [])
following-with before [] last v follow live next = (follow.0, follow.1, (live, next, tt))
following-with before (x ∷ xs) last v follow live next = (follow.0, follow.1, following-with x xs last v follow.2 live next)

versions-with : (xs : List Version) (last v : Version) → AreVersions (xs ++ last ∷ []) → is_canceled last.act ≡ false → Follows last v → AreVersions ((xs ++ last ∷ []) ++ v ∷ [])
versions-with [] last v acts live next = (acts.0, (live, next, tt))
versions-with (x ∷ xs) last v acts live next = (acts.0, following-with x xs last v acts.1 live next)

-- ---- what may be put
-- the first version of a trade of a desk that has room
record IsFirstPut (R : Rightness) (t : Tables) (key : Key) (version : Version) : Type 0 where
  is_new : trade_at t key ≡ None
  act : version.act ≡ Entered
  right : IsRightVersion R t.issues version

-- a version of a live trade
record IsNextPut (R : Rightness) (t : Tables) (key : Key) (version : Version) : Type 0 where
  history : History Version
  kept : trade_at t key ≡ Some history
  live : is_canceled history.last.act ≡ false
  next : Follows history.last version
  right : IsRightVersion R t.issues version
  room : (nat_le 99 (count history) ≡ false) ⊎ (version.act ≡ Canceled)

abbrev MayBePut : Rightness → Tables → Key → Version → Type 0
MayBePut R t key version = IsFirstPut R t key version ⊎ IsNextPut R t key version

few-versions : (n : ℕ) → nat_le 99 n ≡ false → n ≤ 98
few-versions n few = grind (arith, nat_tests)

live-few : (history : History Version) → (count history ≤ 99) ⊎ ((count history ≤ 100) × (history.last.act ≡ Canceled)) → is_canceled history.last.act ≡ false → count history ≤ 99
live-few history (inl few) live = few
live-few history (inr full) live = absurd (let never : true ≡ false = sym (ap is_canceled full.1) ∙ live in cc)

few-with : (history : History Version) (version : Version) → count history ≤ 99 → (nat_le 99 (count history) ≡ false) ⊎ (version.act ≡ Canceled)
    → (count (grown (Some history) version) ≤ 99) ⊎ ((count (grown (Some history) version) ≤ 100) × (version.act ≡ Canceled))
few-with history version few (inl room) =
    let less = few-versions (count history) room in
    let more = length-behind history.earlier history.last in
    inl (omega arith)
few-with history version few (inr canceled) =
    let more = length-behind history.earlier history.last in
    inr (omega arith, canceled)

sound-with : (R : Rightness) (t : Tables) (key : Key) (version : Version) → IsSound R t → MayBePut R t key version → IsSoundTrade R t.issues (grown (trade_at t key) version)
sound-with R t key version sound (inl first) =
    rw first.is_new (record { few = inl (omega arith); acts = (first.act, tt); right = all-with (IsRightVersion R t.issues) [] version (All-nil (IsRightVersion R t.issues)) first.right })
sound-with R t key version sound (inr next) =
    let history = next.history in
    let old = sound.trades key history next.kept in
    rw next.kept (record {
      few = few-with history version (live-few history old.few next.live) next.room;
      acts = versions-with history.earlier history.last version old.acts next.live next.next;
      right = all-with (IsRightVersion R t.issues) (versions history) version old.right next.right;
    })

put-trades : (R : Rightness) (t : Tables) (key other : Key) (version : Version) (history : History Version) → IsSound R t → MayBePut R t key version
    → trade_at (with_version key version t) other ≡ Some history → IsSoundTrade R t.issues history
put-trades R t key other version history sound may kept =
    elim (trade-put t key version other) as (λ _. IsSoundTrade R t.issues history) [
      | inl there ↦ subst (IsSoundTrade R t.issues) (same_Some _ history (sym there.1 ∙ kept)) (sound-with R t key version sound may)
      | inr elsewhere ↦ sound.trades other history (sym elsewhere.1 ∙ kept)
    ]

put-sound : (R : Rightness) (t : Tables) (key : Key) (version : Version) → IsSound R t → MayBePut R t key version → HaveAtMost 100_000_000 (with_version key version t) → IsSound R (with_version key version t)
put-sound R t key version sound may few = record {
  issues = sound.issues;
  trades = λ other history kept. put-trades R t key other version history sound may kept;
  few = few;
}

-- ---- what a step puts may be put
last-history : {V : Type 0} (trade : Option (History V)) (last : ℕ × V) → option_map (λ history. (count history, history.last)) trade ≡ Some last
    → (history : History V) × (trade ≡ Some history) × (count history ≡ last.0) × (history.last ≡ last.1)
last-history None last none = absurd (let never : None ≡ Some last = none in cc)
last-history {V} (Some history) last is =
    let same = same_Some (count history, history.last) last is in
    (history, refl, ap (λ (pair : ℕ × V). pair.0) same, ap (λ (pair : ℕ × V). pair.1) same)

may-be-put : (P : Rules) (R : Rightness) → PricesRight P.prices R → (t : Tables) (c : Command) (issue : IssueRow) (key : Key) (number : ℕ) (version : Version) → IsSound R t
    → IsReasonFor P t c issue key number version → MayBePut R t key version
may-be-put P R priced t c issue key number version sound (inl cancel) =
    let found = last-history (trade_at t key) cancel.last cancel.is_live.last_is in
    let old = sound.trades key found.0 found.1 in
    let is : version ≡ cancel_of found.0.last = cancel.version_is ∙ ap cancel_of (sym found.3) in
    let last = all-last (IsRightVersion R t.issues) found.0.earlier found.0.last old.right in
    inr (record {
      history = found.0;
      kept = found.1;
      live = ap (λ (v : Version). is_canceled v.act) found.3 ∙ cancel.is_live.live;
      next = inr is;
      right = subst (IsRightVersion R t.issues) (sym is) (record { issue = last.issue; kept = last.kept; right = last.right });
      room = inr (ap (λ (v : Version). v.act) is);
    })
may-be-put P R priced t c issue key number version sound (inr (inl entered, prices)) =
    inl (record {
      is_new = none-kept (trade_at t key) entered.is_new;
      act = entered.act_is;
      right = record { issue = issue; kept = (terms-found t.issues version.terms.asked.cusip entered.chosen (version.issue_number, issue) entered.issue_is).0; right = priced issue version.terms.asked version.figures prices };
    })
may-be-put P R priced t c issue key number version sound (inr (inr corrected, prices)) =
    let found = last-history (trade_at t key) corrected.last corrected.is_live.last_is in
    inr (record {
      history = found.0;
      kept = found.1;
      live = ap (λ (v : Version). is_canceled v.act) found.3 ∙ corrected.is_live.live;
      next = inl corrected.act_is;
      right = record { issue = issue; kept = (terms-found t.issues version.terms.asked.cusip corrected.chosen (version.issue_number, issue) corrected.issue_is).0; right = priced issue version.terms.asked version.figures prices };
      room = inl (ap (nat_le 99) found.2 ∙ corrected.room);
    })

-- ---- steps and runs
-- a row that is checked passes every test
passed-row : (row issue : IssueRow) → checked row ≡ Ok issue → fault_of issue ≡ None
passed-row row issue is =
    elim (fault_of row) as (λ fault. fault_of row ≡ fault → unless_fault row fault ≡ Ok issue → fault_of issue ≡ None) [
      | None ↦ λ none same. subst (λ r. fault_of r ≡ None) (let one : Ok row ≡ Ok issue = same in let e : row ≡ issue = cc in e) none
      | Some fault ↦ λ some same. absurd (let never : Err fault ≡ Ok issue = same in cc)
    ] refl is

-- the next terms of an issue, which has fewer than 99 if it is kept
abbrev HasRoomFor : Issues → IssueRow → Type 0
HasRoomFor issues added =
    (get issues added.cusip ≡ None)
    ⊎ ((history : History IssueRow) × (get issues added.cusip ≡ Some history) × (nat_le 99 (count history) ≡ false))

terms-with : (issues : Issues) (added : IssueRow) → ((q : List ℕ) (kept : History IssueRow) → get issues q ≡ Some kept → AreSoundTerms q kept) → fault_of added ≡ None → HasRoomFor issues added
    → AreSoundTerms added.cusip (grown (get issues added.cusip) added)
terms-with issues added before passed (inl none) =
    rw none (record { few = omega arith; each = all-with (IsSoundIssue added.cusip) [] added (All-nil (IsSoundIssue added.cusip)) (record { own_cusip = refl; passed = passed }) })
terms-with issues added before passed (inr (history, is, room)) =
    let old = before added.cusip history is in
    let less = few-versions (count history) room in
    let more = length-behind history.earlier history.last in
    rw is (record {
      few = omega (arith, less, more);
      each = all-with (IsSoundIssue added.cusip) (versions history) added old.each (record { own_cusip = refl; passed = passed });
    })

sound-terms : (issues : Issues) (added : IssueRow) (cusip : List ℕ) (history : History IssueRow) → ((q : List ℕ) (kept : History IssueRow) → get issues q ≡ Some kept → AreSoundTerms q kept) → fault_of added ≡ None → HasRoomFor issues added
    → get (insert issues added.cusip (grown (get issues added.cusip) added)) cusip ≡ Some history → AreSoundTerms cusip history
sound-terms issues added cusip history before passed room found =
    elim (terms-after issues added cusip) as (λ _. AreSoundTerms cusip history) [
      | inl there ↦ subst (λ c. AreSoundTerms c history) (sym there.0)
          (subst (AreSoundTerms added.cusip) (same_Some _ history (sym there.1 ∙ found)) (terms-with issues added before passed room))
      | inr elsewhere ↦ before cusip history (sym elsewhere.1 ∙ found)
    ]

last-terms-room : (issues : Issues) (added : IssueRow) (last : ℕ × IssueRow) → option_map (λ history. (count history, history.last)) (get issues added.cusip) ≡ Some last → nat_le 99 last.0 ≡ false → HasRoomFor issues added
last-terms-room issues added last is room =
    let found = last-history (get issues added.cusip) last is in
    inr (found.0, found.1, ap (nat_le 99) found.2 ∙ room)

still-sound : (R : Rightness) (issues more : Issues) (history : History Version) → ((cusip : List ℕ) (number : ℕ) (issue : IssueRow) → numbered_terms issues cusip number ≡ Some issue → numbered_terms more cusip number ≡ Some issue) → IsSoundTrade R issues history → IsSoundTrade R more history
still-sound R issues more history keeps sound = record {
  few = sound.few;
  acts = sound.acts;
  right = all-still (IsRightVersion R issues) (IsRightVersion R more) (versions history) (λ version right. record { issue = right.issue; kept = keeps version.terms.asked.cusip version.issue_number right.issue right.kept; right = right.right }) sound.right;
}

pub sound-after : (P : Rules) (R : Rightness) → PricesRight P.prices R → P.limit ≤ 100_000_000 → (t : Tables) (c : Command) (reply : Reply) (entry : Option Entry) → IsSound R t → Keeps t (after entry t)
    → IsReasoned P t c reply entry → IsSound R (after entry t)
sound-after P R priced few t c reply None sound keeps why = sound
sound-after P R priced few t c reply (Some (NewIssue issue)) sound keeps (inl (new, told)) = record {
  issues = λ cusip history kept. sound-terms t.issues issue cusip history sound.issues (passed-row new.row issue new.passed) (inl new.is_new) kept;
  trades = λ key history kept. still-sound R t.issues _ history keeps.issues (sound.trades key history kept);
  few = sound.few;
}
sound-after P R priced few t c reply (Some (NewIssue issue)) sound keeps (inr (number, amended, told)) = record {
  issues = λ cusip history kept. sound-terms t.issues issue cusip history sound.issues (passed-row amended.row issue amended.passed) (last-terms-room t.issues issue amended.last amended.last_is amended.room) kept;
  trades = λ key history kept. still-sound R t.issues _ history keeps.issues (sound.trades key history kept);
  few = sound.few;
}
sound-after P R priced few t c reply (Some (NewVersion key version)) sound keeps why =
    put-sound R t key version sound (may-be-put P R priced t c why.0 key why.1 version sound why.3)
    (λ desk. few-after P 100_000_000 few desk t c reply (Some (NewVersion key version)) why (sound.few desk))

pub runs-stay-sound : (P : Rules) (R : Rightness) → PricesRight P.prices R → RunsStaySound P R
runs-stay-sound P R priced few old new [] [] sound run = subst (IsSound R) (sym run) sound
runs-stay-sound P R priced few old new [] (reply ∷ replies) sound run = absurd run
runs-stay-sound P R priced few old new (c ∷ commands) [] sound run = absurd run
runs-stay-sound P R priced few old new (c ∷ commands) (reply ∷ replies) sound run =
    let entry = run.0 in
    let next = sound-after P R priced few old c reply entry sound (step-keeps P old c reply entry run.1) (step-reason P old c reply entry run.1) in
    runs-stay-sound P R priced few (after entry old) new commands replies next run.2
