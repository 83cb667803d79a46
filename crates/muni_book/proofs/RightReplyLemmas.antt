-- Over sound tables each reply carries figures that are right.
use Rattle.std.proofs.Common.{◌≡◌, ◌≤◌, inl, inr, ℕ, ◌-◌, ◌==◌, Bool, true, false, cond, refl, sym, ap, subst, ◌∙◌, Option, Some, None, Result, Ok, Err, List, [], ◌∷◌, take, All}
use Rattle.std.specs.Prelude.{T, ◌&&◌, slice_get, if◌then◌else◌}
use Rattle.std.specs.Option.{option_map, option_and_then}
use Rattle.std.specs.Ordering.{is_lt, is_eq, ordering_reverse}
use Rattle.std.specs.declared.cmp.Ordering.{Ordering}
use Rattle.std.specs.declared.cmp.Ordering.TheVariants.{Less, Equal, Greater}
use Rattle.std.specs.Cmp.Lexicographic.{nat_list_cmp_total}
use Rattle.std.specs.FinMap.{get, entries, entries_sorted, get-entries, find, is_sorted}
use Rattle.std.specs.FinMap.Entries.{below_all}
use Rattle.std.proofs.lemmas.List.Elements.{All-head, All-tail, All-cons, All-nil, All-get_or, All-take, All-map, All-filter}
use Rattle.std.proofs.lemmas.Option.{same_Some, slice_get_within, get_or_from_slice_get}
use Rattle.muni_terms.specs.declared.row.IssueRow.{IssueRow}
use Rattle.muni_msg.specs.declared.asked.Asked.{Asked}
use Rattle.muni_msg.specs.declared.asked.Terms.{Terms}
use Rattle.muni_msg.specs.declared.command.Command.{Command}
use Rattle.muni_msg.specs.declared.command.Key.{Key}
use Rattle.muni_msg.specs.declared.command.Reply.{Reply}
use Rattle.muni_msg.specs.declared.command.Reply.TheVariants.{Added, Amended, Quoted, Listed, Confirmed, Refused}
use Rattle.muni_msg.specs.declared.figures.Figures.{Figures}
use Rattle.muni_msg.specs.declared.refusal.Refusal.{Refusal}
use Rattle.muni_msg.specs.declared.version.Act.{Act}
use Rattle.muni_msg.specs.declared.version.Version.{Version}
use Rattle.muni_msg.specs.declared.shown.Shown.{Shown}
use Rattle.muni_keep.specs.History.{History, versions, count, version_in, next_number}
use Rattle.muni_keep.specs.Tables.{Tables, Issues, last_terms, numbered_terms, issue_at, issue_history, issue_numbered, trade_at, version_at, line}
use Rattle.muni_keep.specs.Trades.{by_bytes, own, is_past, trades_past}
use Rattle.muni_book_step.specs.declared.plan.Plan.{Plan}
use Rattle.muni_book_step.specs.declared.plan.Plan.TheVariants.{Answer, Quote, KeepIssue, KeepAmendment, KeepVersion, KeepPriced}
use Rattle.muni_book_step.specs.Plan.{issue_of}
use Rattle.muni_book_step.specs.Sound.{Rightness, IsRightVersion, IsSoundIssue, IsSound}
use Rattle.muni_book_step.specs.Step.{Pricing, Rules, Entry, Outcome, quoted, kept, priced, IsOutcome, IsStepOver, after}
use Rattle.muni_book_step.proofs.OutcomeLemmas.{step-reason}
use Rattle.muni_book_step.proofs.PlanLemmas.{HasReason, reason-of}
use Rattle.muni_book_step.proofs.ReadyLemmas.{live-next, new-next}
use Rattle.muni_book.specs.Once.{Keeps}
use Rattle.muni_book.specs.RightReplies.{IsKeptRight, AreTermsOf, IsRightReply, StepsConfirmRight, RunsConfirmRight, VersionsAreRight, LastsAreRight, IsRightLine, PagesAreRight}
use Rattle.muni_book.specs.StaysSound.{PricesRight}
use Rattle.muni_book.proofs.CauseLemmas.{IsAnswerFor, IsFor, is-for}
use Rattle.muni_book.proofs.KeepLemmas.{step-keeps, runs-keep}
use Rattle.muni_book.proofs.PutLemmas.{itself, last-in, last-kept, version-put}
use Rattle.muni_book.proofs.TermsLemmas.{terms-found}
use Rattle.muni_book.proofs.SoundLemmas.{all-still, sound-after}

-- ---- versions that are kept
of-read : {A : Type 0} (Such : A → Type 0) (xs : List A) (i : ℕ) (x : A) → slice_get xs i ≡ Some x → All Such xs → Such x
of-read Such xs i x there all = subst Such (get_or_from_slice_get xs i x x there) (All-get_or Such xs i x (slice_get_within xs i x there) all)

of-history : {V : Type 0} (Such : V → Type 0) (history : History V) (number : ℕ) (v : V) → version_in history number ≡ Some v → All Such (versions history) → Such v
of-history Such history number v there all =
    elim (number == 0) as (λ b. (if b then None else slice_get (versions history) (number - 1)) ≡ Some v → Such v) [
      | true ↦ λ none. absurd (let never : None ≡ Some v = none in cc)
      | false ↦ λ read. of-read Such (versions history) (number - 1) v read all
    ] there

of-trade : (R : Rightness) (t : Tables) (key : Key) (number : ℕ) (version : Version) (trade : Option (History Version)) → IsSound R t → trade_at t key ≡ trade
    → option_and_then (λ history. version_in history number) trade ≡ Some version → IsRightVersion R t.issues version
of-trade R t key number version None sound is there = absurd (let never : None ≡ Some version = there in cc)
of-trade R t key number version (Some history) sound is there = of-history (IsRightVersion R t.issues) history number version there (sound.trades key history is).right

right-version : (R : Rightness) (t : Tables) (key : Key) (number : ℕ) (version : Version) → IsSound R t → version_at t key number ≡ Some version → IsRightVersion R t.issues version
right-version R t key number version sound there = of-trade R t key number version (trade_at t key) sound refl there

-- and terms of issues
of-terms : (R : Rightness) (t : Tables) (cusip : List ℕ) (number : ℕ) (issue : IssueRow) (found : Option (History IssueRow)) → IsSound R t → issue_history t cusip ≡ found
    → option_and_then (λ history. version_in history number) found ≡ Some issue → IsSoundIssue cusip issue
of-terms R t cusip number issue None sound is there = absurd (let never : None ≡ Some issue = there in cc)
of-terms R t cusip number issue (Some history) sound is there = of-history (IsSoundIssue cusip) history number issue there (sound.issues cusip history is).each

sound-terms : (R : Rightness) (t : Tables) (cusip : List ℕ) (number : ℕ) (issue : IssueRow) → IsSound R t → issue_numbered t cusip number ≡ Some issue → IsSoundIssue cusip issue
sound-terms R t cusip number issue sound there = of-terms R t cusip number issue (issue_history t cusip) sound refl there

kept-right : (R : Rightness) (t : Tables) (issue : IssueRow) (key : Key) (number : ℕ) (version : Version) → IsSound R t → version_at t key number ≡ Some version → issue_of t.issues version ≡ Some issue
    → IsKeptRight R t issue key number version
kept-right R t issue key number version sound there known =
    let found = right-version R t key number version sound there in
    let same = same_Some found.issue issue (sym found.kept ∙ known) in
    record {
      version_kept = there;
      issue_kept = known;
      own_issue = (sound-terms R t version.terms.asked.cusip version.issue_number issue sound known).own_cusip;
      passed = (sound-terms R t version.terms.asked.cusip version.issue_number issue sound known).passed;
      right = subst (λ i. R i version.terms.asked version.figures) same found.right;
    }

pub versions-right : (R : Rightness) → VersionsAreRight R
versions-right R t key number version sound there =
    let found = right-version R t key number version sound there in
    (found.issue, kept-right R t found.issue key number version sound there found.kept)

pub lasts-right : (R : Rightness) → LastsAreRight R
lasts-right R t key number version sound last =
    versions-right R t key number version sound (last-kept t key (number, version) last)

-- ---- lists
first : (a b : Bool) → T (a && b) → T a
first true b p = tt
first false b p = p

second : (a b : Bool) → T (a && b) → T b
second true b p = p
second false b p = absurd p

less : (o : Ordering) → T (is_lt o) → o ≡ Less
less Less p = refl
less Equal p = absurd p
less Greater p = absurd p

-- what is found at the keys of a list is found there after a lower key
behind : {X : Type 0} (e : List ℕ × X) (all some : List (List ℕ × X)) → T (below_all by_bytes e.0 some) → All (λ f. find by_bytes f.0 all ≡ Some f.1) some → All (λ f. find by_bytes f.0 (e ∷ all) ≡ Some f.1) some
behind e all [] lower found = All-nil (λ f. find by_bytes f.0 (e ∷ all) ≡ Some f.1)
behind e all (f ∷ some) lower found =
    let over : by_bytes f.0 e.0 ≡ Greater = nat_list_cmp_total.antisymm f.0 e.0 ∙ ap ordering_reverse (less _ (first _ _ lower)) in
    All-cons (λ f. find by_bytes f.0 (e ∷ all) ≡ Some f.1) f some
    (ap (λ o. cond (is_eq o) (Some e.1) (find by_bytes f.0 all)) over ∙ All-head (λ f. find by_bytes f.0 all ≡ Some f.1) f some found)
    (behind e all some (second _ _ lower) (All-tail (λ f. find by_bytes f.0 all ≡ Some f.1) f some found))

each-found : {X : Type 0} (es : List (List ℕ × X)) → T (is_sorted by_bytes es) → All (λ e. find by_bytes e.0 es ≡ Some e.1) es
each-found [] sorted = All-nil (λ e. find by_bytes e.0 [] ≡ Some e.1)
each-found (e ∷ es) sorted =
    All-cons (λ f. find by_bytes f.0 (e ∷ es) ≡ Some f.1) e es
    (ap (λ b. cond b (Some e.1) (find by_bytes e.0 es)) (itself e.0))
    (behind e es es (first _ _ sorted) (each-found es (second _ _ sorted)))

line-right : (R : Rightness) (t : Tables) (desk : List ℕ) (trade : List ℕ × History Version) → IsSound R t → find by_bytes trade.0 (entries (own desk t.desks)) ≡ Some trade.1 → IsRightLine R t desk (line trade)
line-right R t desk trade sound found =
    let key : Key = record { desk = desk; reference = trade.0 } in
    lasts-right R t key (count trade.1) trade.1.last sound
    (ap (option_map (λ (history : History Version). (count history, history.last))) (get-entries (own desk t.desks) trade.0 ∙ found))

pub pages-right : (R : Rightness) → PagesAreRight R
pages-right R t desk from sound =
    let trades = own desk t.desks in
    let Such = λ (trade : List ℕ × History Version). IsRightLine R t desk (line trade) in
    let all : All Such (entries trades) =
    all-still (λ trade. find by_bytes trade.0 (entries trades) ≡ Some trade.1) Such (entries trades) (λ trade found. line-right R t desk trade sound found) (each-found (entries trades) (entries_sorted trades)) in
    All-map (IsRightLine R t desk) line (take 50 (trades_past from trades))
    (All-take Such 50 (trades_past from trades) (All-filter (λ trade. is_past from trade.0) Such (entries trades) all))

-- ---- what a reply confirms is kept after the step, and what it quotes is right
abbrev IsKeptReply : Rightness → Tables → Reply → Type 0
IsKeptReply R t (Added cusip) = Unit {0}
IsKeptReply R t (Amended cusip number) = Unit {0}
IsKeptReply R t (Quoted issue asked figures shown) =
    AreTermsOf t asked.cusip issue × R issue asked figures
IsKeptReply R t (Listed lines) = Unit {0}
IsKeptReply R t (Confirmed issue key number version) =
    (version_at t key number ≡ Some version) × (issue_of t.issues version ≡ Some issue)
IsKeptReply R t (Refused why) = Unit {0}

abbrev HasKept : Rightness → Tables → Outcome → Type 0
HasKept R t outcome = IsKeptReply R (after outcome.entry t) outcome.reply

by-answer : (limit : ℕ) (R : Rightness) (t : Tables) (c : Command) (reply : Reply) → IsAnswerFor limit t c reply → IsKeptReply R t reply
by-answer limit R t c (Added cusip) answer = tt
by-answer limit R t c (Amended cusip number) answer = tt
by-answer limit R t c (Quoted issue asked figures shown) answer = absurd answer
by-answer limit R t c (Listed lines) answer = tt
by-answer limit R t c (Confirmed issue key number version) answer = answer
by-answer limit R t c (Refused why) answer = tt

-- the last terms are those with their number
of-last : (history : Option (History IssueRow)) (issue : IssueRow) → option_map (λ history. history.last) history ≡ Some issue → (number : ℕ) × (option_and_then (λ history. version_in history number) history ≡ Some issue)
of-last None issue is = absurd (let never : None ≡ Some issue = is in cc)
of-last (Some history) issue is = (count history, last-in (Some history) (count history, history.last) refl ∙ is)

last-terms : (issues : Issues) (cusip : List ℕ) (issue : IssueRow) → last_terms issues cusip ≡ Some issue → (number : ℕ) × (numbered_terms issues cusip number ≡ Some issue)
last-terms issues cusip issue is = of-last (get issues cusip) issue is

by-quoted : (P : Pricing) (R : Rightness) → PricesRight P R → (t : Tables) (issue : IssueRow) (asked : Asked) (shown : Shown) (answer : Result Figures Refusal) → issue_at t asked.cusip ≡ Some issue → P issue asked answer → HasKept R t (quoted issue asked shown answer)
by-quoted P R priced t issue asked shown (Ok figures) known prices = (last-terms t.issues asked.cusip issue known, priced issue asked figures prices)
by-quoted P R priced t issue asked shown (Err why) known prices = tt

by-put : (R : Rightness) (t : Tables) (issue : IssueRow) (key : Key) (number : ℕ) (version : Version) → number ≡ next_number (trade_at t key) → issue_of t.issues version ≡ Some issue → HasKept R t (kept issue key number version)
by-put R t issue key number version next known = (version-put t key number version next, known)

by-priced : (R : Rightness) (t : Tables) (issue : IssueRow) (issue_number : ℕ) (key : Key) (number : ℕ) (act : Act) (terms : Terms) (answer : Result Figures Refusal) → number ≡ next_number (trade_at t key) → numbered_terms t.issues terms.asked.cusip issue_number ≡ Some issue
    → HasKept R t (priced issue issue_number key number act terms answer)
by-priced R t issue issue_number key number act terms (Ok figures) next known = by-put R t issue key number (record { act = act; terms = terms; issue_number = issue_number; figures = figures }) next known
by-priced R t issue issue_number key number act terms (Err why) next known = tt

by-plan : (P : Rules) (R : Rightness) → PricesRight P.prices R → (t : Tables) (c : Command) (plan : Plan) (outcome : Outcome) → IsFor P.limit t c plan → HasReason P.limit t c plan → IsOutcome P.prices plan outcome → HasKept R t outcome
by-plan P R right t c (Answer reply) outcome answer reason is = subst (HasKept R t) (sym is) (by-answer P.limit R t c reply answer)
by-plan P R right t c (Quote issue asked shown) outcome known reason is = subst (HasKept R t) (sym is.2) (by-quoted P.prices R right t issue asked shown is.0 known is.1)
by-plan P R right t c (KeepIssue issue) outcome answer reason is = subst (HasKept R t) (sym is) tt
by-plan P R right t c (KeepAmendment number issue) outcome answer reason is = subst (HasKept R t) (sym is) tt
by-plan P R right t c (KeepVersion issue key number version) outcome answer reason is =
    let known = subst (λ (v : Version). issue_of t.issues v ≡ Some issue) (sym reason.version_is) reason.issue_is in
    subst (HasKept R t) (sym is) (by-put R t issue key number version (live-next t key number reason.last reason.is_live) known)
by-plan P R right t c (KeepPriced issue issue_number key number act terms) outcome answer (inl new) is =
    subst (HasKept R t) (sym is.2) (by-priced R t issue issue_number key number act terms is.0 (new-next t key number new.number_is new.is_new) (terms-found t.issues terms.asked.cusip new.chosen (issue_number, issue) new.issue_is).0)
by-plan P R right t c (KeepPriced issue issue_number key number act terms) outcome answer (inr correction) is =
    subst (HasKept R t) (sym is.2) (by-priced R t issue issue_number key number act terms is.0 (live-next t key number correction.last correction.is_live) (terms-found t.issues terms.asked.cusip correction.chosen (issue_number, issue) correction.issue_is).0)

-- the figures of a quote are those that may be answered
pub step-quoted : (P : Rules) (t : Tables) (c : Command) (issue : IssueRow) (asked : Asked) (figures : Figures) (shown : Shown) (entry : Option Entry) → IsStepOver P t c (record { reply = Quoted issue asked figures shown; entry = entry }) → P.prices issue asked (Ok figures)
step-quoted P t c issue asked figures shown entry step =
    (by-plan P (λ row what found. P.prices row what (Ok found)) (λ row what found prices. prices) t c _ (record { reply = Quoted issue asked figures shown; entry = entry }) (is-for P.limit t c) (reason-of P.limit t c) step).1

-- ---- steps and runs
right-reply : (R : Rightness) (t : Tables) (reply : Reply) → IsSound R t → IsKeptReply R t reply → IsRightReply R t reply
right-reply R t (Added cusip) sound there = tt
right-reply R t (Amended cusip number) sound there = tt
right-reply R t (Quoted issue asked figures shown) sound there = there
right-reply R t (Listed lines) sound there = tt
right-reply R t (Confirmed issue key number version) sound there = kept-right R t issue key number version sound there.0 there.1
right-reply R t (Refused why) sound there = tt

still-right : (R : Rightness) (old new : Tables) (reply : Reply) → Keeps old new → IsRightReply R old reply → IsRightReply R new reply
still-right R old new (Added cusip) keeps is = tt
still-right R old new (Amended cusip number) keeps is = tt
still-right R old new (Quoted issue asked figures shown) keeps is = ((is.0.0, keeps.issues asked.cusip is.0.0 issue is.0.1), is.1)
still-right R old new (Listed lines) keeps is = tt
still-right R old new (Confirmed issue key number version) keeps is = record {
  version_kept = keeps.versions key number version is.version_kept;
  issue_kept = keeps.issues version.terms.asked.cusip version.issue_number issue is.issue_kept;
  own_issue = is.own_issue;
  passed = is.passed;
  right = is.right;
}
still-right R old new (Refused why) keeps is = tt

sound-step : (P : Rules) (R : Rightness) → PricesRight P.prices R → P.limit ≤ 100_000_000 → (t : Tables) (c : Command) (reply : Reply) (entry : Option Entry) → IsSound R t → IsStepOver P t c (record { reply = reply; entry = entry }) → IsSound R (after entry t)
sound-step P R priced few t c reply entry sound step = sound-after P R priced few t c reply entry sound (step-keeps P t c reply entry step) (step-reason P t c reply entry step)

pub steps-right : (P : Rules) (R : Rightness) → PricesRight P.prices R → StepsConfirmRight P R
steps-right P R priced few old c reply entry sound step =
    right-reply R (after entry old) reply (sound-step P R priced few old c reply entry sound step)
    (by-plan P R priced old c _ (record { reply = reply; entry = entry }) (is-for P.limit old c) (reason-of P.limit old c) step)

pub runs-right : (P : Rules) (R : Rightness) → PricesRight P.prices R → RunsConfirmRight P R
runs-right P R priced few old new [] [] sound run = All-nil (IsRightReply R new)
runs-right P R priced few old new [] (reply ∷ replies) sound run = absurd run
runs-right P R priced few old new (c ∷ commands) [] sound run = absurd run
runs-right P R priced few old new (c ∷ commands) (reply ∷ replies) sound run =
    let mid = after run.0 old in
    All-cons (IsRightReply R new) reply replies
    (still-right R mid new reply (runs-keep P mid new commands replies run.2) (steps-right P R priced few old c reply run.0 sound run.1))
    (runs-right P R priced few mid new commands replies (sound-step P R priced few old c reply run.0 sound run.1) run.2)
