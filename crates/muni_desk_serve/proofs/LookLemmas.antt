-- What a look at the tables finds.
use Rattle.std.proofs.Common.{◌≡◌, ◌∙◌, ℕ, List, map, take, Option, Some, None, Result, Ok, Err, IfOk, IfSome, ap, refl, sym, subst}
use Rattle.muni_terms.specs.declared.row.IssueRow.{IssueRow}
use Rattle.muni_msg.specs.declared.command.Key.{Key}
use Rattle.muni_msg.specs.declared.command.Line.{Line}
use Rattle.muni_msg.specs.declared.command.Reply.TheVariants.{Confirmed}
use Rattle.muni_msg.specs.declared.version.Version.{Version}
use Rattle.muni_confirm.specs.Details.{no_details}
use Rattle.muni_keep.specs.Tables.{Tables, issue_history, last_issue, version_at, page_at, latest_at, before_latest, line}
use Rattle.muni_keep.specs.Trades.{own, past}
use Rattle.muni_keep.proofs.LastLemmas.{latest-page}
use Rattle.muni_desk_serve.specs.Answer.{reply_answer}
use Rattle.muni_keep.specs.History.{History, count, versions}
use Rattle.muni_book_step.specs.Plan.{issue_of}
use Rattle.std.specs.Option.{option_map}
use Rattle.std.proofs.lemmas.Option.{none-some}
use Rattle.muni_desk_export.specs.Trades.{kept_versions}
use Rattle.muni_desk_export.specs.Issues.{rows_at, issue_rows}
use Rattle.muni_desk_serve.specs.Look.{kept_rows, version_shown, version_confirmed}

-- the page after the reference before the last trades has these
page-latest : (t : Tables) (desk : List ℕ) (before : Option (List ℕ)) → before ≡ before_latest t desk → page_at t desk before ≡ latest_at t desk
page-latest t desk before is =
    ap (map line) (ap (λ after. take 50 (past after (own desk t.desks))) is ∙ latest-page 50 (own desk t.desks))

pub latest-found : {A E : Type 0} (lines_of : A → List Line) (told mid : Option Tables) (desk : List ℕ) (before : Option (List ℕ)) (result : Result A E) → mid ≡ told
    → IfSome told (λ t. before ≡ before_latest t desk) → IfOk result (λ lines. IfSome mid (λ t. lines_of lines ≡ page_at t desk before))
    → IfOk result (λ lines. IfSome told (λ t. lines_of lines ≡ latest_at t desk))
latest-found lines_of told mid desk before (Err fault) same is found = tt
latest-found lines_of None mid desk before (Ok lines) same is found = tt
latest-found lines_of (Some t) mid desk before (Ok lines) same is found =
    let there : IfSome (Some t) (λ t. lines_of lines ≡ page_at t desk before) = subst (λ told. IfSome told (λ t. lines_of lines ≡ page_at t desk before)) same found in
    there ∙ page-latest t desk before is

pub version-seen : (told mid : Option Tables) (key copy : Key) (number : ℕ) (version : Version) (issue : IssueRow) → mid ≡ told → copy ≡ key
    → IfSome told (λ t. Some version ≡ version_at t key number) → IfSome mid (λ t. Some issue ≡ issue_of t.issues version)
    → IfSome told (λ t. reply_answer (Confirmed issue copy number version) no_details ≡ reply_answer (version_shown t key number (version_at t key number)) no_details)
version-seen None mid key copy number version issue same is kept known = tt
version-seen (Some t) mid key copy number version issue same is kept known =
    let there : Some issue ≡ issue_of t.issues version = subst (λ told. IfSome told (λ t. Some issue ≡ issue_of t.issues version)) same known in
    ap (λ k. reply_answer (Confirmed issue k number version) no_details) is
    ∙ ap (λ i. reply_answer (version_confirmed key number version i) no_details) there
    ∙ ap (λ v. reply_answer (version_shown t key number v) no_details) kept

-- ---- the rows of an issue
rows-of : (found : Option (History IssueRow)) (last : ℕ × IssueRow) → option_map (λ history. (count history, history.last)) found ≡ Some last
    → Some (issue_rows (kept_versions found)) ≡ option_map (λ history. issue_rows (versions history)) found
rows-of None last is = absurd (cc is)
rows-of (Some history) last is = refl

none-of : (found : Option (History IssueRow)) → None ≡ option_map {U = ℕ × IssueRow} (λ history. (count history, history.last)) found → None ≡ option_map (λ history. issue_rows (versions history)) found
none-of None none = refl
none-of (Some history) none = absurd (none-some (count history, history.last) none)

pub all-rows : (told : Option Tables) (cusip : List ℕ) (last : ℕ × IssueRow) (rows : List ℕ) → IfSome told (λ t. last_issue t cusip ≡ Some last) → IfSome told (λ t. rows ≡ rows_at t cusip) → IfSome told (λ t. Some rows ≡ kept_rows t cusip)
all-rows None cusip last rows is all = tt
all-rows (Some t) cusip last rows is all = ap (λ r. Some r) all ∙ rows-of (issue_history t cusip) last is

pub no-rows : (told : Option Tables) (cusip : List ℕ) → IfSome told (λ t. None ≡ last_issue t cusip) → IfSome told (λ t. None ≡ kept_rows t cusip)
no-rows None cusip none = tt
no-rows (Some t) cusip none = none-of (issue_history t cusip) none

pub unless-told : (told : Option Tables) (P : Tables → Type 0) → told ≡ None → IfSome told P
unless-told None P none = tt
unless-told (Some t) P some = absurd (cc some)

-- what was found is the value of the tables, if they are known
pub told-is : {A : Type 0} (told : Option Tables) (value : Tables → A) (found other : A) → IfSome told (λ t. found ≡ value t) → found ≡ other → IfSome told (λ t. value t ≡ other)
told-is None value found other is same = tt
told-is (Some t) value found other is same = sym is ∙ same

pub told-all : (told : Option Tables) (P : Tables → Type 0) → ((t : Tables) → P t) → IfSome told P
told-all None P all = tt
told-all (Some t) P all = all t
