-- What is to be done for a command, by the issues and by the trades of the desk that sent it.
use Rattle.std.specs.Prelude.{ℕ, ◌+◌, ◌-◌, ◌^◌, ◌==◌, ◌&&◌, min, nat_le, Bool, true, false, if◌then◌else◌, List, map, take, Option, Some, None, Result, Ok, Err}
use Rattle.std.specs.Option.{option_map, option_and_then, option_map_or}
use Rattle.std.specs.FinMap.{get, len}
use Rattle.muni_terms.specs.Check.{checked}
use Rattle.muni_terms.specs.Row.{row_eq}
use Rattle.muni_terms.specs.declared.row.IssueRow.{IssueRow}
use Rattle.muni_terms.specs.declared.row.TermsFault.{TermsFault}
use Rattle.muni_msg.specs.Asked.{terms_eq}
use Rattle.muni_msg.specs.declared.asked.Asked.{Asked}
use Rattle.muni_msg.specs.declared.asked.Terms.{Terms}
use Rattle.muni_msg.specs.declared.command.Command.{Command}
use Rattle.muni_msg.specs.declared.command.Command.TheVariants.{AddIssue, Amend, Enter, Correct, Cancel, Confirm, Quote, List as ListTrades}
use Rattle.muni_msg.specs.declared.command.Key.{Key}
use Rattle.muni_msg.specs.declared.command.Reply.TheVariants.{Added, Amended, Listed, Confirmed, Refused}
use Rattle.muni_msg.specs.declared.refusal.Refusal.{Refusal}
use Rattle.muni_msg.specs.declared.refusal.Refusal.TheVariants as refusal
use Rattle.muni_msg.specs.declared.version.Act.{Act}
use Rattle.muni_msg.specs.declared.version.Act.TheVariants.{Entered, Corrected, Canceled}
use Rattle.muni_msg.specs.declared.version.Kept.TheVariants as kept
use Rattle.muni_msg.specs.declared.version.Version.{Version}
use Rattle.muni_msg.specs.declared.shown.Shown.{Shown}
use Rattle.muni_keep.specs.History.{count, version_in}
use Rattle.muni_keep.specs.Tables.{Issues, last_terms, numbered_terms, counted_terms, line}
use Rattle.muni_keep.specs.Trades.{Trades, trades_past}
use Rattle.muni_book_step.specs.declared.plan.Plan.{Plan}
use Rattle.muni_book_step.specs.declared.plan.Plan.TheVariants as plan

-- the issue by whose terms a version was figured, if they are kept
abbrev pub issue_of : Issues → Version → Option IssueRow
issue_of issues version = numbered_terms issues version.terms.asked.cusip version.issue_number

-- the version of a trade with this number, if it is kept
abbrev pub version_of : Trades Version → Key → ℕ → Option Version
version_of own key number =
    option_and_then (λ history. version_in history number) (get own key.reference)

-- the last version of a trade, with its number, if any is kept
abbrev pub last_of : Trades Version → Key → Option (ℕ × Version)
last_of own key = option_map (λ history. (count history, history.last)) (get own key.reference)

-- ---- what is answered at once
abbrev pub refused : Refusal → Plan
refused why = plan.Answer (Refused why)

-- other contents are kept under that number
abbrev pub conflict : ℕ → Version → Plan
conflict number version = refused (refusal.Conflict (kept.Version number version))

-- a number that is not the next one; the next one is named as far as 32 bits count
abbrev pub wrong_number : (count : ℕ) → Refusal
wrong_number count = refusal.WrongNumber (min (count + 1) (2 ^ 32 - 1))

abbrev pub number_refusal : ℕ → ℕ → Option Refusal
number_refusal count number = if number == count + 1 then None else Some (wrong_number count)

-- for an issue, which has to be kept
abbrev pub for_issue : (IssueRow → Plan) → Option IssueRow → Plan
for_issue planned None = refused refusal.UnknownIssue
for_issue planned (Some issue) = planned issue

-- for a trade with this last version, which has to be kept
abbrev pub for_trade : (ℕ × Version → Plan) → Option (ℕ × Version) → Plan
for_trade planned None = refused refusal.UnknownTrade
for_trade planned (Some last) = planned last

-- for the last terms of an issue, which have to be kept, with their number
abbrev pub for_last : (ℕ × IssueRow → Plan) → Option (ℕ × IssueRow) → Plan
for_last planned None = refused refusal.UnknownIssue
for_last planned (Some last) = planned last

-- for the terms by which a trade is figured, with their number, or why there are none
abbrev pub for_terms : (ℕ × IssueRow → Plan) → Result (ℕ × IssueRow) Refusal → Plan
for_terms planned (Ok found) = planned found
for_terms planned (Err why) = refused why

-- unless it is refused
abbrev pub unless : Option Refusal → Plan → Plan
unless None planned = planned
unless (Some why) planned = refused why

-- The terms by which a trade is figured, with their number: the last ones of its issue, or those with a number that
-- is chosen. They have to be kept.
abbrev pub chosen_terms : (count number : ℕ) → Option IssueRow → Result (ℕ × IssueRow) Refusal
chosen_terms count number None = Err (wrong_number count)
chosen_terms count number (Some issue) = Ok (number, issue)

abbrev pub terms_by : Issues → (cusip : List ℕ) → (chosen : Option ℕ) → (last : Option (ℕ × IssueRow)) → Result (ℕ × IssueRow) Refusal
terms_by issues cusip chosen None = Err refusal.UnknownIssue
terms_by issues cusip None (Some last) = Ok last
terms_by issues cusip (Some number) (Some last) = chosen_terms last.0 number (numbered_terms issues cusip number)

abbrev pub terms_for : Issues → (cusip : List ℕ) → (chosen : Option ℕ) → Result (ℕ × IssueRow) Refusal
terms_for issues cusip chosen = terms_by issues cusip chosen (counted_terms issues cusip)

-- a number of terms is the chosen one, if one is chosen
abbrev pub is_chosen : (chosen : Option ℕ) → ℕ → Bool
is_chosen None number = true
is_chosen (Some other) number = other == number

-- a kept version is confirmed with its issue
abbrev pub confirmed : Issues → Key → ℕ → Version → Plan
confirmed issues key number version =
    for_issue (λ issue. plan.Answer (Confirmed issue key number version))
    (issue_of issues version)

-- terms for which this version is kept: equal ones are confirmed as they were
abbrev pub sent_again : Issues → Key → ℕ → Terms → (chosen : Option ℕ) → Version → Plan
sent_again issues key number terms chosen version =
    if terms_eq version.terms terms && is_chosen chosen version.issue_number
    then confirmed issues key number version else conflict number version

-- ---- The first terms of an issue are kept once: sent again they are answered as they were, and others conflict.
abbrev pub kept_issue_plan : IssueRow → IssueRow → Plan
kept_issue_plan issue other =
    if row_eq other issue then plan.Answer (Added issue.cusip)
    else refused (refusal.Conflict (kept.Issue other))

abbrev pub checked_issue_plan : Issues → IssueRow → Plan
checked_issue_plan issues issue =
    option_map_or (kept_issue_plan issue) (numbered_terms issues issue.cusip 1) (plan.KeepIssue issue)

abbrev pub issue_plan : Issues → Result IssueRow TermsFault → Plan
issue_plan issues (Ok issue) = checked_issue_plan issues issue
issue_plan issues (Err fault) = refused (refusal.BadTerms fault)

-- ---- Later terms are kept under the next number, of an issue that has fewer than 99. Sent again they are answered as
-- they were, and others conflict.
abbrev pub kept_amendment_plan : ℕ → IssueRow → IssueRow → Plan
kept_amendment_plan number issue other =
    if row_eq other issue then plan.Answer (Amended issue.cusip number)
    else refused (refusal.Conflict (kept.Issue other))

-- why an issue with so many terms takes none with this number, if it takes none
abbrev pub amendment_refusal : (count number : ℕ) → Option Refusal
amendment_refusal count number =
    if nat_le 99 count then Some refusal.VersionsFull else number_refusal count number

abbrev pub next_amendment_plan : ℕ → IssueRow → (last : ℕ × IssueRow) → Plan
next_amendment_plan number issue last =
    unless (amendment_refusal last.0 number) (plan.KeepAmendment number issue)

abbrev pub after_terms_plan : ℕ → IssueRow → (last : ℕ × IssueRow) → (kept : Option IssueRow) → Plan
after_terms_plan number issue last kept =
    option_map_or (kept_amendment_plan number issue) kept (next_amendment_plan number issue last)

abbrev pub checked_amendment_plan : Issues → ℕ → IssueRow → Plan
checked_amendment_plan issues number issue =
    for_last (λ last. after_terms_plan number issue last (numbered_terms issues issue.cusip number))
    (counted_terms issues issue.cusip)

abbrev pub amendment_plan : Issues → ℕ → Result IssueRow TermsFault → Plan
amendment_plan issues number (Ok issue) = checked_amendment_plan issues number issue
amendment_plan issues number (Err fault) = refused (refusal.BadTerms fault)

-- ---- A trade is entered once, as version 1, if its desk has room: fewer trades than the limit.
abbrev pub is_full : ℕ → Trades Version → Bool
is_full limit own = nat_le limit (len own)

abbrev pub first_entry_plan : ℕ → Issues → Trades Version → Key → Terms → (chosen : Option ℕ) → Plan
first_entry_plan limit issues own key terms chosen =
    for_terms (λ found. if is_full limit own then refused refusal.DeskFull
    else plan.KeepPriced found.1 found.0 key 1 Entered terms)
    (terms_for issues terms.asked.cusip chosen)

abbrev pub entry_plan : ℕ → Issues → Trades Version → Key → Terms → (chosen : Option ℕ) → Plan
entry_plan limit issues own key terms chosen =
    option_map_or (sent_again issues key 1 terms chosen) (version_of own key 1)
    (first_entry_plan limit issues own key terms chosen)

-- ---- A trade is live until it is canceled, and its next version has the next number.
abbrev pub is_corrected : Act → Bool
is_corrected Entered = false
is_corrected Corrected = true
is_corrected Canceled = false

abbrev pub is_canceled : Act → Bool
is_canceled Entered = false
is_canceled Corrected = false
is_canceled Canceled = true

-- why a trade with this last version takes no correction with this number, if it takes none
abbrev pub correction_refusal : ℕ × Version → ℕ → Option Refusal
correction_refusal last number =
    if is_canceled last.1.act then Some refusal.Canceled
    else (if nat_le 99 last.0 then Some refusal.VersionsFull else number_refusal last.0 number)

-- why it takes no cancel
abbrev pub cancel_refusal : ℕ × Version → ℕ → Option Refusal
cancel_refusal last number =
    if is_canceled last.1.act then Some refusal.Canceled else number_refusal last.0 number

-- ---- A live trade is corrected by new terms. A correction that is sent again is confirmed.
abbrev pub next_correction_plan : Issues → Key → ℕ → Terms → (chosen : Option ℕ) → ℕ × Version → Plan
next_correction_plan issues key number terms chosen last =
    unless (correction_refusal last number)
    (for_terms (λ found. plan.KeepPriced found.1 found.0 key number Corrected terms)
    (terms_for issues terms.asked.cusip chosen))

abbrev pub kept_correction_plan : Issues → Key → ℕ → Terms → (chosen : Option ℕ) → Version → Plan
kept_correction_plan issues key number terms chosen version =
    if is_corrected version.act then sent_again issues key number terms chosen version
    else conflict number version

abbrev pub correction_plan : Issues → Trades Version → Key → ℕ → Terms → (chosen : Option ℕ) → Plan
correction_plan issues own key number terms chosen =
    for_trade (λ last. option_map_or (kept_correction_plan issues key number terms chosen)
    (version_of own key number) (next_correction_plan issues key number terms chosen last))
    (last_of own key)

-- ---- A live trade is canceled with the terms and figures that it has. A cancel that is sent again is
-- confirmed.
abbrev pub cancel_of : Version → Version
cancel_of version = record version { act = Canceled }

abbrev pub next_cancel_plan : Issues → Key → ℕ → ℕ × Version → Plan
next_cancel_plan issues key number last =
    unless (cancel_refusal last number)
    (for_issue (λ issue. plan.KeepVersion issue key number (cancel_of last.1))
    (issue_of issues last.1))

abbrev pub kept_cancel_plan : Issues → Key → ℕ → Version → Plan
kept_cancel_plan issues key number version =
    if is_canceled version.act then confirmed issues key number version
    else conflict number version

abbrev pub cancel_plan : Issues → Trades Version → Key → ℕ → Plan
cancel_plan issues own key number =
    for_trade (λ last. option_map_or (kept_cancel_plan issues key number)
    (version_of own key number) (next_cancel_plan issues key number last))
    (last_of own key)

-- ---- Nothing is kept for the others.
abbrev pub confirmation_plan : Issues → Trades Version → Key → Plan
confirmation_plan issues own key =
    for_trade (λ last. confirmed issues key last.0 last.1) (last_of own key)

abbrev pub quote_plan : Issues → Asked → Shown → Plan
quote_plan issues asked shown = for_issue (λ issue. plan.Quote issue asked shown) (last_terms issues asked.cusip)

abbrev pub list_plan : Trades Version → Option (List ℕ) → Plan
list_plan own after =
    plan.Answer (Listed (record { items = map line (take 50 (trades_past after own)) }))

-- what is to be done for a command, if a desk may have so many trades
abbrev pub plan_of : (limit : ℕ) → Issues → Trades Version → Command → Plan
plan_of limit issues own (AddIssue row) = issue_plan issues (checked row)
plan_of limit issues own (Amend number row) = amendment_plan issues number (checked row)
plan_of limit issues own (Enter key terms chosen) = entry_plan limit issues own key terms chosen
plan_of limit issues own (Correct key number terms chosen) = correction_plan issues own key number terms chosen
plan_of limit issues own (Cancel key number) = cancel_plan issues own key number
plan_of limit issues own (Confirm key) = confirmation_plan issues own key
plan_of limit issues own (Quote asked shown) = quote_plan issues asked shown
plan_of limit issues own (ListTrades desk after) = list_plan own after
