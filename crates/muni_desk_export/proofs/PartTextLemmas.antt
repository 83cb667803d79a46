-- What an export of one desk writes is the text of the commands of its part of the tables.
use Rattle.std.proofs.Common.{◌≡◌, ◌+◌, ℕ, Bool, true, false, cond, List, [], ◌∷◌, ◌++◌, map, Option, Some, None, refl, sym, ap, ◌∙◌, append-nil}
use Rattle.std.specs.List.{AllByRecursion, filter, flat_map}
use Rattle.std.specs.Option.{option_map, unwrap_or}
use Rattle.std.specs.declared.cmp.Ordering.TheVariants.{Equal}
use Rattle.std.specs.Cmp.Lexicographic.{nat_list_cmp_total}
use Rattle.std.specs.FinMap.{FinMap, empty, entries, entries_sorted, get, insert, retain_keys, entries-insert, get-entries, get-retain_keys, len-empty, len-entries}
use Rattle.std.specs.FinMap.Entries.{find-where_key, is_sorted-where_key, put, same_entries, where_key}
use Rattle.std.proofs.lemmas.List.{nil_from_length}
use Rattle.std.proofs.lemmas.Map.Lookups.{exact_bytes}
use Rattle.muni_terms.specs.declared.row.IssueRow.{IssueRow}
use Rattle.muni_msg.specs.declared.command.Key.{Key}
use Rattle.muni_msg.specs.declared.version.Version.{Version}
use Rattle.muni_keep.specs.History.{History, count, versions}
use Rattle.muni_keep.specs.Tables.{Tables, last_issue, line, trade_at}
use Rattle.muni_keep.specs.Trades.{by_bytes, Trades}
use Rattle.muni_keep.proofs.EntriesLemmas.{past-all}
use Rattle.muni_export.specs.Laws.{command_of}
use Rattle.muni_desk_export.specs.Issues.{issue_rows, issue_text, issues_after}
use Rattle.muni_desk_export.specs.Named.{is_named}
use Rattle.muni_desk_export.specs.Trades.{key_of, rows_of, unless_last}
use Rattle.muni_desk_export.specs.Walk.{desk_rows}
use Rattle.muni_desk_export.proofs.RowLemmas.{desk-rows}
use Rattle.muni_desk_export.specs.Export.{desk_commands, issue_commands, trade_commands, version_commands}
use Rattle.muni_desk_export.specs.Part.{one_desk, part_of}
use Rattle.muni_desk_export.specs.AgainWanted.{DesksAreOfCommands}
use Rattle.muni_desk_export.proofs.ExportLemmas.{trades-found}
use Rattle.muni_desk_export.proofs.AgainPartLemmas.{HasOwnIssue, own-issues}
use Rattle.muni_desk_export.proofs.WantedLemmas.{desk-text, terms-text, text-join, text_of}

-- ---- the entries of maps
entries-empty : {X : Type 0} → entries (empty {X = X} {R = by_bytes}) ≡ []
entries-empty {X} = nil_from_length _ (sym (len-entries (empty {X = X} {R = by_bytes})) ∙ len-empty by_bytes X)

-- those of a part of a map are that part of its entries
entries-retained : {X : Type 0} (m : FinMap by_bytes X) (p : List ℕ → Bool) → entries (retain_keys m p) ≡ where_key by_bytes p (entries m)
entries-retained m p =
    let alike = λ (q other : List ℕ) (tied : by_bytes q other ≡ Equal). ap p (sym (exact_bytes q other tied)) in
    same_entries by_bytes nat_list_cmp_total exact_bytes (entries (retain_keys m p)) (where_key by_bytes p (entries m))
    (entries_sorted (retain_keys m p)) (is_sorted-where_key by_bytes p (entries m) (entries_sorted m))
    (λ q. sym (get-entries (retain_keys m p) q) ∙ get-retain_keys m p q (alike q) ∙ ap (λ o. cond (p q) o None) (get-entries m q)
    ∙ sym (find-where_key by_bytes p q (alike q) (entries m)))

-- ---- the text of the issues that are wanted
wanted-text : (p : List ℕ → Bool) (es : List (List ℕ × History IssueRow)) → flat_map (issue_text p) es ≡ text_of (flat_map issue_commands (filter (λ entry. p entry.0) es))
wanted-text p [] = refl
wanted-text p (e ∷ es) =
    let rest = wanted-text p es in
    let others = filter (λ (entry : List ℕ × History IssueRow). p entry.0) es in
    elim (p e.0) as (λ b. cond b (issue_rows (versions e.1)) [] ++ flat_map (issue_text p) es ≡ text_of (flat_map issue_commands (cond b (e ∷ others) others))) [
      | true ↦
          let first = terms-text 1 (versions e.1) in
          (λ i. first i ++ rest i) ∙ sym (text-join (issue_commands e) (flat_map issue_commands others))
      | false ↦ rest
    ]

part-issues : (t : Tables) (desk : List ℕ) → issues_after t (is_named t desk) None ≡ text_of (flat_map issue_commands (entries (part_of desk t).issues))
part-issues t desk =
    ap (flat_map (issue_text (is_named t desk))) (past-all t.issues)
    ∙ wanted-text (is_named t desk) (entries t.issues)
    ∙ ap (λ (es : List (List ℕ × History IssueRow)). text_of (flat_map issue_commands es)) (sym (entries-retained t.issues (is_named t desk)))

-- ---- the commands of the desk, by the issues of its part
part-versions : (t part : Tables) (key : Key) (number : ℕ) (list : List Version) → AllByRecursion (HasOwnIssue t part) list → version_commands t key number list ≡ version_commands part key number list
part-versions t part key number [] same = refl
part-versions t part key number (version ∷ more) same =
    let last : last_issue t version.terms.asked.cusip ≡ last_issue part version.terms.asked.cusip = ap (option_map {U = ℕ × IssueRow} (λ history. (count history, history.last))) (sym same.0) in
    let rest = part-versions t part key (number + 1) more same.1 in
    λ i. command_of key number version (unless_last (last i) version.issue_number) ∷ rest i

part-trades : (t : Tables) (desk : List ℕ) (trades : List (List ℕ × History Version)) → AllByRecursion (λ trade. trade_at t (key_of desk trade.0) ≡ Some trade.1) trades
    → flat_map (trade_commands t desk) trades ≡ flat_map (trade_commands (part_of desk t) desk) trades
part-trades t desk [] found = refl
part-trades t desk (trade ∷ more) found =
    let first = part-versions t (part_of desk t) (key_of desk trade.0) 1 (versions trade.1) (own-issues t desk trade.0 trade.1 found.0) in
    let rest = part-trades t desk more found.1 in
    λ i. first i ++ rest i

-- ---- the text of the desk
one_desk-text : (t : Tables) (desk : List ℕ) (kept : Option (Trades Version)) → get t.desks desk ≡ kept → desk_rows t desk ≡ text_of (flat_map (desk_commands (part_of desk t)) (entries (one_desk desk kept)))
one_desk-text t desk None none =
    desk-rows t desk
    ∙ ap (λ o. rows_of t desk (map line (entries (unwrap_or o empty)))) none
    ∙ ap (λ es. rows_of t desk (map line es)) entries-empty
    ∙ ap (λ es. text_of (flat_map (desk_commands (part_of desk t)) es)) (sym entries-empty)
one_desk-text t desk (Some trades) kept =
    let one : entries (insert empty desk trades) ≡ (desk, trades) ∷ [] = entries-insert nat_list_cmp_total empty desk trades ∙ ap (put by_bytes desk trades) entries-empty in
    desk-text t (desk, trades) kept
    ∙ ap text_of (part-trades t desk (entries trades) (trades-found t (desk, trades) kept))
    ∙ ap text_of (sym (append-nil (desk_commands (part_of desk t) (desk, trades))))
    ∙ ap (λ es. text_of (flat_map (desk_commands (part_of desk t)) es)) (sym one)

pub of-desk-commands : DesksAreOfCommands
of-desk-commands t desk =
    let issues = part-issues t desk in
    let rows = one_desk-text t desk (get t.desks desk) refl in
    (λ i. issues i ++ rows i) ∙ sym (text-join (flat_map issue_commands (entries (part_of desk t).issues)) (flat_map (desk_commands (part_of desk t)) (entries (part_of desk t).desks)))
