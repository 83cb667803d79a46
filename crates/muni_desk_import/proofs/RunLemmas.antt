-- An import is a run of its commands, and rows have one report.
use Rattle.std.proofs.Common.{◌≡◌, refl, sym, ap, subst, ◌∙◌, List, [], ◌∷◌, Some, Ok, Err}
use Rattle.muni_keep.specs.Tables.{Tables}
use Rattle.muni_book_step.specs.Runs.{Runs}
use Rattle.muni_book_step.specs.Step.{Rules, Outcome, after, desk_of, own_of}
use Rattle.muni_import.specs.Report.{Said}
use Rattle.muni_import.specs.Row.{Row}
use Rattle.muni_book.specs.Rules.{book_rules}
use Rattle.muni_book.specs.RunLaws.{RepliesAreUnique}
use Rattle.muni_book.specs.Unique.{StepsAreUnique}
use Rattle.muni_desk_import.specs.Import.{Came, Imports, report}
use Rattle.muni_desk_import.specs.Laws.{commands_of, replies_of, ImportsAreRuns, ReportsAreUnique}

-- ---- an import is a run
step-runs : (P : Rules) (old new : Tables) (row : Row) (rows : List Row) (said : Said) (more : List Said) (next : Tables) → Came P old row said (Some next) → Runs P next (commands_of rows) (replies_of more) new → Runs P old (commands_of (row ∷ rows)) (replies_of (said ∷ more)) new
step-runs P old new (Ok command) rows (Ok reply) more next came run =
    let same : next ≡ after came.0 old = let told = came.2 in cc in
    (came.0, came.1, subst (λ t. Runs P t (commands_of rows) (replies_of more) new) same run)
step-runs P old new (Ok command) rows (Err fault) more next came run = absurd came
step-runs P old new (Err fault) rows (Ok reply) more next came run = absurd came
step-runs P old new (Err fault) rows (Err told) more next came run =
    let same : next ≡ old = let told = came.1 in cc in
    subst (λ t. Runs P t (commands_of rows) (replies_of more) new) same run

pub run-of : (P : Rules) (old new : Tables) (rows : List Row) (said : List Said) → Imports P old rows said new → Runs P old (commands_of rows) (replies_of said) new
run-of P old new [] [] is = is
run-of P old new [] (said ∷ more) is = absurd is
run-of P old new (row ∷ rows) [] is = absurd is
run-of P old new (row ∷ rows) (said ∷ more) is = step-runs P old new row rows said more is.0 is.1 (run-of P is.0 new rows more is.2)

pub imports-run : ImportsAreRuns
imports-run limit ends old new rows said is = run-of (book_rules limit ends) old new rows said is

-- ---- rows have one report
-- what comes of a row is one thing, and leads to the same tables
abbrev CameOnce : Rules → Type 0
CameOnce P = (old next other : Tables) (row : Row) (said also : Said) → Came P old row said (Some next) → Came P old row also (Some other) → (said ≡ also) × (next ≡ other)

one-came : (P : Rules) → StepsAreUnique P → CameOnce P
one-came P once old next other (Ok command) (Ok reply) (Ok answer) came comes =
    let same = once old.issues (own_of (desk_of command) old) command (record { reply = reply; entry = came.0 }) (record { reply = answer; entry = comes.0 }) came.1 comes.1 in
    let entries : came.0 ≡ comes.0 = ap (λ (x : Outcome). x.entry) same in
    let replies : reply ≡ answer = ap (λ (x : Outcome). x.reply) same in
    let to = came.2 in
    let leads = comes.2 in
    (ap Ok replies, cc)
one-came P once old next other (Ok command) (Ok reply) (Err fault) came comes = absurd comes
one-came P once old next other (Ok command) (Err fault) also came comes = absurd came
one-came P once old next other (Err fault) (Ok reply) also came comes = absurd came
one-came P once old next other (Err fault) (Err told) (Ok reply) came comes = absurd comes
one-came P once old next other (Err fault) (Err told) (Err also) came comes =
    let to = came.1 in
    let leads = comes.1 in
    (ap Err (came.0 ∙ sym comes.0), cc)

one-report : (P : Rules) → CameOnce P → (old new other : Tables) (rows : List Row) (said others : List Said) → Imports P old rows said new → Imports P old rows others other → (said ≡ others) × (new ≡ other)
one-report P once old new other [] [] [] is also = (refl, is ∙ sym also)
one-report P once old new other [] [] (also ∷ others) is comes = absurd comes
one-report P once old new other [] (said ∷ more) others is comes = absurd is
one-report P once old new other (row ∷ rows) [] others is comes = absurd is
one-report P once old new other (row ∷ rows) (said ∷ more) [] is comes = absurd comes
one-report P once old new other (row ∷ rows) (said ∷ more) (also ∷ others) is comes =
    let first = once old is.0 comes.0 row said also is.1 comes.1 in
    let rest = one-report P once is.0 new other rows more others is.2 (subst (λ t. Imports P t rows others other) (sym first.1) comes.2) in
    ((λ i. first.0 i ∷ rest.0 i), rest.1)

pub reports-unique : RepliesAreUnique → ReportsAreUnique
reports-unique unique limit ends old new other rows said others is also =
    let once = one-report (book_rules limit ends) (one-came (book_rules limit ends) (unique.steps limit ends)) old new other rows said others is also in
    record { same = once.0; lines = ap (report 1) once.0; tables = once.1 }
