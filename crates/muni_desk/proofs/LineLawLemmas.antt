-- What words are read as, against the rule of the command line.
use Rattle.std.proofs.Common.{◌≡◌, ℕ, Bool, true, false, List, [], ◌∷◌, Option, Some, None, refl, sym, ap, ◌∙◌}
use Rattle.std.specs.Prelude.{codes, if◌then◌else◌}
use Rattle.std.specs.Str.{bytes_eq}
use Rattle.std.proofs.lemmas.Option.{none-some}
use Rattle.arrayvec.specs.ArrayVec.{ArrayVec}
use Rattle.muni_desk_export.specs.declared.wanted.Wanted.{Wanted}
use Rattle.muni_desk_export.specs.declared.wanted.Wanted.TheVariants as want
use Rattle.muni_desk.specs.Command.{command_of, of_kept_of, over_store_of}
use Rattle.muni_desk.specs.DrillOptions.{drill_of}
use Rattle.muni_desk.specs.Help.{help_of}
use Rattle.muni_desk.specs.QuoteOne.{quote_one_of}
use Rattle.muni_desk.specs.QuoteOptions.{quote_of}
use Rattle.muni_desk.specs.StoreOptions.{import_of, load_of, confirm_of, serve_of, positions_of, mark_of, export_of, list_of, check_store_of, figures_of, check_of}
use Rattle.muni_desk.specs.WordLaws.{AsksFor, IsCommandLine, IsSaid}
use Rattle.muni_desk.specs.declared.command.CommandLine.{CommandLine}
use Rattle.muni_desk.specs.declared.command.DeskCommand.{DeskCommand}
use Rattle.muni_desk.specs.declared.command.DeskCommand.TheVariants.{QuoteOne, Quote, Import, Load, Confirm, Serve, Positions, Mark, Figures, Check, CheckAlone, Export, Drill, Help}
use Rattle.muni_desk.proofs.CommandLawLemmas.{same-text, read-quote, quote-read, read-drill, drill-read, read-quote_one, quote_one-read}
use Rattle.muni_desk.proofs.KeptLawLemmas.{read-export, export-read, read-list, list-read, read-check_store, check_store-read}
use Rattle.muni_desk.proofs.StoreLawLemmas.{read-import, import-read, read-load, load-read, read-confirm, confirm-read, confirm_all-read, read-serve, serve-read, read-positions, positions-read, read-mark, mark-read, read-figures, figures-read, read-check, check-read, check_alone-read, read-help, help-read}

read-kept-by : (name : List ℕ) (words : List (List ℕ)) (line : CommandLine) (confirmed held exported listed checked : Bool) → bytes_eq name (codes "confirm") ≡ confirmed → bytes_eq name (codes "positions") ≡ held → bytes_eq name (codes "export") ≡ exported → bytes_eq name (codes "list") ≡ listed → bytes_eq name (codes "check-store") ≡ checked → (if confirmed then confirm_of words else (if held then positions_of words else (if exported then export_of words else (if listed then list_of words else (if checked then check_store_of words else None))))) ≡ Some line → IsCommandLine (name ∷ words) line
read-kept-by name words line true held exported listed checked is_confirm is_positions is_export is_list is_check is = read-confirm words name line (same-text name (codes "confirm") is_confirm) is
read-kept-by name words line false true exported listed checked is_confirm is_positions is_export is_list is_check is = read-positions words name line (same-text name (codes "positions") is_positions) is
read-kept-by name words line false false true listed checked is_confirm is_positions is_export is_list is_check is = read-export words name line (same-text name (codes "export") is_export) is
read-kept-by name words line false false false true checked is_confirm is_positions is_export is_list is_check is = read-list words name line (same-text name (codes "list") is_list) is
read-kept-by name words line false false false false true is_confirm is_positions is_export is_list is_check is = read-check_store words name line (same-text name (codes "check-store") is_check) is
read-kept-by name words line false false false false false is_confirm is_positions is_export is_list is_check is = absurd (none-some line is)

read-of-kept : (name : List ℕ) (words : List (List ℕ)) (line : CommandLine) → of_kept_of name words ≡ Some line → IsCommandLine (name ∷ words) line
unfolding of_kept_of
read-of-kept name words line is = read-kept-by name words line (bytes_eq name (codes "confirm")) (bytes_eq name (codes "positions")) (bytes_eq name (codes "export")) (bytes_eq name (codes "list")) (bytes_eq name (codes "check-store")) refl refl refl refl refl is

read-store-by : (name : List ℕ) (words : List (List ℕ)) (line : CommandLine) (imported loaded served marked figured checked : Bool) → bytes_eq name (codes "import") ≡ imported → bytes_eq name (codes "load") ≡ loaded → bytes_eq name (codes "serve") ≡ served → bytes_eq name (codes "mark") ≡ marked → bytes_eq name (codes "figures") ≡ figured → bytes_eq name (codes "check") ≡ checked → (if imported then import_of words else (if loaded then load_of words else (if served then serve_of words else (if marked then mark_of words else (if figured then figures_of words else (if checked then check_of words else of_kept_of name words)))))) ≡ Some line → IsCommandLine (name ∷ words) line
read-store-by name words line true loaded served marked figured checked is_import is_load is_serve is_mark is_figures is_check is = read-import words name line (same-text name (codes "import") is_import) is
read-store-by name words line false true served marked figured checked is_import is_load is_serve is_mark is_figures is_check is = read-load words name line (same-text name (codes "load") is_load) is
read-store-by name words line false false true marked figured checked is_import is_load is_serve is_mark is_figures is_check is = read-serve words name line (same-text name (codes "serve") is_serve) is
read-store-by name words line false false false true figured checked is_import is_load is_serve is_mark is_figures is_check is = read-mark words name line (same-text name (codes "mark") is_mark) is
read-store-by name words line false false false false true checked is_import is_load is_serve is_mark is_figures is_check is = read-figures words name line (same-text name (codes "figures") is_figures) is
read-store-by name words line false false false false false true is_import is_load is_serve is_mark is_figures is_check is = read-check words name line (same-text name (codes "check") is_check) is
read-store-by name words line false false false false false false is_import is_load is_serve is_mark is_figures is_check is = read-of-kept name words line is

read-over-store : (name : List ℕ) (words : List (List ℕ)) (line : CommandLine) → over_store_of name words ≡ Some line → IsCommandLine (name ∷ words) line
read-over-store name words line is = read-store-by name words line (bytes_eq name (codes "import")) (bytes_eq name (codes "load")) (bytes_eq name (codes "serve")) (bytes_eq name (codes "mark")) (bytes_eq name (codes "figures")) (bytes_eq name (codes "check")) refl refl refl refl refl refl is

read-by : (name : List ℕ) (words : List (List ℕ)) (line : CommandLine) (one quoted drilled helped : Bool) → bytes_eq name (codes "quote-one") ≡ one → bytes_eq name (codes "quote") ≡ quoted → bytes_eq name (codes "drill") ≡ drilled → bytes_eq name (codes "help") ≡ helped → (if one then quote_one_of words else (if quoted then quote_of words else (if drilled then drill_of words else (if helped then help_of words else over_store_of name words)))) ≡ Some line → IsCommandLine (name ∷ words) line
read-by name words line true quoted drilled helped is_one is_quote is_drill is_help is = read-quote_one words name line (same-text name (codes "quote-one") is_one) is
read-by name words line false true drilled helped is_one is_quote is_drill is_help is = read-quote words name line (same-text name (codes "quote") is_quote) is
read-by name words line false false true helped is_one is_quote is_drill is_help is = read-drill words name line (same-text name (codes "drill") is_drill) is
read-by name words line false false false true is_one is_quote is_drill is_help is = read-help words name line (same-text name (codes "help") is_help) is
read-by name words line false false false false is_one is_quote is_drill is_help is = read-over-store name words line is

pub read-line : (words : List (List ℕ)) (line : CommandLine) → command_of words ≡ Some line → IsCommandLine words line
read-line [] line is = absurd (none-some line is)
read-line (name ∷ words) line is = read-by name words line (bytes_eq name (codes "quote-one")) (bytes_eq name (codes "quote")) (bytes_eq name (codes "drill")) (bytes_eq name (codes "help")) refl refl refl refl is

asked-read : (name : List ℕ) (words : List (List ℕ)) (store : ArrayVec ℕ) (wanted : Wanted) → AsksFor name words store wanted → command_of (name ∷ words) ≡ Some (record { command = Export store wanted; workers = 1 })
unfolding of_kept_of
asked-read name words store (want.List desk) said = ap (λ name. command_of (name ∷ words)) said.0 ∙ list-read words store desk said.1
asked-read name words store (want.Confirmations desk) said = ap (λ name. command_of (name ∷ words)) said.0 ∙ confirm_all-read words store desk said.1
asked-read name words store want.Counts said = ap (λ name. command_of (name ∷ words)) said.0 ∙ check_store-read words store said.1
asked-read name words store want.Everything said = ap (λ name. command_of (name ∷ words)) said.0 ∙ export-read words store want.Everything said.1
asked-read name words store want.Issues said = ap (λ name. command_of (name ∷ words)) said.0 ∙ export-read words store want.Issues said.1
asked-read name words store (want.Desk desk) said = ap (λ name. command_of (name ∷ words)) said.0 ∙ export-read words store (want.Desk desk) said.1

said-read : (name : List ℕ) (words : List (List ℕ)) (command : DeskCommand) (workers : ℕ) → IsSaid (name ∷ words) command workers → command_of (name ∷ words) ≡ Some (record { command = command; workers = workers })
unfolding of_kept_of
said-read name words (QuoteOne request) workers said =
    ap (λ name. command_of (name ∷ words)) said.0 ∙ quote_one-read words request said.1 ∙ (λ i. Some (record { command = QuoteOne request; workers = sym said.2 i }))
said-read name words (Quote request shown) workers said = ap (λ name. command_of (name ∷ words)) said.0 ∙ quote-read words request shown workers said.1
said-read name words (Import store listed limit) workers said = ap (λ name. command_of (name ∷ words)) said.0 ∙ import-read words store listed limit workers said.1
said-read name words (Load store limit) workers said =
    ap (λ name. command_of (name ∷ words)) said.0 ∙ load-read words store limit said.1 ∙ (λ i. Some (record { command = Load store limit; workers = sym said.2 i }))
said-read name words (Confirm store key) workers said =
    ap (λ name. command_of (name ∷ words)) said.0 ∙ confirm-read words store key said.1 ∙ (λ i. Some (record { command = Confirm store key; workers = sym said.2 i }))
said-read name words (Serve store port connections limit) workers said = ap (λ name. command_of (name ∷ words)) said.0 ∙ serve-read words store port connections limit workers said.1
said-read name words (Positions store desk) workers said =
    ap (λ name. command_of (name ∷ words)) said.0 ∙ positions-read words store desk said.1 ∙ (λ i. Some (record { command = Positions store desk; workers = sym said.2 i }))
said-read name words (Mark store) workers said =
    ap (λ name. command_of (name ∷ words)) said.0 ∙ mark-read words store said.1 ∙ (λ i. Some (record { command = Mark store; workers = sym said.2 i }))
said-read name words (Figures store options) workers said = ap (λ name. command_of (name ∷ words)) said.0 ∙ figures-read words store options workers said.1
said-read name words (Check store desk) workers said =
    ap (λ name. command_of (name ∷ words)) said.0 ∙ check-read words store desk said.1 ∙ (λ i. Some (record { command = Check store desk; workers = sym said.2 i }))
said-read name words CheckAlone workers said =
    ap (λ name. command_of (name ∷ words)) said.0 ∙ check_alone-read words said.1 ∙ (λ i. Some (record { command = CheckAlone; workers = sym said.2 i }))
said-read name words (Export store wanted) workers said =
    asked-read name words store wanted said.0 ∙ (λ i. Some (record { command = Export store wanted; workers = sym said.1 i }))
said-read name words (Drill request) workers said = ap (λ name. command_of (name ∷ words)) said.0 ∙ drill-read words request workers said.1
said-read name words Help workers said =
    ap (λ name. command_of (name ∷ words)) said.0 ∙ help-read words said.1 ∙ (λ i. Some (record { command = Help; workers = sym said.2 i }))

pub line-read : (words : List (List ℕ)) (line : CommandLine) → IsCommandLine words line → command_of words ≡ Some line
line-read [] line said = absurd said
line-read (name ∷ words) line said = said-read name words line.command line.workers said

none-by : (words : List (List ℕ)) (found : Option CommandLine) → command_of words ≡ found → ((line : CommandLine) → ¬ (IsCommandLine words line)) → command_of words ≡ None
none-by words None is never = is
none-by words (Some line) is never = absurd (never line (read-line words line is))

pub refused-none : (words : List (List ℕ)) → ((line : CommandLine) → ¬ (IsCommandLine words line)) → command_of words ≡ None
refused-none words never = none-by words (command_of words) refl never

pub none-refused : (words : List (List ℕ)) (line : CommandLine) → command_of words ≡ None → ¬ (IsCommandLine words line)
none-refused words line none = λ said. none-some line (sym none ∙ line-read words line said)
