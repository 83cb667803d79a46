-- What the words after the names of the commands that write what a store keeps are read as, against the rule of the command line.
use Rattle.std.proofs.Common.{◌≡◌, ℕ, Bool, true, false, List, [], ◌∷◌, Option, Some, None, refl, ap, ◌∙◌, subst, arith}
use Rattle.std.specs.Prelude.{codes, option_map}
use Rattle.std.specs.Result.{result_ok}
use Rattle.std.proofs.lemmas.Option.{none-some, same_Some}
use Rattle.arrayvec.specs.ArrayVec.{ArrayVec}
use Rattle.muni_msg.specs.NameReading.{name_reading}
use Rattle.muni_msg.specs.Names.{is_desk_letter}
use Rattle.muni_desk_export.specs.declared.wanted.Wanted.{Wanted}
use Rattle.muni_desk_export.specs.declared.wanted.Wanted.TheVariants as want
use Rattle.muni_desk.specs.Words.{are_options, are_options_beside, has_word, value_of}
use Rattle.muni_desk.specs.StoreOptions.{desk_options, store_options, issues_word, store_of, desk_of, wanted_in, wanted_of, export_line, export_of, list_line, list_of, check_store_line, check_store_of}
use Rattle.muni_desk.specs.OptionLaws.{Has, IsSingle}
use Rattle.muni_desk.specs.StoreWordLaws.{IsStoreAlone, IsExport, IsList, SaysWanted}
use Rattle.muni_desk.specs.WordLaws.{AsksFor, IsCommandLine}
use Rattle.muni_desk.specs.declared.command.CommandLine.{CommandLine}
use Rattle.muni_desk.specs.declared.command.DeskCommand.TheVariants.{Export}
use Rattle.muni_desk.proofs.CommandLawLemmas.{read-ok, ok-read}
use Rattle.muni_desk.proofs.OptionalLemmas.{bind-some, some-bind, map-some, ok-some, if-some, when-true}
use Rattle.muni_desk.proofs.StoreLawLemmas.{read-store, store-read}
use Rattle.muni_desk.proofs.WordLawLemmas.{options-read, are-options, options-read-beside, are-options-beside, has-read, read-has, found-says, says-found, none-lacks, lacks-none}

-- ---- `export`
abbrev export_from : ArrayVec ℕ → Wanted → CommandLine
export_from store wanted = record { command = Export store wanted; workers = 1 }

read-wanted : (words : List (List ℕ)) (wanted : Wanted) (issues : Bool) (desk : Option (List ℕ)) → has_word issues_word words ≡ issues → value_of (codes "--desk=") words ≡ desk → wanted_in issues desk ≡ Some wanted → SaysWanted words wanted
read-wanted words wanted true None has is read = subst (SaysWanted words) (same_Some want.Issues wanted read) (has-read issues_word words true has, none-lacks (codes "--desk=") words is)
read-wanted words wanted true (Some text) has is read = absurd (none-some wanted read)
read-wanted words wanted false None has is read = subst (SaysWanted words) (same_Some want.Everything wanted read) (has-read issues_word words false has, none-lacks (codes "--desk=") words is)
read-wanted words wanted false (Some text) has is read =
    let desk = map-some want.Desk (result_ok (name_reading is_desk_letter 16 text)) wanted read in
    subst (SaysWanted words) desk.2 (
      has-read issues_word words false has,
      record { text = text; stands = found-says (codes "--desk=") text words is; is_read = ok-some (name_reading is_desk_letter 16 text) desk.0 desk.1 },
    )

wanted-found : (words : List (List ℕ)) (issues : Bool) (desk : Option (List ℕ)) → Has issues_word words issues → value_of (codes "--desk=") words ≡ desk → wanted_of words ≡ wanted_in issues desk
wanted-found words issues desk has is = ap (λ b. wanted_in b (value_of (codes "--desk=") words)) (read-has issues_word words issues has) ∙ ap (wanted_in issues) is

wanted-read : (words : List (List ℕ)) (wanted : Wanted) → IsSingle words (codes "--desk=") → SaysWanted words wanted → wanted_of words ≡ Some wanted
wanted-read words want.Everything single said = wanted-found words false None said.0 (lacks-none (codes "--desk=") words said.1)
wanted-read words want.Issues single said = wanted-found words true None said.0 (lacks-none (codes "--desk=") words said.1)
wanted-read words (want.Desk desk) single said =
    let read = said.1 in
    wanted-found words false (Some read.text) said.0 (says-found (codes "--desk=") read.text words single read.stands)
    ∙ ap (λ r. option_map want.Desk (result_ok r)) read.is_read
wanted-read words (want.List desk) single said = absurd said
wanted-read words (want.Confirmations desk) single said = absurd said
wanted-read words want.Counts single said = absurd said

asks-export : (name : List ℕ) (words : List (List ℕ)) (store : ArrayVec ℕ) (wanted : Wanted) → name ≡ codes "export" → IsExport words store wanted → AsksFor name words store wanted
asks-export name words store want.Everything named said = (named, said)
asks-export name words store want.Issues named said = (named, said)
asks-export name words store (want.Desk desk) named said = (named, said)
asks-export name words store (want.List desk) named said = absurd said.says
asks-export name words store (want.Confirmations desk) named said = absurd said.says
asks-export name words store want.Counts named said = absurd said.says

pub read-export : (words : List (List ℕ)) (name : List ℕ) (line : CommandLine) → name ≡ codes "export" → export_of words ≡ Some line → IsCommandLine (name ∷ words) line
read-export words name line named is =
    let options_read = if-some (are_options_beside (issues_word ∷ []) desk_options desk_options words) (export_line words) line is in
    let stand = options-read-beside (issues_word ∷ []) desk_options desk_options words options_read.0 in
    let store = bind-some _ (store_of words) line options_read.1 in
    let wanted = bind-some _ (wanted_of words) line store.2 in
    let said : IsExport words store.0 wanted.0 =
    record {
      known = stand.0;
      once = stand.1;
      single = stand.2;
      named = read-store words store.0 store.1;
      says = read-wanted words wanted.0 (has_word issues_word words) (value_of (codes "--desk=") words) refl refl wanted.1;
    } in
    subst (IsCommandLine (name ∷ words)) (same_Some (export_from store.0 wanted.0) line wanted.2) (asks-export name words store.0 wanted.0 named said, refl)

pub export-read : (words : List (List ℕ)) (store : ArrayVec ℕ) (wanted : Wanted) → IsExport words store wanted → export_of words ≡ Some (record { command = Export store wanted; workers = 1 })
export-read words store wanted said =
    let line = export_from store wanted in
    when-true (are_options_beside (issues_word ∷ []) desk_options desk_options words) (export_line words) line (are-options-beside (issues_word ∷ []) desk_options desk_options words said.known said.once said.single)
    (some-bind _ (store_of words) store line (store-read words store (said.single 0 [] (omega arith)) said.named)
    (some-bind _ (wanted_of words) wanted line (wanted-read words wanted (said.single 1 [] (omega arith)) said.says)
    refl))

-- ---- `list`
abbrev list_from : ArrayVec ℕ → List ℕ → CommandLine
list_from store desk = record { command = Export store (want.List desk); workers = 1 }

pub read-list : (words : List (List ℕ)) (name : List ℕ) (line : CommandLine) → name ≡ codes "list" → list_of words ≡ Some line → IsCommandLine (name ∷ words) line
read-list words name line named is =
    let options_read = if-some (are_options desk_options desk_options words) (list_line words) line is in
    let stand = options-read desk_options desk_options words options_read.0 in
    let store = bind-some _ (store_of words) line options_read.1 in
    let desk = bind-some _ (desk_of words) line store.2 in
    let said : IsList words store.0 desk.0 =
    record {
      known = stand.0;
      single = stand.1;
      named = read-store words store.0 store.1;
      desk_named = read-ok (name_reading is_desk_letter 16) words (codes "--desk=") desk.0 desk.1;
    } in
    subst (IsCommandLine (name ∷ words)) (same_Some (list_from store.0 desk.0) line desk.2) ((named, said), refl)

pub list-read : (words : List (List ℕ)) (store : ArrayVec ℕ) (desk : List ℕ) → IsList words store desk → list_of words ≡ Some (record { command = Export store (want.List desk); workers = 1 })
list-read words store desk said =
    let line = list_from store desk in
    when-true (are_options desk_options desk_options words) (list_line words) line (are-options desk_options desk_options words said.known said.single)
    (some-bind _ (store_of words) store line (store-read words store (said.single 0 [] (omega arith)) said.named)
    (some-bind _ (desk_of words) desk line (ok-read (name_reading is_desk_letter 16) words (codes "--desk=") desk (said.single 1 [] (omega arith)) said.desk_named)
    refl))

-- ---- `check-store`
abbrev check_store_from : ArrayVec ℕ → CommandLine
check_store_from store = record { command = Export store want.Counts; workers = 1 }

pub read-check_store : (words : List (List ℕ)) (name : List ℕ) (line : CommandLine) → name ≡ codes "check-store" → check_store_of words ≡ Some line → IsCommandLine (name ∷ words) line
read-check_store words name line named is =
    let options_read = if-some (are_options store_options store_options words) (check_store_line words) line is in
    let stand = options-read store_options store_options words options_read.0 in
    let store = bind-some _ (store_of words) line options_read.1 in
    let said : IsStoreAlone words store.0 = record { known = stand.0; single = stand.1; named = read-store words store.0 store.1 } in
    subst (IsCommandLine (name ∷ words)) (same_Some (check_store_from store.0) line store.2) ((named, said), refl)

pub check_store-read : (words : List (List ℕ)) (store : ArrayVec ℕ) → IsStoreAlone words store → check_store_of words ≡ Some (record { command = Export store want.Counts; workers = 1 })
check_store-read words store said =
    let line = check_store_from store in
    when-true (are_options store_options store_options words) (check_store_line words) line (are-options store_options store_options words said.known said.single)
    (some-bind _ (store_of words) store line (store-read words store (said.single 0 [] (omega arith)) said.named)
    refl)
