-- What the words after the names of the commands over a store and `help` are read as, against the rule of the command line.
use Rattle.std.proofs.Common.{◌≡◌, ℕ, ◌≤◌, inl, inr, Bool, true, false, List, [], ◌∷◌, Option, Some, None, length, refl, sym, ap, ◌∙◌, subst, arith}
use Rattle.std.specs.Prelude.{All, codes, if◌then◌else◌, nat_le, not, ◌&&◌, option_map}
use Rattle.std.specs.Bool.{Decides}
use Rattle.std.specs.Char.{is_ascii_graphic, is_ascii_alphanumeric}
use Rattle.std.specs.List.{list_all}
use Rattle.std.specs.Result.{result_ok}
use Rattle.std.specs.Str.{bytes_eq}
use Rattle.std.proofs.lemmas.Bool.Decides.{Decides-by_and, nat_tests}
use Rattle.std.proofs.lemmas.Option.{none-some, same_Some}
use Rattle.arrayvec.specs.ArrayVec.{ArrayVec}
use Rattle.muni_dec.specs.Digits.{number_reading}
use Rattle.muni_msg.specs.NameReading.{name_reading}
use Rattle.muni_msg.specs.Names.{is_desk_letter}
use Rattle.muni_msg.specs.declared.command.Key.{Key}
use Rattle.muni_desk_export.specs.declared.wanted.Wanted.TheVariants as want
use Rattle.muni_figures.specs.declared.command.FiguresOptions.{FiguresOptions}
use Rattle.muni_desk.specs.Words.{◌>>=◌, are_options, are_options_beside, has_word, value_of}
use Rattle.muni_desk.specs.QuoteOptions.{risk_word, workers_of}
use Rattle.muni_desk.specs.StoreOptions.{import_options, load_options, confirm_options, serve_options, desk_options, figures_options, store_options, all_word, header_word, is_store_name, store_reading, store_of, maybe_desk, maybe_desk_of, limit_in, limit_of, import_line, import_of, load_line, load_of, confirm_line, confirm_one_of, confirm_all_line, confirm_all_of, confirm_of, serve_line, serve_of, positions_line, positions_of, mark_line, mark_of, first_in, first_of, figures_form, check_line, check_of, figures_line, figures_of, figures_words}
use Rattle.muni_desk.specs.Help.{help_of}
use Rattle.muni_desk.specs.OptionLaws.{IsSingle}
use Rattle.muni_desk.specs.StoreWordLaws.{IsImport, IsLoad, IsConfirm, IsConfirmAll, IsServe, IsPositions, IsStoreAlone, IsFigures, IsCheck, SaysFirst, SaysLimit, SaysMaybeDesk, SaysStore}
use Rattle.muni_desk.specs.WordLaws.{IsCommandLine}
use Rattle.muni_desk.specs.declared.command.CommandLine.{CommandLine}
use Rattle.muni_desk.specs.declared.command.DeskCommand.TheVariants.{Import, Load, Confirm, Serve, Positions, Mark, Figures, Check, CheckAlone, Export, Help}
use Rattle.muni_desk.proofs.CommandLawLemmas.{read-ok, ok-read, read-option, option-read, read-workers, workers-read}
use Rattle.muni_desk.proofs.OptionalLemmas.{bind-some, some-bind, map-some, ok-some, if-some, when-true}
use Rattle.muni_desk.proofs.WordLawLemmas.{both, options-read, are-options, options-read-beside, are-options-beside, has-read, read-has, has-unknown, found-says, says-found, none-lacks, lacks-none}

-- ---- the name of a store
byte-decides : (b : ℕ) → Decides (is_ascii_graphic b) ((33 ≤ b) × (b ≤ 126))
byte-decides b = (λ test. (grind (arith, nat_tests), grind (arith, nat_tests)), λ inside. let least = inside.0 in let most = inside.1 in grind (arith, nat_tests))

bytes-decide : (text : List ℕ) → Decides (list_all is_ascii_graphic text) (All (λ b. (33 ≤ b) × (b ≤ 126)) text)
bytes-decide text = Decides-by_and is_ascii_graphic (λ b. (33 ≤ b) × (b ≤ 126)) (list_all is_ascii_graphic) byte-decides refl (λ _ _. refl) text

not-true : (test : Bool) → not test ≡ true → test ≡ false
not-true true is = absurd (cc is)
not-true false is = refl

pub read-store : (words : List (List ℕ)) (store : ArrayVec ℕ) → store_of words ≡ Some store → SaysStore words store
read-store words store is =
    let found = bind-some store_reading (value_of (codes "--store=") words) store is in
    let parts = if-some (is_store_name found.0) (Some (record { items = found.0 })) store found.2 in
    let tests = both (nat_le (length found.0) 200) (list_all is_ascii_graphic found.0 && not (bytes_eq found.0 (codes "journal:"))) parts.0 in
    let more = both (list_all is_ascii_graphic found.0) (not (bytes_eq found.0 (codes "journal:"))) tests.1 in
    let few : nat_le (length found.0) 200 ≡ true = tests.0 in
    subst (SaysStore words) (same_Some (record { items = found.0 }) store parts.1)
    (record { stands = found-says (codes "--store=") found.0 words found.1; few = grind (arith, nat_tests); bytes = (bytes-decide found.0).0 more.0; named = not-true (bytes_eq found.0 (codes "journal:")) more.1 })

pub store-read : (words : List (List ℕ)) (store : ArrayVec ℕ) → IsSingle words (codes "--store=") → SaysStore words store → store_of words ≡ Some store
store-read words store single said =
    let most = said.few in
    let few : nat_le (length store.items) 200 ≡ true = grind (arith, nat_tests) in
    let bytes : list_all is_ascii_graphic store.items ≡ true = (bytes-decide store.items).1 said.bytes in
    let test : is_store_name store.items ≡ true = rw (few, bytes, said.named) refl in
    some-bind store_reading (value_of (codes "--store=") words) store.items store (says-found (codes "--store=") store.items words single said.stands)
    (when-true (is_store_name store.items) (Some (record { items = store.items })) store test refl)

-- ---- how many trades a desk may have
read-limit : (words : List (List ℕ)) (limit : ℕ) (found : Option (List ℕ)) → value_of (codes "--desk-limit=") words ≡ found → limit_in found ≡ Some limit → SaysLimit words limit
read-limit words limit None is read = inr (none-lacks (codes "--desk-limit=") words is, sym (same_Some 100_000 limit read))
read-limit words limit (Some text) is read = inl (record { text = text; stands = found-says (codes "--desk-limit=") text words is; is_read = read })

limit-read : (words : List (List ℕ)) (limit : ℕ) → IsSingle words (codes "--desk-limit=") → SaysLimit words limit → limit_of words ≡ Some limit
limit-read words limit single (inl read) = ap limit_in (says-found (codes "--desk-limit=") read.text words single read.stands) ∙ read.is_read
limit-read words limit single (inr lacks) = ap limit_in (lacks-none (codes "--desk-limit=") words lacks.0) ∙ ap Some (sym lacks.1)

-- ---- a desk that may be named
read-maybe-desk : (words : List (List ℕ)) (option : List ℕ) (desk : Option (List ℕ)) (found : Option (List ℕ)) → value_of option words ≡ found → maybe_desk found ≡ Some desk → SaysMaybeDesk words option desk
read-maybe-desk words option desk None is read = subst (SaysMaybeDesk words option) (same_Some None desk read) (none-lacks option words is)
read-maybe-desk words option desk (Some text) is read =
    let named = map-some Some (result_ok (name_reading is_desk_letter 16 text)) desk read in
    subst (SaysMaybeDesk words option) named.2
    (record { text = text; stands = found-says option text words is; is_read = ok-some (name_reading is_desk_letter 16 text) named.0 named.1 })

maybe-desk-read : (words : List (List ℕ)) (option : List ℕ) (desk : Option (List ℕ)) → IsSingle words option → SaysMaybeDesk words option desk → maybe_desk_of option words ≡ Some desk
maybe-desk-read words option None single lacks = ap maybe_desk (lacks-none option words lacks)
maybe-desk-read words option (Some desk) single read =
    ap maybe_desk (says-found option read.text words single read.stands) ∙ ap (λ r. option_map Some (result_ok r)) read.is_read

-- ---- `import`
abbrev import_from : ArrayVec ℕ → Option (List ℕ) → (limit workers : ℕ) → CommandLine
import_from store listed limit workers = record { command = Import store listed limit; workers = workers }

pub read-import : (words : List (List ℕ)) (name : List ℕ) (line : CommandLine) → name ≡ codes "import" → import_of words ≡ Some line → IsCommandLine (name ∷ words) line
read-import words name line named is =
    let options_read = if-some (are_options import_options import_options words) (import_line words) line is in
    let stand = options-read import_options import_options words options_read.0 in
    let store = bind-some _ (store_of words) line options_read.1 in
    let listed = bind-some _ (maybe_desk_of (codes "--positions=") words) line store.2 in
    let workers = bind-some _ (workers_of words) line listed.2 in
    let limit = bind-some _ (limit_of words) line workers.2 in
    subst (IsCommandLine (name ∷ words)) (same_Some (import_from store.0 listed.0 limit.0 workers.0) line limit.2) (
      named,
      record {
        known = stand.0;
        single = stand.1;
        named = read-store words store.0 store.1;
        positions = read-maybe-desk words (codes "--positions=") listed.0 (value_of (codes "--positions=") words) refl listed.1;
        room = read-limit words limit.0 (value_of (codes "--desk-limit=") words) refl limit.1;
        at_once = read-workers words workers.0 (value_of (codes "--workers=") words) refl workers.1;
      },
    )

pub import-read : (words : List (List ℕ)) (store : ArrayVec ℕ) (listed : Option (List ℕ)) (limit workers : ℕ) → IsImport words store listed limit workers → import_of words ≡ Some (record { command = Import store listed limit; workers = workers })
import-read words store listed limit workers said =
    let line = import_from store listed limit workers in
    when-true (are_options import_options import_options words) (import_line words) line (are-options import_options import_options words said.known said.single)
    (some-bind _ (store_of words) store line (store-read words store (said.single 0 [] (omega arith)) said.named)
    (some-bind _ (maybe_desk_of (codes "--positions=") words) listed line (maybe-desk-read words (codes "--positions=") listed (said.single 2 [] (omega arith)) said.positions)
    (some-bind _ (workers_of words) workers line (workers-read words workers (said.single 1 [] (omega arith)) said.at_once)
    (some-bind _ (limit_of words) limit line (limit-read words limit (said.single 3 [] (omega arith)) said.room)
    refl))))

-- ---- `confirm`
abbrev confirm_from : ArrayVec ℕ → List ℕ → List ℕ → CommandLine
confirm_from store desk reference = record { command = Confirm store (record { desk = desk; reference = reference }); workers = 1 }

abbrev desk_of : List (List ℕ) → Option (List ℕ)
desk_of words = value_of (codes "--desk=") words >>= λ text. result_ok (name_reading is_desk_letter 16 text)

abbrev reference_of : List (List ℕ) → Option (List ℕ)
reference_of words = value_of (codes "--ref=") words >>= λ text. result_ok (name_reading is_ascii_alphanumeric 20 text)

read-confirm_one : (words : List (List ℕ)) (name : List ℕ) (line : CommandLine) → name ≡ codes "confirm" → confirm_one_of words ≡ Some line → IsCommandLine (name ∷ words) line
read-confirm_one words name line named is =
    let options_read = if-some (are_options confirm_options confirm_options words) (confirm_line words) line is in
    let stand = options-read confirm_options confirm_options words options_read.0 in
    let store = bind-some _ (store_of words) line options_read.1 in
    let desk = bind-some _ (desk_of words) line store.2 in
    let reference = bind-some _ (reference_of words) line desk.2 in
    subst (IsCommandLine (name ∷ words)) (same_Some (confirm_from store.0 desk.0 reference.0) line reference.2) (
      named,
      record {
        known = stand.0;
        single = stand.1;
        named = read-store words store.0 store.1;
        desk = read-ok (name_reading is_desk_letter 16) words (codes "--desk=") desk.0 desk.1;
        reference = read-ok (name_reading is_ascii_alphanumeric 20) words (codes "--ref=") reference.0 reference.1;
      },
      refl,
    )

pub confirm-read : (words : List (List ℕ)) (store : ArrayVec ℕ) (key : Key) → IsConfirm words store key → confirm_of words ≡ Some (record { command = Confirm store key; workers = 1 })
confirm-read words store key said =
    let line : CommandLine = record { command = Confirm store key; workers = 1 } in
    ap (λ all. if all then confirm_all_of words else confirm_one_of words) (has-unknown all_word confirm_options words refl said.known)
    ∙ when-true (are_options confirm_options confirm_options words) (confirm_line words) line (are-options confirm_options confirm_options words said.known said.single)
    (some-bind _ (store_of words) store line (store-read words store (said.single 0 [] (omega arith)) said.named)
    (some-bind _ (desk_of words) key.desk line (ok-read (name_reading is_desk_letter 16) words (codes "--desk=") key.desk (said.single 1 [] (omega arith)) said.desk)
    (some-bind _ (reference_of words) key.reference line (ok-read (name_reading is_ascii_alphanumeric 20) words (codes "--ref=") key.reference (said.single 2 [] (omega arith)) said.reference)
    refl)))

-- ---- `confirm` for all trades
abbrev confirm_all_from : ArrayVec ℕ → List ℕ → CommandLine
confirm_all_from store desk = record { command = Export store (want.Confirmations desk); workers = 1 }

read-confirm_all : (words : List (List ℕ)) (name : List ℕ) (line : CommandLine) → name ≡ codes "confirm" → has_word all_word words ≡ true → confirm_all_of words ≡ Some line → IsCommandLine (name ∷ words) line
read-confirm_all words name line named has is =
    let options_read = if-some (are_options_beside (all_word ∷ []) desk_options desk_options words) (confirm_all_line words) line is in
    let stand = options-read-beside (all_word ∷ []) desk_options desk_options words options_read.0 in
    let store = bind-some _ (store_of words) line options_read.1 in
    let desk = bind-some _ (desk_of words) line store.2 in
    let said : IsConfirmAll words store.0 desk.0 =
    record {
      known = stand.0;
      once = stand.1;
      single = stand.2;
      has_all = has-read all_word words true has;
      named = read-store words store.0 store.1;
      desk_named = read-ok (name_reading is_desk_letter 16) words (codes "--desk=") desk.0 desk.1;
    } in
    subst (IsCommandLine (name ∷ words)) (same_Some (confirm_all_from store.0 desk.0) line desk.2) ((named, said), refl)

read-confirm-by : (words : List (List ℕ)) (name : List ℕ) (line : CommandLine) (all : Bool) → name ≡ codes "confirm" → has_word all_word words ≡ all → (if all then confirm_all_of words else confirm_one_of words) ≡ Some line → IsCommandLine (name ∷ words) line
read-confirm-by words name line true named has is = read-confirm_all words name line named has is
read-confirm-by words name line false named has is = read-confirm_one words name line named is

pub read-confirm : (words : List (List ℕ)) (name : List ℕ) (line : CommandLine) → name ≡ codes "confirm" → confirm_of words ≡ Some line → IsCommandLine (name ∷ words) line
read-confirm words name line named is = read-confirm-by words name line (has_word all_word words) named refl is

pub confirm_all-read : (words : List (List ℕ)) (store : ArrayVec ℕ) (desk : List ℕ) → IsConfirmAll words store desk → confirm_of words ≡ Some (record { command = Export store (want.Confirmations desk); workers = 1 })
confirm_all-read words store desk said =
    let line = confirm_all_from store desk in
    ap (λ all. if all then confirm_all_of words else confirm_one_of words) (read-has all_word words true said.has_all)
    ∙ when-true (are_options_beside (all_word ∷ []) desk_options desk_options words) (confirm_all_line words) line (are-options-beside (all_word ∷ []) desk_options desk_options words said.known said.once said.single)
    (some-bind _ (store_of words) store line (store-read words store (said.single 0 [] (omega arith)) said.named)
    (some-bind _ (desk_of words) desk line (ok-read (name_reading is_desk_letter 16) words (codes "--desk=") desk (said.single 1 [] (omega arith)) said.desk_named)
    refl))

-- ---- `serve`
abbrev serve_from : ArrayVec ℕ → (port connections limit workers : ℕ) → CommandLine
serve_from store port connections limit workers = record { command = Serve store port connections limit; workers = workers }

abbrev port_of : List (List ℕ) → Option ℕ
port_of words = value_of (codes "--port=") words >>= λ text. number_reading 20 1 65_535 text

abbrev connections_of : List (List ℕ) → Option ℕ
connections_of words = value_of (codes "--connections=") words >>= λ text. number_reading 20 1 1_000_000 text

pub read-serve : (words : List (List ℕ)) (name : List ℕ) (line : CommandLine) → name ≡ codes "serve" → serve_of words ≡ Some line → IsCommandLine (name ∷ words) line
read-serve words name line named is =
    let options_read = if-some (are_options serve_options serve_options words) (serve_line words) line is in
    let stand = options-read serve_options serve_options words options_read.0 in
    let store = bind-some _ (store_of words) line options_read.1 in
    let port = bind-some _ (port_of words) line store.2 in
    let connections = bind-some _ (connections_of words) line port.2 in
    let workers = bind-some _ (workers_of words) line connections.2 in
    let limit = bind-some _ (limit_of words) line workers.2 in
    subst (IsCommandLine (name ∷ words)) (same_Some (serve_from store.0 port.0 connections.0 limit.0 workers.0) line limit.2) (
      named,
      record {
        known = stand.0;
        single = stand.1;
        named = read-store words store.0 store.1;
        bound = read-option (number_reading 20 1 65_535) words (codes "--port=") port.0 port.1;
        most = read-option (number_reading 20 1 1_000_000) words (codes "--connections=") connections.0 connections.1;
        room = read-limit words limit.0 (value_of (codes "--desk-limit=") words) refl limit.1;
        at_once = read-workers words workers.0 (value_of (codes "--workers=") words) refl workers.1;
      },
    )

pub serve-read : (words : List (List ℕ)) (store : ArrayVec ℕ) (port connections limit workers : ℕ) → IsServe words store port connections limit workers → serve_of words ≡ Some (record { command = Serve store port connections limit; workers = workers })
serve-read words store port connections limit workers said =
    let line = serve_from store port connections limit workers in
    when-true (are_options serve_options serve_options words) (serve_line words) line (are-options serve_options serve_options words said.known said.single)
    (some-bind _ (store_of words) store line (store-read words store (said.single 0 [] (omega arith)) said.named)
    (some-bind _ (port_of words) port line (option-read (number_reading 20 1 65_535) words (codes "--port=") port (said.single 1 [] (omega arith)) said.bound)
    (some-bind _ (connections_of words) connections line (option-read (number_reading 20 1 1_000_000) words (codes "--connections=") connections (said.single 2 [] (omega arith)) said.most)
    (some-bind _ (workers_of words) workers line (workers-read words workers (said.single 3 [] (omega arith)) said.at_once)
    (some-bind _ (limit_of words) limit line (limit-read words limit (said.single 4 [] (omega arith)) said.room)
    refl)))))

-- ---- `positions`
abbrev positions_from : ArrayVec ℕ → List ℕ → CommandLine
positions_from store desk = record { command = Positions store desk; workers = 1 }

pub read-positions : (words : List (List ℕ)) (name : List ℕ) (line : CommandLine) → name ≡ codes "positions" → positions_of words ≡ Some line → IsCommandLine (name ∷ words) line
read-positions words name line named is =
    let options_read = if-some (are_options desk_options desk_options words) (positions_line words) line is in
    let stand = options-read desk_options desk_options words options_read.0 in
    let store = bind-some _ (store_of words) line options_read.1 in
    let desk = bind-some _ (desk_of words) line store.2 in
    subst (IsCommandLine (name ∷ words)) (same_Some (positions_from store.0 desk.0) line desk.2) (
      named,
      record {
        known = stand.0;
        single = stand.1;
        named = read-store words store.0 store.1;
        desk_named = read-ok (name_reading is_desk_letter 16) words (codes "--desk=") desk.0 desk.1;
      },
      refl,
    )

pub positions-read : (words : List (List ℕ)) (store : ArrayVec ℕ) (desk : List ℕ) → IsPositions words store desk → positions_of words ≡ Some (record { command = Positions store desk; workers = 1 })
positions-read words store desk said =
    let line = positions_from store desk in
    when-true (are_options desk_options desk_options words) (positions_line words) line (are-options desk_options desk_options words said.known said.single)
    (some-bind _ (store_of words) store line (store-read words store (said.single 0 [] (omega arith)) said.named)
    (some-bind _ (desk_of words) desk line (ok-read (name_reading is_desk_letter 16) words (codes "--desk=") desk (said.single 1 [] (omega arith)) said.desk_named)
    refl))

-- ---- `load`
abbrev load_from : ArrayVec ℕ → ℕ → CommandLine
load_from store limit = record { command = Load store limit; workers = 1 }

pub read-load : (words : List (List ℕ)) (name : List ℕ) (line : CommandLine) → name ≡ codes "load" → load_of words ≡ Some line → IsCommandLine (name ∷ words) line
read-load words name line named is =
    let options_read = if-some (are_options load_options load_options words) (load_line words) line is in
    let stand = options-read load_options load_options words options_read.0 in
    let store = bind-some _ (store_of words) line options_read.1 in
    let limit = bind-some _ (limit_of words) line store.2 in
    subst (IsCommandLine (name ∷ words)) (same_Some (load_from store.0 limit.0) line limit.2) (
      named,
      record {
        known = stand.0;
        single = stand.1;
        named = read-store words store.0 store.1;
        room = read-limit words limit.0 (value_of (codes "--desk-limit=") words) refl limit.1;
      },
      refl,
    )

pub load-read : (words : List (List ℕ)) (store : ArrayVec ℕ) (limit : ℕ) → IsLoad words store limit → load_of words ≡ Some (record { command = Load store limit; workers = 1 })
load-read words store limit said =
    let line = load_from store limit in
    when-true (are_options load_options load_options words) (load_line words) line (are-options load_options load_options words said.known said.single)
    (some-bind _ (store_of words) store line (store-read words store (said.single 0 [] (omega arith)) said.named)
    (some-bind _ (limit_of words) limit line (limit-read words limit (said.single 1 [] (omega arith)) said.room)
    refl))

-- ---- `mark`
abbrev mark_from : ArrayVec ℕ → CommandLine
mark_from store = record { command = Mark store; workers = 1 }

pub read-mark : (words : List (List ℕ)) (name : List ℕ) (line : CommandLine) → name ≡ codes "mark" → mark_of words ≡ Some line → IsCommandLine (name ∷ words) line
read-mark words name line named is =
    let options_read = if-some (are_options store_options store_options words) (mark_line words) line is in
    let stand = options-read store_options store_options words options_read.0 in
    let store = bind-some _ (store_of words) line options_read.1 in
    subst (IsCommandLine (name ∷ words)) (same_Some (mark_from store.0) line store.2)
    (named, record { known = stand.0; single = stand.1; named = read-store words store.0 store.1 }, refl)

pub mark-read : (words : List (List ℕ)) (store : ArrayVec ℕ) → IsStoreAlone words store → mark_of words ≡ Some (record { command = Mark store; workers = 1 })
mark-read words store said =
    let line = mark_from store in
    when-true (are_options store_options store_options words) (mark_line words) line (are-options store_options store_options words said.known said.single)
    (some-bind _ (store_of words) store line (store-read words store (said.single 0 [] (omega arith)) said.named)
    refl)

-- ---- `figures`
read-first : (words : List (List ℕ)) (first : ℕ) (found : Option (List ℕ)) → value_of (codes "--from=") words ≡ found → first_in found ≡ Some first → SaysFirst words first
read-first words first None is read = inr (none-lacks (codes "--from=") words is, sym (same_Some 1 first read))
read-first words first (Some text) is read = inl (record { text = text; stands = found-says (codes "--from=") text words is; is_read = read })

first-read : (words : List (List ℕ)) (first : ℕ) → IsSingle words (codes "--from=") → SaysFirst words first → first_of words ≡ Some first
first-read words first single (inl read) = ap first_in (says-found (codes "--from=") read.text words single read.stands) ∙ read.is_read
first-read words first single (inr lacks) = ap first_in (lacks-none (codes "--from=") words lacks.0) ∙ ap Some (sym lacks.1)

abbrev figures_from : ArrayVec ℕ → FiguresOptions → ℕ → CommandLine
figures_from store options workers = record { command = Figures store options; workers = workers }

pub read-figures : (words : List (List ℕ)) (name : List ℕ) (line : CommandLine) → name ≡ codes "figures" → figures_of words ≡ Some line → IsCommandLine (name ∷ words) line
read-figures words name line named is =
    let options_read = if-some (are_options_beside figures_words figures_options figures_options words) (figures_line words) line is in
    let stand = options-read-beside figures_words figures_options figures_options words options_read.0 in
    let store = bind-some _ (store_of words) line options_read.1 in
    let first = bind-some _ (first_of words) line store.2 in
    let workers = bind-some _ (workers_of words) line first.2 in
    subst (IsCommandLine (name ∷ words)) (same_Some (figures_from store.0 (figures_form words first.0) workers.0) line workers.2) (
      named,
      record {
        known = stand.0;
        once = stand.1;
        single = stand.2;
        named = read-store words store.0 store.1;
        placed = read-first words first.0 (value_of (codes "--from=") words) refl first.1;
        headed = has-read header_word words (has_word header_word words) refl;
        risked = has-read risk_word words (has_word risk_word words) refl;
        at_once = read-workers words workers.0 (value_of (codes "--workers=") words) refl workers.1;
      },
    )

pub figures-read : (words : List (List ℕ)) (store : ArrayVec ℕ) (options : FiguresOptions) (workers : ℕ) → IsFigures words store options workers → figures_of words ≡ Some (record { command = Figures store options; workers = workers })
figures-read words store options workers said =
    let line = figures_from store options workers in
    when-true (are_options_beside figures_words figures_options figures_options words) (figures_line words) line (are-options-beside figures_words figures_options figures_options words said.known said.once said.single)
    (some-bind _ (store_of words) store line (store-read words store (said.single 0 [] (omega arith)) said.named)
    (some-bind _ (first_of words) options.first line (first-read words options.first (said.single 2 [] (omega arith)) said.placed)
    (some-bind _ (workers_of words) workers line (workers-read words workers (said.single 1 [] (omega arith)) said.at_once)
    (λ i. Some (figures_from store (record { first = options.first; has_header = read-has header_word words options.has_header said.headed i; has_risk = read-has risk_word words options.has_risk said.risked i }) workers)))))

-- ---- `check`
abbrev check_from : ArrayVec ℕ → Option (List ℕ) → CommandLine
check_from store desk = record { command = Check store desk; workers = 1 }

read-check-over : (words : List (List ℕ)) (name : List ℕ) (line : CommandLine) → name ≡ codes "check" → (if are_options desk_options desk_options words then check_line words else None) ≡ Some line → IsCommandLine (name ∷ words) line
read-check-over words name line named is =
    let options_read = if-some (are_options desk_options desk_options words) (check_line words) line is in
    let stand = options-read desk_options desk_options words options_read.0 in
    let store = bind-some _ (store_of words) line options_read.1 in
    let desk = bind-some _ (maybe_desk_of (codes "--desk=") words) line store.2 in
    subst (IsCommandLine (name ∷ words)) (same_Some (check_from store.0 desk.0) line desk.2) (
      named,
      record {
        known = stand.0;
        single = stand.1;
        named = read-store words store.0 store.1;
        of_desk = read-maybe-desk words (codes "--desk=") desk.0 (value_of (codes "--desk=") words) refl desk.1;
      },
      refl,
    )

pub read-check : (words : List (List ℕ)) (name : List ℕ) (line : CommandLine) → name ≡ codes "check" → check_of words ≡ Some line → IsCommandLine (name ∷ words) line
read-check [] name line named is = subst (IsCommandLine (name ∷ [])) (same_Some (record { command = CheckAlone; workers = 1 }) line is) (named, refl, refl)
read-check (word ∷ words) name line named is = read-check-over (word ∷ words) name line named is

check-over-read : (words : List (List ℕ)) (store : ArrayVec ℕ) (desk : Option (List ℕ)) → IsCheck words store desk → (if are_options desk_options desk_options words then check_line words else None) ≡ Some (check_from store desk)
check-over-read words store desk said =
    let line = check_from store desk in
    when-true (are_options desk_options desk_options words) (check_line words) line (are-options desk_options desk_options words said.known said.single)
    (some-bind _ (store_of words) store line (store-read words store (said.single 0 [] (omega arith)) said.named)
    (some-bind _ (maybe_desk_of (codes "--desk=") words) desk line (maybe-desk-read words (codes "--desk=") desk (said.single 1 [] (omega arith)) said.of_desk)
    refl))

pub check-read : (words : List (List ℕ)) (store : ArrayVec ℕ) (desk : Option (List ℕ)) → IsCheck words store desk → check_of words ≡ Some (record { command = Check store desk; workers = 1 })
check-read [] store desk said = absurd (omega (arith, said.named.stands.among.1))
check-read (word ∷ words) store desk said = check-over-read (word ∷ words) store desk said

pub check_alone-read : (words : List (List ℕ)) → words ≡ [] → check_of words ≡ Some (record { command = CheckAlone; workers = 1 })
check_alone-read words none = ap check_of none

-- ---- `help`
pub read-help : (words : List (List ℕ)) (name : List ℕ) (line : CommandLine) → name ≡ codes "help" → help_of words ≡ Some line → IsCommandLine (name ∷ words) line
read-help [] name line named is = subst (IsCommandLine (name ∷ [])) (same_Some (record { command = Help; workers = 1 }) line is) (named, refl, refl)
read-help (word ∷ words) name line named is = absurd (none-some line is)

pub help-read : (words : List (List ℕ)) → words ≡ [] → help_of words ≡ Some (record { command = Help; workers = 1 })
help-read words none = ap help_of none
