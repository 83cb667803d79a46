-- Runs whose commands are accepted, to tables that keep only what the exported tables keep.
use Rattle.std.proofs.Common.{◌≡◌, ℕ, arith, List, [], ◌∷◌, ◌++◌, map, Option, None, Ok, refl, sym, ap, subst, ◌∙◌}
use Rattle.std.specs.List.{AllByRecursion, flat_map}
use Rattle.std.specs.Option.{option_and_then, unwrap_or}
use Rattle.std.specs.FinMap.{empty, get, get-empty, len-empty}
use Rattle.std.proofs.lemmas.Option.{none-some}
use Rattle.muni_msg.specs.declared.command.Command.{Command}
use Rattle.muni_msg.specs.declared.command.Key.{Key}
use Rattle.muni_msg.specs.declared.command.Reply.{Reply}
use Rattle.muni_msg.specs.declared.version.Version.{Version}
use Rattle.muni_keep.specs.History.{History, version_in}
use Rattle.muni_keep.specs.Tables.{Tables, no_tables, trade_at}
use Rattle.muni_keep.specs.Trades.{by_bytes, own}
use Rattle.muni_book_step.specs.Accepted.{IsAccepted}
use Rattle.muni_book_step.specs.Runs.{Runs}
use Rattle.muni_book_step.specs.Sound.{Rightness, HaveAtMost, IsSound}
use Rattle.muni_book_step.specs.Step.{Rules, Entry, IsStepOver, after}
use Rattle.muni_book.specs.Once.{Keeps}
use Rattle.muni_book.proofs.KeepLemmas.{runs-keep}
use Rattle.muni_desk_import.specs.Import.{Imports}
use Rattle.muni_desk_export.specs.Laws.{IsTaken}

-- ---- empty tables
no-own : (desk : List ℕ) → own {V = Version} desk no_tables.desks ≡ empty
no-own desk = ap (λ trades. unwrap_or trades empty) (get-empty by_bytes desk)

no-trade : (key : Key) → trade_at no_tables key ≡ None
no-trade key = ap (λ trades. get trades key.reference) (no-own key.desk) ∙ get-empty by_bytes key.reference

pub empty-within : (all : Tables) → Keeps no_tables all
empty-within all = record {
  issues = λ cusip number issue kept.
      absurd (none-some issue (sym (ap (option_and_then (λ history. version_in history number)) (get-empty by_bytes cusip)) ∙ kept));
  versions = λ key number version kept.
      absurd (none-some version (sym (ap (option_and_then (λ history. version_in history number)) (no-trade key)) ∙ kept));
}

pub empty-few : (most : ℕ) → HaveAtMost most no_tables
empty-few most desk = rw (no-own desk, len-empty by_bytes (History Version)) (omega arith)

pub empty-sound : (R : Rightness) → IsSound R no_tables
empty-sound R = record {
  issues = λ cusip history kept. absurd (none-some history (sym (get-empty by_bytes cusip) ∙ kept));
  trades = λ key history kept. absurd (none-some history (sym (no-trade key) ∙ kept));
  few = empty-few 100_000_000;
}

-- ---- a run is an import of its commands
pub imports-of : (P : Rules) (old new : Tables) (commands : List Command) (replies : List Reply) → Runs P old commands replies new
    → Imports P old (map (λ command. Ok command) commands) (map (λ reply. Ok reply) replies) new
imports-of P old new [] [] run = run
imports-of P old new [] (reply ∷ replies) run = absurd run
imports-of P old new (c ∷ commands) [] run = absurd run
imports-of P old new (c ∷ commands) (reply ∷ replies) run =
    (after run.0 old, (run.0, run.1, refl), imports-of P (after run.0 old) new commands replies run.2)

pub taken-of : (replies : List Reply) → AllByRecursion IsAccepted replies → AllByRecursion IsTaken (map (λ reply. Ok reply) replies)
taken-of [] accepted = tt
taken-of (reply ∷ replies) accepted = (accepted.0, taken-of replies accepted.1)

-- ---- one run after another
all-append : {A : Type 0} (P : A → Type 0) (xs ys : List A) → AllByRecursion P xs → AllByRecursion P ys → AllByRecursion P (xs ++ ys)
all-append P [] ys all more = more
all-append P (x ∷ xs) ys all more = (all.0, all-append P xs ys all.1 more)

pub all-still : {A : Type 0} (P Q : A → Type 0) (xs : List A) → ((x : A) → P x → Q x) → AllByRecursion P xs → AllByRecursion Q xs
all-still P Q [] f all = tt
all-still P Q (x ∷ xs) f all = (f x all.0, all-still P Q xs f all.1)

runs-append : (P : Rules) (old mid new : Tables) (commands more : List Command) (replies others : List Reply)
    → Runs P old commands replies mid → Runs P mid more others new → Runs P old (commands ++ more) (replies ++ others) new
runs-append P old mid new [] more [] others run later = subst (λ t. Runs P t more others new) run later
runs-append P old mid new [] more (reply ∷ replies) others run later = absurd run
runs-append P old mid new (c ∷ commands) more [] others run later = absurd run
runs-append P old mid new (c ∷ commands) more (reply ∷ replies) others run later =
    (run.0, run.1, runs-append P (after run.0 old) mid new commands more replies others run.2 later)

-- Commands are accepted, one after another. The tables after them have this, and nothing but what the exported tables
-- have.
pub record IsRun (P : Rules) (all old : Tables) (commands : List Command) (Has : Tables → Type 0) : Type 0 where
  pub replies : List Reply
  pub new : Tables
  pub run : Runs P old commands replies new
  pub accepted : AllByRecursion IsAccepted replies
  pub within : Keeps new all
  pub has : Has new

pub run-none : (P : Rules) (all old : Tables) (Has : Tables → Type 0) → Keeps old all → Has old → IsRun P all old [] Has
run-none P all old Has within has = record { replies = []; new = old; run = refl; accepted = tt; within = within; has = has }

pub run-one : (P : Rules) (all old : Tables) (command : Command) (reply : Reply) (entry : Option Entry) (Has : Tables → Type 0) → IsStepOver P old command (record { reply = reply; entry = entry })
    → IsAccepted reply → Keeps (after entry old) all → Has (after entry old) → IsRun P all old (command ∷ []) Has
run-one P all old command reply entry Has step accepted within has = record {
  replies = reply ∷ [];
  new = after entry old;
  run = (entry, step, refl);
  accepted = (accepted, tt);
  within = within;
  has = has;
}

-- nothing is lost along a run
pub run-keeps : (P : Rules) (all old : Tables) (commands : List Command) (Has : Tables → Type 0) (run : IsRun P all old commands Has) → Keeps old run.new
run-keeps P all old commands Has run = runs-keep P old run.new commands run.replies run.run

pub run-then : (P : Rules) (all old : Tables) (commands more : List Command) (Has Later Both : Tables → Type 0) (run : IsRun P all old commands Has) → IsRun P all run.new more Later
    → ((new : Tables) → Keeps run.new new → Later new → Both new) → IsRun P all old (commands ++ more) Both
run-then P all old commands more Has Later Both run later both = record {
  replies = run.replies ++ later.replies;
  new = later.new;
  run = runs-append P old run.new later.new commands more run.replies later.replies run.run later.run;
  accepted = all-append IsAccepted run.replies later.replies run.accepted later.accepted;
  within = later.within;
  has = both later.new (run-keeps P all run.new more Later later) later.has;
}

-- ---- runs for each of a list
-- what each needs of the list and of the tables, and what it brings, which stays
pub record IsBrought {A : Type 0} (P : Rules) (all : Tables) (commands : A → List Command) (Needs : A → Type 0) (Ready : Tables → Type 0) (Has : A → Tables → Type 0) : Type 0 where
  pub ready : (old new : Tables) → Keeps old new → Ready old → Ready new
  pub stays : (x : A) (old new : Tables) → Keeps old new → Has x old → Has x new
  pub one : (x : A) (old : Tables) → Needs x → Ready old → Keeps old all → IsRun P all old (commands x) (Has x)

pub run-each : {A : Type 0} (P : Rules) (all : Tables) (commands : A → List Command) (Needs : A → Type 0) (Ready : Tables → Type 0) (Has : A → Tables → Type 0)
    → IsBrought P all commands Needs Ready Has → (xs : List A) (old : Tables) → AllByRecursion Needs xs → Ready old → Keeps old all
    → IsRun P all old (flat_map commands xs) (λ new. AllByRecursion (λ x. Has x new) xs)
run-each P all commands Needs Ready Has brought [] old needs ready within = run-none P all old (λ new. AllByRecursion (λ x. Has x new) []) within tt
run-each P all commands Needs Ready Has brought (x ∷ xs) old needs ready within =
    let run = brought.one x old needs.0 ready within in
    let keeps = run-keeps P all old (commands x) (Has x) run in
    let later = run-each P all commands Needs Ready Has brought xs run.new needs.1 (brought.ready old run.new keeps ready) run.within in
    run-then P all old (commands x) (flat_map commands xs) (Has x) (λ new. AllByRecursion (λ y. Has y new) xs) (λ new. AllByRecursion (λ y. Has y new) (x ∷ xs)) run later
    (λ new stay has. (brought.stays x run.new new stay run.has, has))
