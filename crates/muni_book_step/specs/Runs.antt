-- Runs of commands.
use Rattle.std.specs.Prelude.{◌≡◌, ⊤, List, [], ◌∷◌, Option, Some}
use Rattle.muni_msg.specs.declared.command.Command.{Command}
use Rattle.muni_msg.specs.declared.command.Reply.{Reply}
use Rattle.muni_msg.specs.declared.command.Reply.TheVariants.{Added, Amended, Quoted, Listed, Confirmed, Refused}
use Rattle.muni_keep.specs.Tables.{Tables}
use Rattle.muni_book_step.specs.Step.{Rules, Entry, IsStepOver, after}

-- a step from tables to those that are exposed after it
abbrev pub StepsTo : Rules → Tables → Command → Reply → Option Tables → Type 0
StepsTo rules old command reply told =
    (entry : Option Entry) × IsStepOver rules old command (record { reply = reply; entry = entry })
    × (told ≡ Some (after entry old))

-- commands one after another, each with its reply, from tables to tables
abbrev pub Runs : Rules → Tables → List Command → List Reply → Tables → Type 0
Runs rules old [] [] new = new ≡ old
Runs rules old (command ∷ commands) (reply ∷ replies) new =
    (entry : Option Entry) × IsStepOver rules old command (record { reply = reply; entry = entry })
    × Runs rules (after entry old) commands replies new
Runs rules old [] (reply ∷ replies) new = ⊥
Runs rules old (command ∷ commands) [] new = ⊥

-- a run to the tables that are exposed after it
abbrev pub RunsTo : Rules → Tables → List Command → List Reply → Option Tables → Type 0
RunsTo rules old commands replies told =
    (new : Tables) × (told ≡ Some new) × Runs rules old commands replies new

-- a reply that refuses the command
abbrev pub IsRefusal : Reply → Type 0
IsRefusal (Added cusip) = ⊥
IsRefusal (Amended cusip number) = ⊥
IsRefusal (Quoted issue asked figures shown) = ⊥
IsRefusal (Listed lines) = ⊥
IsRefusal (Confirmed issue key number version) = ⊥
IsRefusal (Refused why) = ⊤
