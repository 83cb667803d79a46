-- What one desk is answered does not depend on what others keep.
use Rattle.std.specs.Prelude.{◌≡◌, ℕ, Bool, true, if◌then◌else◌, List, [], ◌∷◌, Option, Some, None}
use Rattle.std.specs.List.{filter}
use Rattle.std.specs.Ordering.{eq_by_cmp}
use Rattle.muni_msg.specs.declared.command.Command.{Command}
use Rattle.muni_msg.specs.declared.command.Reply.{Reply}
use Rattle.muni_keep.specs.Tables.{Tables}
use Rattle.muni_keep.specs.Trades.{by_bytes, own}
use Rattle.muni_book_step.specs.Runs.{Runs}
use Rattle.muni_book_step.specs.Step.{Rules, desk_of}

-- this desk is named, or none
abbrev pub is_no_other : List ℕ → Option (List ℕ) → Bool
is_no_other desk None = true
is_no_other desk (Some named) = eq_by_cmp by_bytes desk named

-- the commands that name no other desk than this one
abbrev pub concerning : List ℕ → List Command → List Command
concerning desk commands = filter (λ command. is_no_other desk (desk_of command)) commands

-- the replies to these
abbrev pub replies_to : List ℕ → List Command → List Reply → List Reply
replies_to desk [] replies = []
replies_to desk (command ∷ commands) [] = []
replies_to desk (command ∷ commands) (reply ∷ replies) =
    if is_no_other desk (desk_of command) then reply ∷ replies_to desk commands replies
    else replies_to desk commands replies

-- the issues are the same, and so are the trades of the desk
pub record AreAlike (desk : List ℕ) (tables others : Tables) : Type 0 where
  pub issues : tables.issues ≡ others.issues
  pub trades : own desk tables.desks ≡ own desk others.desks

-- Of a run, the commands that name no other desk are a run with the same replies, over any tables
-- that are alike for the desk; and the tables after both are alike again.
abbrev pub DesksAreIsolated : Rules → Type 0
DesksAreIsolated rules =
    (desk : List ℕ) (old others new : Tables) (commands : List Command) (replies : List Reply)
    → AreAlike desk old others → Runs rules old commands replies new
    → (end : Tables) × Runs rules others (concerning desk commands) (replies_to desk commands replies) end
    × AreAlike desk new end
