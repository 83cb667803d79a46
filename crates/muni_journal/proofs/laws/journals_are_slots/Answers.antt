use Rattle.muni_journal.proofs.SlotLaws.{what_is_written_stands, journals_stand, nothing_else_stands}
use Rattle.muni_journal.proofs.laws.journals_are_slots.Goals as goal

pub returns-clause-written : goal.returns-clause-written
returns-clause-written c = what_is_written_stands

pub returns-clause-slots : goal.returns-clause-slots
returns-clause-slots c = journals_stand

pub returns-clause-only : goal.returns-clause-only
returns-clause-only c = nothing_else_stands
