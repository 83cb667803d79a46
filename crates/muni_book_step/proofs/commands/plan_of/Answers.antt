use Rattle.muni_book_step.proofs.commands.plan_of.Goals as goal

pub returns-in-List : goal.returns-in-List
returns-in-List g c = record { plan = rw c.in-List.is c.list.ensures.plan }
