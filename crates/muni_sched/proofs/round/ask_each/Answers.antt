use Rattle.muni_sched.proofs.round.ask_each.Goals as goal

pub ask-requires : goal.ask-requires
ask-requires g c = c.requires.halves.may _ _ c.requires.open

pub returns : goal.returns
returns g c = c.requires.halves.halves _ _ _ c.requires.open c.ask.ensures
