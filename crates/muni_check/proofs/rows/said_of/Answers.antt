use Rattle.std.proofs.Common.{◌∙◌, sym}
use Rattle.std.specs.Prelude.{IfSome}
use Rattle.muni_check.specs.Cache.{IsSoundCache}
use Rattle.muni_check.proofs.ToldLemmas.{ok-always}
use Rattle.muni_check.proofs.rows.said_of.Goals as goal

pub returns-in-None-clause-said : goal.returns-in-None-clause-said
returns-in-None-clause-said g c =
    let read = sym c.read_reference.ensures ∙ c.in-Ok.is in
    let first = sym c.in_ok-first.ensures.again ∙ c.in-None.is in
    rw (read, c.in-Some-Some.is-0, c.in-Some-Some.is-1, first) (rw c.copy.ensures at c.judge_key.ensures.said)

pub returns-in-None-clause-sound : goal.returns-in-None-clause-sound
returns-in-None-clause-sound g c =
    ok-always c.judge_key.result (IfSome (g.K.Keeper.tables c.args.keeper.now) (λ t. IsSoundCache t c.judge_key.new.self.issues)) (rw c.judge_key.ensures.issues c.requires.sound)
