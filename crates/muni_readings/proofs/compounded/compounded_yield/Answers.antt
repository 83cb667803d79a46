use Rattle.std.proofs.Common.{inl, inr, ◌*◌, pos, subst}
use Rattle.muni_yield.specs.Places.{yield_at}
use Rattle.muni_readings.specs.Compounded.{TellsYield}
use Rattle.muni_readings.proofs.compounded.compounded_yield.Goals as goal

pub returns-in-No : goal.returns-in-No
returns-in-No c =
    elim c.in-No.is [
      | inl missed ↦ inl (record { least_not_reached = subst (TellsYield c.args.payment.now (pos (360000 * c.args.price)) (yield_at 1)) missed c.reached.ensures })
      | inr unsure ↦ inr (inr (yield_at 1, subst (TellsYield c.args.payment.now (pos (360000 * c.args.price)) (yield_at 1)) unsure c.reached.ensures))
    ]

pub returns-in-Yes-reached : goal.returns-in-Yes-reached
returns-in-Yes-reached c =
    elim c.in-Yes-reached.is [
      | inl past ↦ inr (inl (subst (TellsYield c.args.payment.now (pos (360000 * c.args.price)) (yield_at 105002)) past c.reached-2.ensures))
      | inr unsure ↦ inr (inr (yield_at 105002, subst (TellsYield c.args.payment.now (pos (360000 * c.args.price)) (yield_at 105002)) unsure c.reached-2.ensures))
    ]
