-- What a call does over a file that stays open.
use Rattle.std.proofs.Common.{◌≡◌, Option, None, Some, IfSome, sym}
use Rattle.muni_store.specs.Open.{WhileOpen, in_hand, ran_on}
use Rattle.muni_store.specs.declared.keeper.FileState.{FileState}

done : {Keeper : Type 0} (kept : Option Keeper) (Done : Keeper → Type 0) (after : Keeper) → IfSome kept (λ keeper. keeper ≡ after) → Done after → IfSome kept Done
done None Done after same did = tt
done (Some is) Done after same did = rw (sym same) at did

pub while_open : {Keeper : Type 0} (old new : FileState Keeper) (Does : Keeper → Keeper → Type 0) (before after : Keeper)
    → in_hand old ≡ Some before → IfSome (ran_on new) (λ keeper. keeper ≡ after) → Does before after → WhileOpen old new Does
while_open old new Does before after taken kept did = rw taken (done (ran_on new) (Does before) after kept did)
