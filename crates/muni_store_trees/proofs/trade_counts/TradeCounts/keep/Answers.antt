use Rattle.std.proofs.Common.{◌⊎◌, Result, Ok, Err, OnOk, OnErr, inl, inr}
use Rattle.muni_store_trees.proofs.trade_counts.TradeCounts.keep.Goals as goal

put_or_not : {A E P Q R : Type 0} (result : Result A E) → OnOk result P → OnErr result Q → OnErr result R → P ⊎ (Q × R)
put_or_not (Ok _) put same new = inl put
put_or_not (Err _) put same new = inr (same, new)

pub returns : goal.returns
returns c =
    put_or_not c.insert.result
    (rw (c.copy.ensures, c.self.view_is) at c.insert.ensures.entries)
    (rw c.self.view_is at c.insert.ensures.err)
    (rw (c.copy.ensures, c.self.view_is) at c.insert.ensures.absent)
