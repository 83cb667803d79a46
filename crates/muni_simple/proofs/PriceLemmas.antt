-- A price that is truncated by a division.
use Rattle.std.proofs.Common.{◌≡◌, ℕ, ◌+◌, ◌-◌, ◌*◌, ◌/◌, ◌<◌, ◌≤◌, arith}
use Rattle.std.proofs.Math.Nat.{div-mul-le_self, lt-div-mul-add, mul-le-mul}

-- the thousandths of a worth that is divided by a growth, with the accrued interest taken off
quotient-truncates : (worth taken growth one accrued q : ℕ) → taken ≡ accrued * growth → taken ≤ worth → q * (growth * one) ≤ worth - taken → worth - taken < q * (growth * one) + growth * one → ((one * q + accrued) * growth ≤ worth) × (worth < (one * (q + 1) + accrued) * growth)
quotient-truncates worth taken growth one accrued q is order under over = (omega (arith, is, under), omega (arith, is, over))

pub truncates : (due accrued growth one : ℕ) → 1 ≤ growth → 1 ≤ one → accrued * growth ≤ due * one
    → ((one * ((due * one - accrued * growth) / (growth * one)) + accrued) * growth ≤ due * one) × (due * one < (one * ((due * one - accrued * growth) / (growth * one) + 1) + accrued) * growth)
truncates due accrued growth one some more order =
    let above : 1 * 1 ≤ growth * one = mul-le-mul some more in
    quotient-truncates (due * one) (accrued * growth) growth one accrued ((due * one - accrued * growth) / (growth * one)) (omega arith) order
    (div-mul-le_self (due * one - accrued * growth) (growth * one))
    (lt-div-mul-add (omega (arith, above)))
