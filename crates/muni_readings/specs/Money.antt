-- Figures with another price, or with other days of accrued interest.
use Rattle.std.specs.Prelude.{ℕ, ◌+◌, Option, option_map, ℤ, unsigned_abs}
use Rattle.muni_rule.specs.Accuracy.{accrued_cents, principal_cents, commission_cents}
use Rattle.muni_rule.specs.DayCount.{year_of}
use Rattle.muni_dec.specs.Values.{if_money}
use Rattle.muni_terms.specs.declared.row.IssueRow.{IssueRow}
use Rattle.muni_msg.specs.declared.asked.Asked.{Asked}
use Rattle.muni_msg.specs.declared.figures.Figures.{Figures}
use Rattle.muni_answer.specs.Trade.{total}

-- the total of a trade from two amounts, its principal and its accrued interest, if there is such an amount of money
abbrev pub total_with : Asked → ℕ → ℕ → Option ℕ
total_with asked part other =
    if_money (total asked.side (part + other) (commission_cents asked.par asked.fee))

-- figures with another price, and the principal and the total that follow from it
abbrev pub with_price : Asked → ℕ → Figures → Option Figures
with_price asked price figures =
    option_map (λ total. record figures {
      price = price;
      principal = principal_cents asked.par price;
      total = total;
    }) (total_with asked figures.accrued (principal_cents asked.par price))

-- the accrued interest of a trade for a number of days
abbrev pub accrued_for : IssueRow → Asked → ℤ → ℕ
accrued_for row asked days =
    accrued_cents row.coupon asked.par (unsigned_abs days) (year_of row.basis)

-- figures with other days of accrued interest, and the interest and the total that follow from them
abbrev pub with_days : IssueRow → Asked → ℤ → Figures → Option Figures
with_days row asked days figures =
    option_map (λ total. record figures {
      days = days;
      accrued = accrued_for row asked days;
      total = total;
    }) (total_with asked figures.principal (accrued_for row asked days))
