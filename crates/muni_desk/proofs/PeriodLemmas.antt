-- A settlement in an interest period has 0 to 180 days of the period before it.
use Rattle.std.proofs.Common.{◌≡◌, ℕ, ◌+◌, ◌-◌, ◌*◌, ◌<◌, ◌≤◌, pos, negsuc, ◌+ℤ◌, ◌≤ℤ◌, unsigned_abs, true, nat_le, nat_lt, ◌&&◌, arith, refl}
use Rattle.std.proofs.lemmas.Int.{ints}
use Rattle.std.proofs.lemmas.Bool.Decides.{nat_tests}
use Rattle.muni_rule.specs.Civil.{Civil, order_of, month_index, months_on}
use Rattle.muni_rule.specs.DayCount.{first_counted, last_counted, days360}
use Rattle.muni_days.specs.Day.{civil}
use Rattle.muni_days.specs.declared.day.Day.{Day}
use Rattle.muni_days.proofs.CivilLemmas.{is_civil, is_of_desk}
use Rattle.muni_days.proofs.EarlyLemmas.{IsEarly}
use Rattle.muni_desk.specs.NextInterestDate.{is_next}
use Rattle.muni_desk.specs.QuoteOne.{period_start, settles, accrued_days}
use Rattle.muni_desk.specs.declared.one_period.QuoteOneRequest.{QuoteOneRequest}

-- the six months before a day that every month has
record IsPeriod (start next : Civil) : Type 0 where
  months : start.year * 12 + start.month + 6 ≡ next.year * 12 + next.month
  day : start.day ≡ next.day
  from : 1 ≤ start.day
  to : start.day ≤ 28

-- months of 31 days in the order of dates, and of 30 in the day count
within_six_months : (start settlement first day : ℕ) → 1 ≤ first → first ≤ 28 → 1 ≤ day → day ≤ 31 → 31 * start + first ≤ 31 * settlement + day → 31 * settlement + day < 31 * (start + 6) + first → (30 * start + first ≤ 30 * settlement + day) × (30 * settlement + day ≤ 30 * start + first + 180)
within_six_months start settlement first day h1 h2 h3 h4 h5 h6 = (omega arith, omega arith)

-- a day up to the 28th is counted as it is, and so is the last day after it
first_counted-small : (day : ℕ) → day ≤ 28 → first_counted day ≡ day
first_counted-small day h = grind (arith, nat_tests)

last_counted-small : (first day : ℕ) → first ≤ 28 → last_counted first day ≡ day
last_counted-small first day h = grind (arith, nat_tests)

days360-within : (start settlement next : Civil) → IsPeriod start next → 1 ≤ settlement.day → settlement.day ≤ 31 → order_of start ≤ order_of settlement → order_of settlement < order_of next → (pos 0 ≤ℤ days360 start settlement) × (days360 start settlement ≤ℤ pos 180)
days360-within start settlement next period low high after before =
    let r = within_six_months (start.year * 12 + start.month) (settlement.year * 12 + settlement.month) start.day settlement.day period.from period.to low high (omega arith) (omega arith) in
    rw (first_counted-small start.day period.to, last_counted-small start.day settlement.day period.to) (omega (arith, ints), omega (arith, ints))

six_months_before : (next : Civil) → 1902 ≤ next.year → 1 ≤ next.month → 1 ≤ next.day → next.day ≤ 28 → IsPeriod (months_on next (negsuc 5)) next
six_months_before next year month from to =
    let index : unsigned_abs (pos (month_index next) +ℤ negsuc 5) ≡ month_index next - 6 = omega (arith, ints) in
    record { months = rw index (omega arith); day = refl; from = from; to = to }

both_le : (a b c d : ℕ) → nat_le a b && nat_le c d ≡ true → (a ≤ b) × (c ≤ d)
both_le a b c d h = grind (arith, nat_tests)

le_and_lt : (a b c d : ℕ) → nat_le a b && nat_lt c d ≡ true → (a ≤ b) × (c < d)
le_and_lt a b c d h = grind (arith, nat_tests)

pub accrued_days-within : (request : QuoteOneRequest) → is_next (civil request.next) ≡ true → settles request ≡ true → (pos 0 ≤ℤ accrued_days request) × (accrued_days request ≤ℤ pos 180)
accrued_days-within request next settles =
    let on = is_civil request.next in
    let at = is_civil request.settlement in
    let date = both_le (civil request.next).day 28 1902 (civil request.next).year next in
    let order = le_and_lt (order_of (period_start request)) (order_of (civil request.settlement)) (order_of (civil request.settlement)) (order_of (civil request.next)) settles in
    days360-within (period_start request) (civil request.settlement) (civil request.next) (six_months_before (civil request.next) date.1 on.month_from on.day_from date.0) at.day_from at.day_to order.0 order.1

-- the period begins on a day of the desk
pub start-early : (next : Day) → is_next (civil next) ≡ true → IsEarly (months_on (civil next) (negsuc 5))
start-early next is =
    let on = is_of_desk next in
    let date = both_le (civil next).day 28 1902 (civil next).year is in
    let index : unsigned_abs (pos (month_index (civil next)) +ℤ negsuc 5) ≡ month_index (civil next) - 6 = omega (arith, ints, on.civil.month_from) in
    record {
      year_from = rw index (omega (arith, date.1, on.civil.month_from));
      year_to = rw index (omega (arith, on.year_to, on.civil.month_to));
      month_from = omega arith;
      month_to = omega arith;
      day_from = on.civil.day_from;
      day_to = date.0;
    }
