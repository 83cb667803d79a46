-- The generator of a drill: trades that are made from a number.
use Rattle.std.specs.Prelude.{◌≡◌, ℕ, zero, suc, ◌+◌, ◌-◌, ◌*◌, ◌/◌, ◌%◌, ◌^◌, max, cond, List, [], ◌∷◌, map, filter, codes, pos}
use Rattle.std.specs.List.{range_with_len}
use Rattle.muni_rule.specs.Civil.{Civil, is_before, months_on}
use Rattle.muni_rule.specs.Redemptions.{CallEntry, par_price}
use Rattle.muni_rule.specs.declared.basis.Basis.TheVariants.{Thirty360}
use Rattle.muni_rule.specs.declared.call_term.CallTerm.TheVariants.{OnDay}
use Rattle.muni_days.specs.Day.{civil}
use Rattle.muni_days.specs.declared.day.Day.{Day}
use Rattle.muni_terms.specs.Issue.{entry_of}
use Rattle.muni_terms.specs.declared.row.IssueRow.{IssueRow}
use Rattle.muni_terms.specs.declared.row.Kind.TheVariants.{Periodic}
use Rattle.muni_msg.specs.declared.asked.Asked.{Asked}
use Rattle.muni_msg.specs.declared.asked.Given.TheVariants.{AtPrice}
use Rattle.muni_msg.specs.declared.asked.Side.TheVariants.{Buy}
use Rattle.muni_desk.specs.declared.request.QuoteRequest.{QuoteRequest}

-- one step of the generator, which is linear and congruential, with a state below 2^64
unfoldable pub next_state : ℕ → ℕ
next_state state = (state * 6_364_136_223_846_793_005 + 1_442_695_040_888_963_407) % 2 ^ 64

-- the state so many draws later
abbrev pub state_after : ℕ → ℕ → ℕ
state_after state zero = state
state_after state (suc draws) = next_state (state_after state draws)

-- a draw gives the new state without its last 33 bits
unfoldable pub drawn : ℕ → ℕ
drawn state = state / 2 ^ 33

-- the draws that follow a state, counted from 1
abbrev pub draw : ℕ → ℕ → ℕ
draw state place = drawn (state_after state place)

-- a day of the year 2020
abbrev pub day_in_2020 : ℕ → ℕ → Civil
day_in_2020 month day = record { year = 2020; month = month; day = day }

-- the interest date so many half-years after the first, which is 2020-07-01
unfoldable pub interest_date : ℕ → Civil
interest_date half_years = months_on (day_in_2020 7 1) (pos (6 * half_years))

-- The calls at their places from 0 on: the first is a year after the first interest date, and each other
-- half a year after the one before it. They begin at 102 dollars, and fall by a quarter each, down to 100.
abbrev pub call_at : ℕ → CallEntry
call_at place = record {
  date = interest_date (2 + place);
  price = max (102_000_000 - 250_000 * place) par_price;
  term = OnDay;
}

-- a call, if it is before maturity
abbrev pub if_before : Civil → CallEntry → List CallEntry
if_before maturity call = cond (is_before call.date maturity) (call ∷ []) []

-- those of the first so many calls that are before maturity
unfoldable pub calls_before : Civil → ℕ → List CallEntry
calls_before maturity count =
    filter (λ call. is_before call.date maturity) (map call_at (range_with_len 0 count))

-- The security of three draws: it pays interest every half-year from 2020-07-01 on, and has neither a
-- number nor a name of its own.
pub record IsGeneratedRow (x1 x2 x3 : ℕ) (row : IssueRow) : Type 0 where
  pub cusip : row.cusip ≡ codes "000000000"
  pub named : row.name.items ≡ codes "DRILL"
  pub first : Day
  pub kind : row.kind ≡ Periodic first
  pub basis : row.basis ≡ Thirty360
  pub first_interest : civil first ≡ day_in_2020 7 1
  pub dated : civil row.dated ≡ day_in_2020 1 1
  pub maturity : civil row.maturity ≡ interest_date (1 + x1 % 60)
  pub coupon : row.coupon ≡ 10_000_000 + 1_250_000 * (x2 % 49)
  pub calls : map entry_of row.calls.items
      ≡ calls_before (interest_date (1 + x1 % 60)) (x3 % 41)

-- The trade of four draws: it is bought at a price from 90 to 120 dollars, without a commission, and
-- settles in the second half of 2020.
pub record IsGeneratedAsked (x4 x5 x6 x7 : ℕ) (asked : Asked) : Type 0 where
  pub cusip : asked.cusip ≡ codes "000000000"
  pub settlement : civil asked.settle ≡ day_in_2020 (7 + x4 % 6) (1 + x5 % 28)
  pub par : asked.par ≡ 5_000 * (1 + x6 % 200)
  pub given : asked.given ≡ AtPrice (90_000_000 + 1_000 * (x7 % 30_001))
  pub side : asked.side ≡ Buy
  pub fee : asked.fee ≡ 0

-- the request that the seven draws after a state make
pub record IsGenerated (state : ℕ) (request : QuoteRequest) : Type 0 where
  pub row : IsGeneratedRow (draw state 1) (draw state 2) (draw state 3) request.row
  pub asked : IsGeneratedAsked (draw state 4) (draw state 5) (draw state 6) (draw state 7) request.asked
