-- The dates and the calls of a generated security, and the states of the generator.
use Rattle.std.proofs.Common.{◌≡◌, ℕ, ◌+◌, ◌*◌, ◌++◌, ◌∙◌, ◌≤◌, List, [], ◌∷◌, map, refl, ap, sym, add-one, arith, ℤ, pos, ◌+ℤ◌, unsigned_abs}
use native.Mathlib.Numerals.{add_seven}
use Rattle.std.proofs.lemmas.Int.{ints}
use Rattle.std.proofs.lemmas.List.FromFn.{filter_of_map_range_with_len_more}
use Rattle.muni_rule.specs.Civil.{Civil, is_before, month_index, months_on}
use Rattle.muni_rule.specs.Redemptions.{CallEntry}
use Rattle.muni_days.proofs.DayLemmas.{same_date}
use Rattle.muni_days.proofs.EarlyLemmas.{IsEarly}
use Rattle.muni_terms.specs.Issue.{entry_of}
use Rattle.muni_terms.specs.declared.row.Call.{Call}
use Rattle.muni_terms.specs.declared.row.IssueRow.{IssueRow}
use Rattle.muni_terms.specs.declared.row.Kind.TheVariants.{Periodic}
use Rattle.muni_msg.specs.declared.asked.Asked.{Asked}
use Rattle.muni_desk.specs.Generator.{next_state, state_after, day_in_2020, interest_date, call_at, if_before, calls_before, IsGenerated, IsGeneratedRow, IsGeneratedAsked}
use Rattle.muni_desk.specs.declared.request.QuoteRequest.{QuoteRequest}

-- no calls, and one call more
pub calls-none : (maturity : Civil) → [] ≡ calls_before maturity 0
unfolding calls_before
calls-none maturity = refl

pub calls-more : (maturity : Civil) (count : ℕ) → calls_before maturity (count + 1) ≡ calls_before maturity count ++ if_before maturity (call_at count)
unfolding calls_before
calls-more maturity count = filter_of_map_range_with_len_more (λ call. is_before call.date maturity) call_at 0 count count (omega arith)

-- seven draws more
pub state-later : (seed place : ℕ) → state_after (state_after seed (7 * place)) 7 ≡ state_after seed (7 * (place + 1))
state-later seed place =
    let more : 7 * place + 7 ≡ 7 * (place + 1) = omega arith in
    ap (state_after seed) (sym (add_seven (7 * place)) ∙ more)

-- and one draw more
pub one-draw : (seed draws now next : ℕ) → now ≡ state_after seed draws → next ≡ next_state now → next ≡ state_after seed (draws + 1)
one-draw seed draws now next so_far more = more ∙ ap next_state so_far ∙ ap (state_after seed) (sym (add-one draws))

-- ---- one request is generated
calls-same : (calls others : List Call) → map entry_of calls ≡ map entry_of others → calls ≡ others
calls-same [] [] same = refl
calls-same [] (other ∷ others) same = absurd (let never : [] ≡ entry_of other ∷ map entry_of others = same in cc)
calls-same (call ∷ calls) [] same = absurd (let never : entry_of call ∷ map entry_of calls ≡ [] = same in cc)
calls-same (call ∷ calls) (other ∷ others) same =
    let all : entry_of call ∷ map entry_of calls ≡ entry_of other ∷ map entry_of others = same in
    let here : entry_of call ≡ entry_of other = cc in
    let behind : map entry_of calls ≡ map entry_of others = cc in
    let date : call.date ≡ other.date = same_date call.date other.date (ap (λ (r : CallEntry). r.date) here) in
    let price : call.price ≡ other.price = ap (λ (r : CallEntry). r.price) here in
    let term : call.term ≡ other.term = ap (λ (r : CallEntry). r.term) here in
    let rest : calls ≡ others = calls-same calls others behind in
    λ i. record { date = date i; price = price i; term = term i } ∷ rest i

row-unique : (x1 x2 x3 : ℕ) (row other : IssueRow) → IsGeneratedRow x1 x2 x3 row → IsGeneratedRow x1 x2 x3 other → row ≡ other
row-unique x1 x2 x3 row other is also =
    let cusip = is.cusip ∙ sym also.cusip in
    let named = is.named ∙ sym also.named in
    let first = same_date is.first also.first (is.first_interest ∙ sym also.first_interest) in
    let kind = is.kind ∙ ap Periodic first ∙ sym also.kind in
    let basis = is.basis ∙ sym also.basis in
    let dated = same_date row.dated other.dated (is.dated ∙ sym also.dated) in
    let maturity = same_date row.maturity other.maturity (is.maturity ∙ sym also.maturity) in
    let coupon = is.coupon ∙ sym also.coupon in
    let calls = calls-same row.calls.items other.calls.items (is.calls ∙ sym also.calls) in
    λ i. record {
      cusip = cusip i;
      name = record { items = named i };
      kind = kind i;
      basis = basis i;
      dated = dated i;
      maturity = maturity i;
      coupon = coupon i;
      calls = record { items = calls i };
    }

asked-unique : (x4 x5 x6 x7 : ℕ) (asked other : Asked) → IsGeneratedAsked x4 x5 x6 x7 asked → IsGeneratedAsked x4 x5 x6 x7 other → asked ≡ other
asked-unique x4 x5 x6 x7 asked other is also =
    let cusip = is.cusip ∙ sym also.cusip in
    let par = is.par ∙ sym also.par in
    let settle = same_date asked.settle other.settle (is.settlement ∙ sym also.settlement) in
    let given = is.given ∙ sym also.given in
    let side = is.side ∙ sym also.side in
    let fee = is.fee ∙ sym also.fee in
    λ i. record { cusip = cusip i; par = par i; settle = settle i; given = given i; side = side i; fee = fee i }

pub generated-unique : (state : ℕ) (request other : QuoteRequest) → IsGenerated state request → IsGenerated state other → request ≡ other
generated-unique state request other is also =
    let row = row-unique _ _ _ request.row other.row is.row also.row in
    let asked = asked-unique _ _ _ _ request.asked other.asked is.asked also.asked in
    λ i. record { row = row i; asked = asked i }

-- an interest date of a book is a day of the desk
pub interest-early : (half_years : ℕ) → half_years ≤ 60 → IsEarly (interest_date half_years)
unfolding interest_date
interest-early half_years few =
    let index : unsigned_abs (pos (month_index (day_in_2020 7 1)) +ℤ pos (6 * half_years)) ≡ 24_246 + 6 * half_years = omega (arith, ints) in
    record {
      year_from = rw index (omega arith);
      year_to = rw index (omega arith);
      month_from = omega arith;
      month_to = omega arith;
      day_from = omega arith;
      day_to = omega arith;
    }

-- it is the one that number of months later
pub months-later : (first : Civil) (months : ℤ) (half_years : ℕ) → first ≡ day_in_2020 7 1 → months ≡ pos (6 * half_years) → months_on first months ≡ interest_date half_years
unfolding interest_date
months-later first months half_years same so_many = λ i. months_on (same i) (so_many i)
