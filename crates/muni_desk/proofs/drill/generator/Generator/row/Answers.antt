use Rattle.std.proofs.Common.{◌≡◌, ◌+◌, ◌*◌, ◌%◌, ◌∙◌, refl, ap, ℕ}
use Rattle.muni_desk.specs.Generator.{draw, drawn, next_state, interest_date, calls_before}
use Rattle.muni_desk.proofs.drill.generator.Generator.row.Goals as goal

pub returns-clause-row : goal.returns-clause-row
returns-clause-row c =
    let state = c.args.self.now in
    let first : c.draw.result ≡ draw state 1 = c.draw.ensures.value ∙ ap drawn c.draw.ensures.state in
    let second_state = c.draw-2.ensures.state ∙ ap next_state c.draw.ensures.state in
    let second : c.draw-2.result ≡ draw state 2 = c.draw-2.ensures.value ∙ ap drawn second_state in
    let third : c.draw-3.result ≡ draw state 3 = c.draw-3.ensures.value ∙ ap drawn (c.draw-3.ensures.state ∙ ap next_state second_state) in
    let maturity = c.interest_date-maturity.ensures ∙ ap (λ (x : ℕ). interest_date (1 + x % 60)) first in
    record {
      cusip = refl;
      named = c.issue_name.ensures;
      first = c.day_in_2020.result;
      kind = refl;
      basis = refl;
      first_interest = c.day_in_2020.ensures;
      dated = c.day_in_2020-2.ensures;
      maturity = maturity;
      coupon = c.new-coupon.ensures ∙ ap (λ (x : ℕ). 10_000_000 + 1_250_000 * (x % 49)) second;
      calls = c.calls_before-calls.ensures ∙ (λ i. calls_before (maturity i) (third i % 41));
    }
