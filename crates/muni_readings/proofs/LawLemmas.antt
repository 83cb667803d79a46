-- Laws of the readings.
use Rattle.std.proofs.Common.{◌≡◌, ℕ, ◌+◌, ◌-◌, ◌*◌, ◌≤◌, true, false, refl, sym, ap, subst, arith, Some, None, ℤ, pos}
use Rattle.std.specs.Prelude.{◌-ℤ◌, ◌≤ℤ◌}
use Rattle.std.proofs.lemmas.Int.{ints}
use Rattle.std.proofs.lemmas.Bool.Decides.{nat_tests}
use Rattle.muni_rule.specs.Accuracy.{price_amount, thousandths_by}
use Rattle.muni_rule.specs.Civil.{Civil}
use Rattle.muni_rule.specs.DayCount.{first_counted, last_counted, days_up_to}
use Rattle.muni_rule.specs.ManyPeriods as many
use Rattle.muni_rule.specs.Printed.{IsClosed}
use Rattle.muni_rule.specs.SinglePayment as one
use Rattle.muni_rule.proofs.AtLeastLemmas.{AtLeast-closed, many-closed}
use Rattle.muni_rule.specs.declared.basis.Basis.{Basis}
use Rattle.muni_rule.specs.declared.basis.Basis.TheVariants.{Thirty360, Actual365}
use Rattle.muni_rule.specs.declared.label.Label.{Label}
use Rattle.muni_rule.specs.declared.verdict.Verdict.TheVariants.{No}
use Rattle.muni_msg.specs.declared.asked.Given.{Given}
use Rattle.muni_readings.specs.February.{ends_february, february_first}
use Rattle.muni_readings.specs.OtherTerms.{IsOver, uncalled, redeemed_at}
use Rattle.muni_readings.specs.Laws.{MaturityOfUncalled, FirstCallOfUncalled, GivenPricesStay, RoundsToNearest, SeriesRoundToNearest, PaymentsRoundToNearest, SeveralAreCompounded, GrossWithoutFee, RegularOfRegular, FebruaryCountsElsewhere, FebruaryCountsLess}
use Rattle.muni_readings.specs.Rounded.{TellsReached}
use Rattle.std.specs.Prelude.{MatchOption}
use Rattle.muni_readings.proofs.OtherTermsLemmas.{over-same, over-equal, uncalled-same, gross-same}

pub maturity-uncalled : MaturityOfUncalled
maturity-uncalled ends row asked figures none right = λ no_calls.
    over-equal ends row (uncalled row) asked figures none (uncalled-same row no_calls) right

pub first_call-uncalled : FirstCallOfUncalled
first_call-uncalled ends row asked figures none right = λ list first candidates there matures. record {
  list = list;
  candidates = candidates;
  first = first;
  there = there;
  over = subst (λ (label : Label). IsOver ends (redeemed_at label first.date first.price row) asked (Some figures)) (sym matures) (over-same ends row asked figures none right);
}

pub given-stays : GivenPricesStay
given-stays asked figures shape half given is = record {
  verdict = No;
  tells = subst (λ (it : Given). TellsReached it shape half No) (sym is) (λ never. never);
  rounded = refl;
}

pub several-compounded : SeveralAreCompounded
several-compounded asked figures series = refl

pub gross-without_fee : GrossWithoutFee
gross-without_fee ends row asked figures none right = λ no_fee. gross-same ends row asked figures no_fee right

pub regular-regular : RegularOfRegular
regular-regular ends row asked figures none right = λ same.
    subst (λ terms. MatchOption terms (Some figures ≡ None) (λ regular. IsOver ends regular asked (Some figures))) (sym same) (over-same ends row asked figures none right)

first-elsewhere : (first : Civil) → ends_february first ≡ false → february_first first ≡ first_counted first.day
first-elsewhere first not_last = rw not_last refl

pub february-elsewhere : FebruaryCountsElsewhere
february-elsewhere first last not_last =
    ap (λ day. pos (days_up_to last (last_counted first.day last.day)) -ℤ pos (days_up_to first day)) (first-elsewhere first not_last)

first-last : (first : Civil) → ends_february first ≡ true → february_first first ≡ 30
first-last first is_last = rw is_last refl

small-day : (day : ℕ) → day ≤ 29 → first_counted day ≡ day
small-day day small = grind (arith, nat_tests)

pub february-less : FebruaryCountsLess
february-less first last is_last small =
    let thirty = first-last first is_last in
    let day = small-day first.day small in
    rw (thirty, day) (omega (arith, ints, small))

-- ---- rounding
half-below : (basis : Basis) (t : ℕ) → price_amount basis (1000 * t - 500) ≤ℤ thousandths_by basis t
half-below Thirty360 t = omega (arith, ints)
half-below Actual365 t = omega (arith, ints)

half-past : (basis : Basis) (t : ℕ) → thousandths_by basis (t + 1) ≤ℤ price_amount basis (1000 * (t + 1) + 500)
half-past Thirty360 t = omega (arith, ints)
half-past Actual365 t = omega (arith, ints)

rounded-nearest : (basis : Basis) (AtLeast : ℤ → Type 0) (t : ℕ) → IsClosed AtLeast → RoundsToNearest basis AtLeast t
rounded-nearest basis AtLeast t closed truncated =
    let up : 1000 * t + 500 ≡ 1000 * (t + 1) - 500 = omega arith in (
      λ raised. record {
        from = subst (λ p. AtLeast (price_amount basis p)) up raised;
        below = λ past. truncated.next_not_reached (closed (price_amount basis (1000 * (t + 1) + 500)) (thousandths_by basis (t + 1)) (half-past basis t) past);
      },
      λ not_raised. record {
        from = closed (thousandths_by basis t) (price_amount basis (1000 * t - 500)) (half-below basis t) truncated.reached;
        below = not_raised;
      },
    )

pub series-nearest : SeriesRoundToNearest
series-nearest bond y t = rounded-nearest Thirty360 (many.AtLeast bond y) t (many-closed bond y)

pub payments-nearest : PaymentsRoundToNearest
payments-nearest payment y t grows = rounded-nearest payment.basis (one.AtLeast payment y) t (AtLeast-closed payment y grows)
