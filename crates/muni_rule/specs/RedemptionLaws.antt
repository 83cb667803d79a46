-- What the list of redemptions holds.
use Rattle.std.specs.Prelude.{◌≡◌, ◌<◌, ◌≤◌, ◌==◌, if◌then◌else◌, List, [], ◌∷◌, ◌++◌, map, All, Contains}
use Rattle.muni_rule.specs.Civil.{Civil, order_of}
use Rattle.muni_rule.specs.Redemptions.{CallEntry, Redemption, par_price, at_maturity, end_of, redemption_by, to_come_after, redemptions_after}
use Rattle.muni_rule.specs.declared.call_term.CallTerm.TheVariants.{OnDay, OnOrAfter}
use Rattle.muni_rule.specs.declared.label.Label.TheVariants.{ParOption, Call}

-- a call on its day alone
abbrev pub on_its_day : CallEntry → Redemption
on_its_day entry = record {
  date = entry.date;
  price = entry.price;
  label = if entry.price == par_price then ParOption else Call;
}

-- if each call stands on its day alone, the redemptions are the calls that are to come and the maturity
abbrev pub PlainCallsAreTheirDays : Type 0
PlainCallsAreTheirDays =
    (settlement maturity : Civil) (quasi : List Civil) (entries : List CallEntry)
    → All (λ entry. entry.term ≡ OnDay) entries
    → redemptions_after settlement quasi entries maturity
    ≡ to_come_after settlement (map on_its_day entries) ++ at_maturity maturity ∷ []

-- An issue that may be called on or after a day may be redeemed on each quasi-coupon date to come that is on or
-- after it, and before the next call or maturity, at the price of the call.
abbrev pub CallsStandOnEachDate : Type 0
CallsStandOnEachDate =
    (settlement maturity date : Civil) (quasi : List Civil) (before later : List CallEntry) (entry : CallEntry)
    → entry.term ≡ OnOrAfter → Contains quasi date
    → order_of entry.date ≤ order_of date → order_of date < order_of (end_of later maturity)
    → order_of settlement < order_of date
    → Contains (redemptions_after settlement quasi (before ++ entry ∷ later) maturity) (redemption_by entry date)
