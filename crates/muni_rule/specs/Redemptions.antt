-- The redemptions to which a figure is computed (MSRB Rule G-15(a)): the pricing calls to come, at which
-- the issuer may redeem the whole issue, and the maturity, or the day for which the issue has been called
-- or refunded.
-- Prices are whole numbers of 10^-6 dollars per 100 of par.
use Rattle.std.specs.Prelude.{ℕ, ◌==◌, ◌&&◌, Bool, true, false, if◌then◌else◌, List, [], ◌∷◌, ◌++◌, map, filter, Option, Some, None}
use Rattle.std.specs.List.{last_or}
use Rattle.muni_rule.specs.Civil.{Civil, is_before, is_not_after}
use Rattle.muni_rule.specs.declared.call_term.CallTerm.{CallTerm}
use Rattle.muni_rule.specs.declared.call_term.CallTerm.TheVariants.{OnDay, OnOrAfter, Called}
use Rattle.muni_rule.specs.declared.label.Label.{Label}
use Rattle.muni_rule.specs.declared.label.Label.TheVariants as label

-- an entry of a call schedule: its day, its price, and on which days it stands
pub record CallEntry : Type 0 where
  pub date : Civil
  pub price : ℕ
  pub term : CallTerm

-- a redemption: its date, its price, and what is said of it
pub record Redemption : Type 0 where
  pub date : Civil
  pub price : ℕ
  pub label : Label

-- 100 dollars
abbrev pub par_price : ℕ
par_price = 100_000_000

-- an issue is redeemed at maturity at 100
abbrev pub at_maturity : Civil → Redemption
at_maturity maturity = record { date = maturity; price = par_price; label = label.Maturity }

-- the issue is redeemed on the day of an entry that stands so
abbrev pub is_certain : CallTerm → Bool
is_certain OnDay = false
is_certain OnOrAfter = false
is_certain Called = true

-- a call at exactly 100 is a par option
abbrev pub label_of_entry : CallTerm → ℕ → Label
label_of_entry term price =
    if is_certain term then label.Called
    else (if price == par_price then label.ParOption else label.Call)

-- the redemption by an entry on one of its days
abbrev pub redemption_by : CallEntry → Civil → Redemption
redemption_by entry date =
    record { date = date; price = entry.price; label = label_of_entry entry.term entry.price }

-- The days on which an entry stands, by the quasi-coupon dates of the issue: its own day alone, or each
-- of those dates that is on or after it and before an end.
abbrev pub call_days : CallTerm → List Civil → Civil → Civil → List Civil
call_days OnDay quasi date end = date ∷ []
call_days OnOrAfter quasi date end =
    filter (λ other. is_not_after date other && is_before other end) quasi
call_days Called quasi date end = date ∷ []

-- the end is the day of the next entry, or the maturity if there is none
abbrev pub end_of : List CallEntry → Civil → Civil
end_of [] maturity = maturity
end_of (next ∷ entries) maturity = next.date

-- the redemptions by all entries of an issue, each on its days at its price
unfoldable pub redemptions_by : List Civil → List CallEntry → Civil → List Redemption
redemptions_by quasi [] maturity = []
redemptions_by quasi (entry ∷ entries) maturity =
    map (redemption_by entry) (call_days entry.term quasi entry.date (end_of entries maturity))
    ++ redemptions_by quasi entries maturity

-- the day on which the issue is redeemed for certain, by the entry that decides
abbrev pub last_day_by : Option CallEntry → Civil → Civil
last_day_by None maturity = maturity
last_day_by (Some entry) maturity = if is_certain entry.term then entry.date else maturity

-- that is its maturity, unless the last entry stands in its place
abbrev pub last_day : List CallEntry → Civil → Civil
last_day entries maturity = last_day_by (last_or None entries) maturity

-- an issue has been called or refunded if its last entry says so
abbrev pub is_called_by : Option CallEntry → Bool
is_called_by None = false
is_called_by (Some entry) = is_certain entry.term

abbrev pub is_called : List CallEntry → Bool
is_called entries = is_called_by (last_or None entries)

-- the redemption at maturity, unless the last entry stands in its place
abbrev pub final_redemption : List CallEntry → Civil → List Redemption
final_redemption entries maturity = if is_called entries then [] else at_maturity maturity ∷ []

-- the redemptions that are still to come at a settlement, of all in order of date: one on the
-- settlement date is none of them
abbrev pub to_come_after : Civil → List Redemption → List Redemption
to_come_after settlement redemptions =
    filter (λ redemption. is_before settlement redemption.date) redemptions

-- and the maturity after them, if the issue is redeemed then
abbrev pub redemptions_after : Civil → List Civil → List CallEntry → Civil → List Redemption
redemptions_after settlement quasi entries maturity =
    to_come_after settlement (redemptions_by quasi entries maturity)
    ++ final_redemption entries maturity
