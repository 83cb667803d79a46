-- The words that an import reads as kinds, day counts, sides and bases.
use Rattle.std.specs.Prelude.{ℕ, List, codes}
use Rattle.muni_rule.specs.declared.basis.Basis.{Basis}
use Rattle.muni_rule.specs.declared.basis.Basis.TheVariants.{Thirty360, Actual365}
use Rattle.muni_dec.specs.Values.{price_text, yield_text}
use Rattle.muni_terms.specs.declared.row.Kind.{Kind}
use Rattle.muni_terms.specs.declared.row.Kind.TheVariants.{Periodic, Zero, AtRedemption, Discount}
use Rattle.muni_msg.specs.declared.asked.Given.{Given}
use Rattle.muni_msg.specs.declared.asked.Given.TheVariants.{AtYield, AtPrice, AtRate}
use Rattle.muni_msg.specs.declared.asked.Side.{Side}
use Rattle.muni_msg.specs.declared.asked.Side.TheVariants.{Buy, Sell}

-- how an issue pays interest
abbrev pub kind_word : Kind → List ℕ
kind_word (Periodic first) = codes "periodic"
kind_word Zero = codes "zero"
kind_word AtRedemption = codes "at-redemption"
kind_word Discount = codes "discount"

-- how its days are counted
abbrev pub days_word : Basis → List ℕ
days_word Thirty360 = codes "30/360"
days_word Actual365 = codes "actual/365"

-- the side of a trade
abbrev pub side_word : Side → List ℕ
side_word Buy = codes "buy"
side_word Sell = codes "sell"

-- on which basis it is done
abbrev pub basis_word : Given → List ℕ
basis_word (AtYield y) = codes "yield"
basis_word (AtPrice price) = codes "price"
basis_word (AtRate rate) = codes "rate"

-- and at which value: four decimals of a yield or a rate, and six of a price
abbrev pub value_text : Given → List ℕ
value_text (AtYield y) = yield_text y
value_text (AtPrice price) = price_text price
value_text (AtRate rate) = yield_text rate
