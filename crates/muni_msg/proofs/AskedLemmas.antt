-- What `==` says of what is asked.
use Rattle.std.proofs.Common.{◌≡◌, ◌==◌, ℕ, List, refl, ap}
use Rattle.std.specs.Bool.{Decides}
use Rattle.std.specs.Prelude.{nat_eq}
use Rattle.std.specs.Ordering.{int_eq}
use Rattle.std.proofs.lemmas.Bool.Decides.{Decides-eqb, Decides-int_eq, Decides-and, Decides-like}
use Rattle.std.proofs.lemmas.Slice.Eq.{slice_eq-Decides}
use lib.Pointwise.{pointwise}
use Rattle.muni_days.proofs.DayLemmas.{day_decides}
use Rattle.muni_msg.specs.Asked.{given_eq, side_eq, asked_eq, terms_eq}
use Rattle.muni_msg.specs.Codes.{given_code, given_units, side_code}
use Rattle.muni_msg.specs.declared.asked.Given.{Given}
use Rattle.muni_msg.specs.declared.asked.Given.TheVariants.{AtYield, AtPrice, AtRate}
use Rattle.muni_msg.specs.declared.asked.Side.{Side}
use Rattle.muni_msg.specs.declared.asked.Side.TheVariants.{Buy, Sell}
use Rattle.muni_msg.specs.declared.asked.Asked.{Asked}
use Rattle.muni_msg.specs.declared.asked.Terms.{Terms}

-- what is given
same_given : (given other : Given) → given_code given ≡ given_code other → given_units given ≡ given_units other → given ≡ other
same_given (AtYield y) (AtYield other) basis units = ap AtYield units
same_given (AtYield y) (AtPrice other) basis units = absurd (cc)
same_given (AtYield y) (AtRate other) basis units = absurd (cc)
same_given (AtPrice price) (AtYield other) basis units = absurd (cc)
same_given (AtPrice price) (AtPrice other) basis units = ap AtPrice (cc)
same_given (AtPrice price) (AtRate other) basis units = absurd (cc)
same_given (AtRate rate) (AtYield other) basis units = absurd (cc)
same_given (AtRate rate) (AtPrice other) basis units = absurd (cc)
same_given (AtRate rate) (AtRate other) basis units = ap AtRate units

pub given_decides : (given other : Given) → Decides (given_eq given other) (given ≡ other)
given_decides given other =
    Decides-like (given_eq given other)
    (λ same. same_given given other same.0 same.1)
    (λ same. (ap given_code same, ap given_units same))
    (Decides-and (given_code given == given_code other) (int_eq (given_units given) (given_units other)) (Decides-eqb (given_code given) (given_code other)) (Decides-int_eq (given_units given) (given_units other)))

-- sides
same_side : (side other : Side) → side_code side ≡ side_code other → side ≡ other
same_side Buy Buy same = refl
same_side Buy Sell same = absurd (cc)
same_side Sell Buy same = absurd (cc)
same_side Sell Sell same = refl

pub side_decides : (side other : Side) → Decides (side_eq side other) (side ≡ other)
side_decides side other = Decides-like (side_eq side other) (same_side side other) (ap side_code) (Decides-eqb (side_code side) (side_code other))

-- what is asked
pub numbers_decide : (xs ys : List ℕ) → Decides (pointwise nat_eq xs ys) (xs ≡ ys)
numbers_decide xs ys = slice_eq-Decides Decides-eqb xs ys (pointwise nat_eq xs ys) refl

pub asked_decides : (asked other : Asked) → Decides (asked_eq asked other) (asked ≡ other)
asked_decides asked other =
    let amount = Decides-and _ _ (numbers_decide asked.cusip other.cusip) (Decides-eqb asked.par other.par) in
    let price = Decides-and _ _ (given_decides asked.given other.given) (Decides-eqb asked.fee other.fee) in
    let settled = Decides-and _ _ (Decides-and _ _ amount price) (day_decides asked.settle other.settle) in
    Decides-like (asked_eq asked other)
    (λ same. λ i. record { cusip = same.0.0.0.0 i; par = same.0.0.0.1 i; given = same.0.0.1.0 i; fee = same.0.0.1.1 i; settle = same.0.1 i; side = same.1 i })
    (λ same. ((((ap (λ it. it.cusip) same, ap (λ it. it.par) same), (ap (λ it. it.given) same, ap (λ it. it.fee) same)), ap (λ it. it.settle) same), ap (λ it. it.side) same))
    (Decides-and _ _ settled (side_decides asked.side other.side))

-- and terms
pub terms_decides : (terms other : Terms) → Decides (terms_eq terms other) (terms ≡ other)
terms_decides terms other =
    Decides-like (terms_eq terms other)
    (λ same. λ i. record { asked = same i })
    (ap (λ it. it.asked))
    (asked_decides terms.asked other.asked)
