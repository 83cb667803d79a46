-- What `==` says of what is asked, and of its parts.
use Rattle.std.specs.Prelude.{Bool, nat_eq}
use Rattle.std.specs.Ordering.{on, eq_of_both, int_eq}
use lib.Pointwise.{pointwise}
use Rattle.muni_days.specs.Day.{place_of}
use Rattle.muni_msg.specs.Codes.{given_code, given_units, side_code}
use Rattle.muni_msg.specs.declared.asked.Given.{Given}
use Rattle.muni_msg.specs.declared.asked.Side.{Side}
use Rattle.muni_msg.specs.declared.asked.Asked.{Asked}
use Rattle.muni_msg.specs.declared.asked.Terms.{Terms}

-- what `==` says of two that are given
abbrev pub given_eq : Given → Given → Bool
given_eq = eq_of_both (on given_code nat_eq) (on given_units int_eq)

-- of two sides
abbrev pub side_eq : Side → Side → Bool
side_eq = on side_code nat_eq

-- of two amounts of an issue
abbrev pub amount_eq : Asked → Asked → Bool
amount_eq = eq_of_both (on (λ asked. asked.cusip) (pointwise nat_eq)) (on (λ asked. asked.par) nat_eq)

-- of two prices with their commissions
abbrev pub price_eq : Asked → Asked → Bool
price_eq = eq_of_both (on (λ asked. asked.given) given_eq) (on (λ asked. asked.fee) nat_eq)

-- of two that are asked: all parts are equal
abbrev pub asked_eq : Asked → Asked → Bool
asked_eq =
    eq_of_both
    (eq_of_both (eq_of_both amount_eq price_eq) (on (λ asked. place_of asked.settle) nat_eq))
    (on (λ asked. asked.side) side_eq)

-- and of two terms
abbrev pub terms_eq : Terms → Terms → Bool
terms_eq = on (λ terms. terms.asked) asked_eq
