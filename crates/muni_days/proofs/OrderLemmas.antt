-- What it says that one day is before another.
use Rattle.std.proofs.Common.{◌≡◌, ◌==◌, true, ◌<◌, ℕ, arith, is_lt, nat_cmp}
use Rattle.std.specs.Ordering.{on}
use Rattle.std.proofs.lemmas.Bool.Decides.{nat_tests}
use Rattle.muni_days.specs.declared.day.Day.{Day}
use Rattle.muni_days.specs.Day.{place_of, rank_of}
use Rattle.muni_days.proofs.CivilLemmas.{is_civil}

nat_cmp-before : (a b : ℕ) → is_lt (nat_cmp a b) ≡ true → a < b
nat_cmp-before a b less = grind (arith, nat_tests)

pub before-place : (date other : Day) → is_lt (on place_of nat_cmp date other) ≡ true → place_of date < place_of other
before-place date other less = nat_cmp-before (place_of date) (place_of other) less

-- two numbers are ordered as two others that rise with them
cmp-like : (a b c d : ℕ) → (a < b → c < d) → (a ≡ b → c ≡ d) → (b < a → d < c) → nat_cmp a b ≡ nat_cmp c d
cmp-like a b c d less same more = grind (arith, nat_tests, less, same, more)

rank-less : (day other : Day) → rank_of day < rank_of other → place_of day < place_of other
rank-less day other less =
    let one = is_civil day in
    let more = is_civil other in
    omega (arith, one, more, less)

rank-same : (day other : Day) → rank_of day ≡ rank_of other → place_of day ≡ place_of other
rank-same day other same =
    let one = is_civil day in
    let more = is_civil other in
    omega (arith, one, more, same)

-- days are ordered by their ranks as by their places
pub rank_orders : (day other : Day) → nat_cmp (rank_of day) (rank_of other) ≡ nat_cmp (place_of day) (place_of other)
rank_orders day other =
    cmp-like (rank_of day) (rank_of other) (place_of day) (place_of other)
    (rank-less day other) (rank-same day other) (rank-less other day)

-- and are the same by them
pub rank_decides : (day other : Day) → (rank_of day == rank_of other) ≡ (place_of day == place_of other)
rank_decides day other =
    let less = rank-less day other in
    let same = rank-same day other in
    let more = rank-less other day in
    grind (arith, nat_tests, less, same, more)
