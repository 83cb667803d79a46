use Rattle.std.proofs.Common.{◌≡◌, ◌*◌, pos, ◌+ℤ◌, ◌*ℤ◌, ◌≤ℤ◌, arith, to_z, of_z, w64}
use Rattle.std.proofs.lemmas.Int.{ints}
use Rattle.muni_rule.specs.DayCount.{year_of}
use Rattle.muni_simple.proofs.GrowthLemmas.{growth-within}
use Rattle.muni_simple.proofs.price.growth.Goals as goal

-- no cast loses anything, and the growth is in its range
record IsInRange (c : goal.After-units) : Type 0 where
  left : to_z w64 (of_z w64 c.from.result) ≡ c.args.single.now.left
  y : to_z w64 (of_z w64 c.units.result) ≡ c.args.y
  least : pos 36_000_000 ≤ℤ (pos (year_of c.args.single.now.basis * 1_000_000) +ℤ (c.args.single.now.left *ℤ c.args.y))
  greatest : (pos (year_of c.args.single.now.basis * 1_000_000) +ℤ (c.args.single.now.left *ℤ c.args.y)) ≤ℤ pos 7_600_000_000

law : (c : goal.After-units) → IsInRange c
law c =
    let single = c.requires.single in
    let within = growth-within c.args.single.now.basis c.args.shape c.args.single.now.left c.args.y single.left.0 single.left.1 c.requires.y in
    record { left = omega (arith, ints); y = omega (arith, ints); least = within.0; greatest = within.1 }

pub overflow_cast-result-2 : goal.overflow_cast-result-2
overflow_cast-result-2 c =
    let is = law c in
    let least = is.least in
    let greatest = is.greatest in
    rw (is.left, is.y) (omega (arith, ints), omega (arith, ints))

pub returns-clause-value : goal.returns-clause-value
returns-clause-value c =
    let is = law c in
    let least = is.least in
    rw (is.left, is.y) (omega (arith, ints))

pub returns-clause-range : goal.returns-clause-range
returns-clause-range c =
    let is = law c in
    let least = is.least in
    let greatest = is.greatest in
    rw (is.left, is.y) (omega (arith, ints), omega (arith, ints))
