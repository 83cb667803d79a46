use Rattle.std.proofs.Common.{◌≡◌, ◌++◌, [], ◌∷◌, codes, ℤ, w32, of_z, to_z, subst, arith}
use Rattle.std.proofs.lemmas.Int.{ints}
use Rattle.std.specs.Fmt.{signed_decimal}
use Rattle.muni_dec.specs.Line.{line}
use Rattle.muni_confirm.specs.Figures.{days_line}
use Rattle.muni_confirm.proofs.figures.push_days_line.Goals as goal

pub returns : goal.returns
unfolding days_line
returns c =
    let same : to_z w32 (of_z w32 c.args.days) ≡ c.args.days = omega (arith, ints) in
    let Shows : ℤ → Type 0 = λ days. c.push_number_line.new.text.items ≡ c.args.text.now.items ++ line (codes "ACCRUED DAYS" ∷ signed_decimal days ∷ []) in
    subst Shows same c.push_number_line.ensures.items
