use Rattle.std.proofs.Common.{◌≡◌, ◌^◌, sym, ap, ◌∙◌, arith}
use Rattle.muni_rule.proofs.PowerLemmas.{pow-one, pow-two, pow-three}
use Rattle.muni_multi.proofs.exact.small_power.Goals as goal

pub returns-in-1-clause-value : goal.returns-in-1-clause-value
returns-in-1-clause-value c =
    let exponent : c.args.exponent ≡ 1 = omega arith in
    sym (ap (λ n. c.args.base ^ n) exponent ∙ pow-one c.args.base)

pub returns-in-2-clause-value : goal.returns-in-2-clause-value
returns-in-2-clause-value c =
    let exponent : c.args.exponent ≡ 2 = omega arith in
    sym (ap (λ n. c.args.base ^ n) exponent ∙ pow-two c.args.base)

pub returns-in_default-clause-value : goal.returns-in_default-clause-value
returns-in_default-clause-value c =
    let exponent : c.args.exponent ≡ 3 = omega arith in
    sym (ap (λ n. c.args.base ^ n) exponent ∙ pow-three c.args.base)
