-- What the ends of a worth tell of an amount by 10^-9 dollars.
use Rattle.std.specs.Prelude.{◌≡◌, ℕ, ◌+◌, ◌-◌, Bool, true, false, nat_le, nat_lt}
use Rattle.muni_rule.specs.WorthEnds.{WorthEnds}
use Rattle.muni_rule.specs.declared.verdict.Verdict.{Verdict}
use Rattle.muni_rule.specs.declared.verdict.Verdict.TheVariants.{Yes, No, Unsure}
use Rattle.muni_rule.specs.Verdicts.{at_least_verdict}
use Rattle.muni_multi.specs.declared.verdicts.Reading.{Reading}

abbrev pub is_yes : Verdict → Bool
is_yes Yes = true
is_yes No = false
is_yes Unsure = false

abbrev pub is_no : Verdict → Bool
is_no Yes = false
is_no No = true
is_no Unsure = false

-- a verdict is the same for an amount that is 10^-9 dollars nearer to the worth
abbrev pub is_clear : Verdict → WorthEnds → ℕ → Bool
is_clear Yes ends amount = is_yes (at_least_verdict ends (amount + 360))
is_clear No ends amount = is_no (at_least_verdict ends (amount - 360))
is_clear Unsure ends amount = false

-- a verdict with that
abbrev pub told : Verdict → WorthEnds → ℕ → Reading
told verdict ends amount = record {
  verdict = verdict;
  clear = is_clear verdict ends amount;
}
