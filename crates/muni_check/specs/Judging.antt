-- The rule by which rows are judged, over what is kept.
use Rattle.std.specs.Prelude.{ℕ, ℤ, List, Option}
use Rattle.muni_rule.specs.Payments.{PaymentSeries}
use Rattle.muni_rule.specs.WorthEnds.{WorthEnds}
use Rattle.muni_keep.specs.Tables.{Tables}
use Rattle.muni_check_rows.specs.Judging.{rule}
use Rattle.muni_check.specs.Answer.{Over}

-- over what is kept, if it is exposed
abbrev pub over : (PaymentSeries → ℤ → WorthEnds) → (desk : Option (List ℕ)) → Option Tables → Over
over ends desk told = record { judging = rule ends; desk = desk; told = told }
