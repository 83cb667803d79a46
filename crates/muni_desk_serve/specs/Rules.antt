-- The rules by which connections are answered.
use Rattle.std.specs.Prelude.{ℕ, ℤ}
use Rattle.muni_rule.specs.Payments.{PaymentSeries}
use Rattle.muni_rule.specs.WorthEnds.{WorthEnds}
use Rattle.muni_book_step.specs.Step.{Rules}
use Rattle.muni_book.specs.Rules.{book_rules}
use Rattle.muni_check_rows.specs.Judging.{rule}
use Rattle.muni_check_rows.specs.Said.{Judging}

-- what steps of the book go by, and how the rows of checks are judged
pub record ServingRules : Type 1 where
  pub book : Rules
  pub checks : Judging

-- both by the ends of an encloser
abbrev pub serving_rules : (limit : ℕ) → (ends : PaymentSeries → ℤ → WorthEnds) → ServingRules
serving_rules limit ends = record { book = book_rules limit ends; checks = rule ends }
