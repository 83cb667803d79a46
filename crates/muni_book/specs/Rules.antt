-- The rules that the steps of the book go by.
use Rattle.std.specs.Prelude.{ℕ, ℤ}
use Rattle.muni_rule.specs.Payments.{PaymentSeries}
use Rattle.muni_rule.specs.WorthEnds.{WorthEnds}
use Rattle.muni_book_step.specs.Step.{Rules}
use Rattle.muni_answer.specs.Answers.{IsRightAnswer}

-- a desk may have so many trades, and right answers are given by the ends of an encloser
abbrev pub book_rules : (limit : ℕ) → (ends : PaymentSeries → ℤ → WorthEnds) → Rules
book_rules limit ends = record { limit = limit; prices = IsRightAnswer ends }
