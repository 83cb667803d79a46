-- Laws of what the desk says.
use Rattle.std.specs.Prelude.{◌≡◌, ℕ, ◌++◌, Bool, true, false, List, Option, Some, ℤ}
use Rattle.muni_rule.specs.Payments.{PaymentSeries}
use Rattle.muni_rule.specs.WorthEnds.{WorthEnds}
use Rattle.muni_msg.specs.declared.shown.Shown.{Shown}
use Rattle.muni_risk.specs.declared.Risk.{Risk}
use Rattle.muni_confirm.specs.Risk.{risk_lines}
use Rattle.muni_desk.specs.Answers.{IsAnswer}
use Rattle.muni_desk.specs.Command.{command_of}
use Rattle.muni_desk.specs.declared.command.CommandLine.{CommandLine}
use Rattle.muni_desk.specs.declared.command.DeskCommand.{DeskCommand}
use Rattle.muni_desk.specs.declared.command.DeskCommand.TheVariants.{Quote}
use Rattle.muni_desk.specs.declared.status.Answer.{Answer}

-- Two texts go on from the same lines by lines of how a price moves with its yield: by its accuracy, the last
-- digit of a duration, a convexity or a DV01 is open if the exact one lies half way between two.
pub record DifferByRisk (text other : List ℕ) : Type 0 where
  pub same : List ℕ
  pub risk : Option Risk
  pub other_risk : Option Risk
  pub text_is : text ≡ same ++ risk_lines risk
  pub other_is : other ≡ same ++ risk_lines other_risk

-- two texts are one, or with these lines they differ by them at most
abbrev pub AreOneText : Bool → List ℕ → List ℕ → Type 0
AreOneText false text other = text ≡ other
AreOneText true text other = DifferByRisk text other

-- two answers are one
pub record AreOneQuote (shown : Shown) (answer other : Answer) : Type 0 where
  pub status : answer.status ≡ other.status
  pub text : AreOneText shown.risk answer.text.items other.text.items

abbrev pub AreOneAnswer : DeskCommand → Answer → Answer → Type 0
AreOneAnswer (Quote request shown) answer other = AreOneQuote shown answer other
AreOneAnswer command answer other = answer ≡ other

-- for words that are a command one answer of its own is right at most: one text, and one status
abbrev pub AnswersAreUnique : Type 0
AnswersAreUnique =
    (ends : PaymentSeries → ℤ → WorthEnds) (words : List (List ℕ)) (line : CommandLine)
    (answer other : Answer) → command_of words ≡ Some line → IsAnswer ends line.command answer
    → IsAnswer ends line.command other → AreOneAnswer line.command answer other

-- and the same one for all words that are this command, whatever the workers
abbrev pub WorkersDoNotShow : Type 0
WorkersDoNotShow =
    (ends : PaymentSeries → ℤ → WorthEnds) (words others : List (List ℕ))
    (line changed : CommandLine) (answer other : Answer)
    → command_of words ≡ Some line → command_of others ≡ Some changed
    → line.command ≡ changed.command → IsAnswer ends line.command answer
    → IsAnswer ends changed.command other → AreOneAnswer line.command answer other
