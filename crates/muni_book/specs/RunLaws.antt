-- Laws of the book, for any limit of a desk and for the answers that any ends lead to.
use Rattle.std.specs.Prelude.{ℕ, ℤ, Option}
use Rattle.muni_rule.specs.Payments.{PaymentSeries}
use Rattle.muni_rule.specs.WorthEnds.{WorthEnds}
use Rattle.muni_book.specs.Rules.{book_rules}
use Rattle.muni_answer.specs.RightFigures.{AreRightFigures}
use Rattle.muni_book.specs.SoundTables.{AreSoundTables}
use Rattle.muni_msg.specs.declared.command.Command.{Command}
use Rattle.muni_msg.specs.declared.command.Reply.{Reply}
use Rattle.muni_keep.specs.Tables.{Tables, no_tables}
use Rattle.muni_book_step.specs.Reasons.{IsReasoned}
use Rattle.muni_book_step.specs.Step.{Entry, IsStepOver}
use Rattle.muni_book.specs.Causes.{RefusalsHaveCauses, CausesAreRefused}
use Rattle.muni_book.specs.Isolation.{DesksAreIsolated}
use Rattle.muni_book.specs.Kept.{AreAcceptedOrRefused, ReasonedIssuesAreKept, ReasonedAmendmentsAreKept, ReasonedVersionsAreKept, KeptIsAnsweredAgain}
use Rattle.muni_book.specs.LookUps.{LastsAreConfirmed, PagesAreListed, FiguresAreQuoted}
use Rattle.muni_book.specs.Once.{RunsKeep, CommandsActOnce, ConfirmationsStay}
use Rattle.muni_book.specs.RightReplies.{StepsConfirmRight, RunsConfirmRight, VersionsAreRight, LastsAreRight, PagesAreRight}
use Rattle.muni_book.specs.StaysSound.{RunsStaySound}
use Rattle.muni_book.specs.Unique.{StepsAreUnique, RunsAreUnique}

-- the ends that an encloser gives to payments and a yield
abbrev pub Ends : Type 0
Ends = PaymentSeries → ℤ → WorthEnds

-- Tables without an issue or a trade are sound, and a run leaves sound tables sound: every kept figure
-- is right by the exact formulas.
pub record TablesAreSound : Type 0 where
  pub first : AreSoundTables no_tables
  pub later : (limit : ℕ) (ends : Ends) → RunsStaySound (book_rules limit ends) AreRightFigures

-- a command that was accepted acts once
abbrev pub AcceptedCommandsActOnce : Type 0
AcceptedCommandsActOnce = (limit : ℕ) (ends : Ends) → CommandsActOnce (book_rules limit ends)

-- nothing that is kept is ever changed or removed
abbrev pub NothingKeptIsLost : Type 0
NothingKeptIsLost = (limit : ℕ) (ends : Ends) → RunsKeep (book_rules limit ends)

-- what was confirmed stays as it was confirmed
abbrev pub WhatWasConfirmedStays : Type 0
WhatWasConfirmedStays = (limit : ℕ) (ends : Ends) → ConfirmationsStay (book_rules limit ends)

-- what a desk is answered does not depend on what others keep
abbrev pub EachDeskIsIsolated : Type 0
EachDeskIsIsolated = (limit : ℕ) (ends : Ends) → DesksAreIsolated (book_rules limit ends)

-- Equal issues and equal trades of the desk give a command one reply and one entry, and so a run over
-- given tables has one list of replies and one end.
pub record RepliesAreUnique : Type 0 where
  pub steps : (limit : ℕ) (ends : Ends) → StepsAreUnique (book_rules limit ends)
  pub runs : (limit : ℕ) (ends : Ends) → RunsAreUnique (book_rules limit ends)

-- Over sound tables what is confirmed has right figures, of a version and an issue that are kept: so has each reply
-- of a step and of a run, each version and the last one of each trade, and each line of a list.
pub record ConfirmedFiguresAreRight : Type 0 where
  pub steps : (limit : ℕ) (ends : Ends) → StepsConfirmRight (book_rules limit ends) AreRightFigures
  pub runs : (limit : ℕ) (ends : Ends) → RunsConfirmRight (book_rules limit ends) AreRightFigures
  pub versions : VersionsAreRight AreRightFigures
  pub lasts : LastsAreRight AreRightFigures
  pub lists : PagesAreRight AreRightFigures

-- what is kept is answered again
abbrev pub WhatIsKeptIsAnsweredAgain : Type 0
WhatIsKeptIsAnsweredAgain = (limit : ℕ) (ends : Ends) → KeptIsAnsweredAgain (book_rules limit ends)

-- a refusal comes exactly if it has its cause
pub record EachRefusalHasItsCause : Type 0 where
  pub only : (limit : ℕ) (ends : Ends) → RefusalsHaveCauses (book_rules limit ends)
  pub always : (limit : ℕ) (ends : Ends) → CausesAreRefused (book_rules limit ends)

-- an entry has its reason
abbrev pub EntriesHaveReasons : Type 0
EntriesHaveReasons =
    (limit : ℕ) (ends : Ends) (tables : Tables) (asked : Command) (reply : Reply) (entry : Option Entry)
    → IsStepOver (book_rules limit ends) tables asked (record { reply = reply; entry = entry })
    → IsReasoned (book_rules limit ends) tables asked reply entry

-- an entry is made exactly if it has its reason
pub record EachEntryHasItsReason : Type 0 where
  pub only : EntriesHaveReasons
  pub answered : (limit : ℕ) (ends : Ends) → AreAcceptedOrRefused (book_rules limit ends)
  pub issues : (limit : ℕ) (ends : Ends) → ReasonedIssuesAreKept (book_rules limit ends)
  pub amendments : (limit : ℕ) (ends : Ends) → ReasonedAmendmentsAreKept (book_rules limit ends)
  pub versions : (limit : ℕ) (ends : Ends) → ReasonedVersionsAreKept (book_rules limit ends)

-- what a command that keeps nothing is answered
abbrev pub ConfirmationsAreOfLastVersions : Type 0
ConfirmationsAreOfLastVersions = (limit : ℕ) (ends : Ends) → LastsAreConfirmed (book_rules limit ends)

abbrev pub ListsArePages : Type 0
ListsArePages = (limit : ℕ) (ends : Ends) → PagesAreListed (book_rules limit ends)

abbrev pub QuotesAreRightAnswers : Type 0
QuotesAreRightAnswers = (limit : ℕ) (ends : Ends) → FiguresAreQuoted (book_rules limit ends)
