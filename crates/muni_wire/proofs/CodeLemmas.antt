-- The statuses of refusals.
use Rattle.std.proofs.Common.{◌≡◌, refl}
use Rattle.muni_msg.specs.Refusal.{number_of}
use Rattle.muni_msg.specs.declared.command.Reply.TheVariants.{Refused}
use Rattle.muni_msg.specs.declared.refusal.Refusal.{Refusal}
use Rattle.muni_msg.specs.declared.refusal.Refusal.TheVariants.{UnknownIssue, UnknownTrade, Conflict, BadTerms, SettleOutside, GivenOutOfRange, YieldBelow, YieldAbove, NoTime, Undecided, Canceled, WrongNumber, VersionsFull, DeskFull, WrongBasis}
use Rattle.muni_wire.specs.HttpStatus.{code, status_of_reply}
use Rattle.muni_wire.specs.StatusLaws.{refusal_code}

pub refusals-have-codes : (why : Refusal) → code (status_of_reply (Refused why)) ≡ refusal_code (number_of why)
refusals-have-codes UnknownIssue = refl
refusals-have-codes UnknownTrade = refl
refusals-have-codes (Conflict kept) = refl
refusals-have-codes (BadTerms fault) = refl
refusals-have-codes SettleOutside = refl
refusals-have-codes (GivenOutOfRange range) = refl
refusals-have-codes (YieldBelow date) = refl
refusals-have-codes YieldAbove = refl
refusals-have-codes (NoTime date) = refl
refusals-have-codes (Undecided date boundary) = refl
refusals-have-codes Canceled = refl
refusals-have-codes (WrongNumber next) = refl
refusals-have-codes VersionsFull = refl
refusals-have-codes DeskFull = refl
refusals-have-codes WrongBasis = refl
