-- The statuses of answers (RFC 9110, section 15).
use Rattle.std.specs.Prelude.{ℕ, List, [], unwrap_or}
use Rattle.http.specs.StatusCode.{reason_phrase}
use Rattle.muni_msg.specs.declared.command.Reply.{Reply}
use Rattle.muni_msg.specs.declared.command.Reply.TheVariants.{Added, Amended, Quoted, Listed, Confirmed, Refused}
use Rattle.muni_msg.specs.declared.refusal.Refusal.{Refusal}
use Rattle.muni_msg.specs.declared.refusal.Refusal.TheVariants as refusal
use Rattle.muni_wire_body.specs.declared.fault.Bad.{Bad}
use Rattle.muni_wire_body.specs.declared.fault.Bad.TheVariants as bad
use Rattle.muni_wire.specs.declared.status.HttpStatus.{HttpStatus}
use Rattle.muni_wire.specs.declared.status.HttpStatus.TheVariants as status

-- the number of a status
abbrev pub code : HttpStatus → ℕ
code status.Success = 200
code status.BadRequest = 400
code status.NotFound = 404
code status.NotAllowed = 405
code status.Conflict = 409
code status.LengthRequired = 411
code status.TooLarge = 413
code status.Unprocessable = 422
code status.HeadTooLarge = 431
code status.Unavailable = 503

-- its phrase, by the table of the numbers
abbrev pub phrase : HttpStatus → List ℕ
phrase status = unwrap_or (reason_phrase (code status)) []

-- what is unknown is not found, what stands against the book is a conflict
abbrev pub status_of_refusal : Refusal → HttpStatus
status_of_refusal refusal.UnknownIssue = status.NotFound
status_of_refusal refusal.UnknownTrade = status.NotFound
status_of_refusal (refusal.Conflict kept) = status.Conflict
status_of_refusal (refusal.BadTerms fault) = status.Unprocessable
status_of_refusal refusal.SettleOutside = status.Unprocessable
status_of_refusal (refusal.GivenOutOfRange range) = status.Unprocessable
status_of_refusal (refusal.YieldBelow date) = status.Unprocessable
status_of_refusal refusal.YieldAbove = status.Unprocessable
status_of_refusal (refusal.NoTime date) = status.Unprocessable
status_of_refusal (refusal.Undecided date boundary) = status.Unprocessable
status_of_refusal refusal.Canceled = status.Conflict
status_of_refusal (refusal.WrongNumber next) = status.Conflict
status_of_refusal refusal.VersionsFull = status.Conflict
status_of_refusal refusal.DeskFull = status.Conflict
status_of_refusal refusal.WrongBasis = status.Unprocessable

abbrev pub status_of_reply : Reply → HttpStatus
status_of_reply (Added cusip) = status.Success
status_of_reply (Amended cusip number) = status.Success
status_of_reply (Quoted issue asked figures shown) = status.Success
status_of_reply (Listed lines) = status.Success
status_of_reply (Confirmed issue key number version) = status.Success
status_of_reply (Refused why) = status_of_refusal why

abbrev pub status_of_bad : Bad → HttpStatus
status_of_bad bad.BadRequest = status.BadRequest
status_of_bad bad.NotFound = status.NotFound
status_of_bad (bad.NotAllowed post) = status.NotAllowed
status_of_bad bad.LengthRequired = status.LengthRequired
status_of_bad bad.TooLarge = status.TooLarge
status_of_bad bad.HeadTooLarge = status.HeadTooLarge
