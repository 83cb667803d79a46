-- Each status has a phrase, and that is short.
use Rattle.std.proofs.Common.{◌≢◌, ◌≤◌, None, length, arith}
use Rattle.http.specs.StatusCode.{reason_phrase}
use Rattle.muni_wire.specs.HttpStatus.{code, phrase}
use Rattle.muni_wire.specs.declared.status.HttpStatus.{HttpStatus}
use Rattle.muni_wire.specs.declared.status.HttpStatus.TheVariants as status

pub phrase_there : (s : HttpStatus) → reason_phrase (code s) ≢ None
phrase_there status.Success = λ e. cc e
phrase_there status.BadRequest = λ e. cc e
phrase_there status.NotFound = λ e. cc e
phrase_there status.NotAllowed = λ e. cc e
phrase_there status.Conflict = λ e. cc e
phrase_there status.LengthRequired = λ e. cc e
phrase_there status.TooLarge = λ e. cc e
phrase_there status.Unprocessable = λ e. cc e
phrase_there status.HeadTooLarge = λ e. cc e
phrase_there status.Unavailable = λ e. cc e

pub phrase_short : (s : HttpStatus) → length (phrase s) ≤ 31
phrase_short status.Success = omega arith
phrase_short status.BadRequest = omega arith
phrase_short status.NotFound = omega arith
phrase_short status.NotAllowed = omega arith
phrase_short status.Conflict = omega arith
phrase_short status.LengthRequired = omega arith
phrase_short status.TooLarge = omega arith
phrase_short status.Unprocessable = omega arith
phrase_short status.HeadTooLarge = omega arith
phrase_short status.Unavailable = omega arith
