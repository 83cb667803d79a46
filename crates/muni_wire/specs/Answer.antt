-- The answers to requests (RFC 9112).
use Rattle.std.specs.Prelude.{ℕ, List, [], ◌∷◌, ◌++◌, codes, decimal, length, true, false}
use Rattle.muni_confirm.specs.Confirmation.{confirmation_text}
use Rattle.muni_confirm.specs.Details.{quoted_text}
use Rattle.muni_confirm.specs.declared.details.Details.{Details}
use Rattle.muni_confirm.specs.Refusal.{refusal_text}
use Rattle.muni_dec.specs.Line.{line}
use Rattle.muni_msg.specs.declared.command.Reply.{Reply}
use Rattle.muni_msg.specs.declared.command.Reply.TheVariants.{Added, Amended, Quoted, Listed, Confirmed, Refused}
use Rattle.muni_wire.specs.List.{list_text}
use Rattle.muni_wire.specs.HttpStatus.{code, phrase, status_of_reply, status_of_bad}
use Rattle.muni_wire_body.specs.declared.fault.Bad.{Bad}
use Rattle.muni_wire_body.specs.declared.fault.Bad.TheVariants as bad
use Rattle.muni_wire.specs.declared.status.HttpStatus.{HttpStatus}
use Rattle.muni_wire.specs.declared.status.HttpStatus.TheVariants as status

-- the end of a line of a head
abbrev pub crlf : List ℕ
crlf = 13 ∷ 10 ∷ []

-- a status: its number and its phrase
abbrev pub status_text : HttpStatus → List ℕ
status_text status = decimal (code status) ++ codes " " ++ phrase status

-- the first line of an answer
unfoldable pub status_line : HttpStatus → List ℕ
status_line status = codes "HTTP/1.1 " ++ status_text status ++ crlf

-- the header lines that tell what its text is, and how long
unfoldable pub text_lines : ℕ → List ℕ
text_lines size =
    codes "Content-Type: text/plain" ++ crlf ++ codes "Content-Length: " ++ decimal size ++ crlf

-- the end of the head of an answer
abbrev pub last_lines : List ℕ
last_lines = codes "Connection: close" ++ crlf ++ crlf

-- the head of an answer, with a header line more, or none
abbrev pub head : HttpStatus → List ℕ → ℕ → List ℕ
head status allow size = status_line status ++ text_lines size ++ allow ++ last_lines

-- an answer: its head and its text
abbrev pub answer : HttpStatus → List ℕ → List ℕ → List ℕ
answer status allow text = head status allow (length text) ++ text

-- an answer whose text is a line of its status
abbrev pub status_answer : HttpStatus → List ℕ → List ℕ
status_answer status allow = answer status allow (status_text status ++ 10 ∷ [])

-- the answer to a command that was done
abbrev pub success : List ℕ → List ℕ
success text = answer status.Success [] text

-- the text of an issue that is kept
abbrev pub added_text : List ℕ → List ℕ
added_text cusip = line (codes "ADDED" ∷ cusip ∷ [])

-- the text of later terms of an issue that are kept
abbrev pub amended_text : List ℕ → ℕ → List ℕ
amended_text cusip number = line (codes "AMENDED" ∷ cusip ∷ decimal number ∷ [])

-- the text of a reply, with what is shown after the figures of a quote
abbrev pub reply_text : Reply → Details → List ℕ
reply_text (Added cusip) details = added_text cusip
reply_text (Amended cusip number) details = amended_text cusip number
reply_text (Quoted issue asked figures shown) details = quoted_text figures asked details
reply_text (Listed lines) details = list_text lines.items
reply_text (Confirmed issue key number version) details = confirmation_text issue key number version
reply_text (Refused why) details = refusal_text why

-- the answer to a command
abbrev pub answer_to_reply : Reply → Details → List ℕ
answer_to_reply reply details = answer (status_of_reply reply) [] (reply_text reply details)

-- the header line that names the method that is allowed
abbrev pub allowed : Bad → List ℕ
allowed bad.BadRequest = []
allowed bad.NotFound = []
allowed (bad.NotAllowed true) = codes "Allow: POST" ++ crlf
allowed (bad.NotAllowed false) = codes "Allow: GET" ++ crlf
allowed bad.LengthRequired = []
allowed bad.TooLarge = []
allowed bad.HeadTooLarge = []

-- the answer to a request that is no command
abbrev pub answer_to_bad : Bad → List ℕ
answer_to_bad kind = status_answer (status_of_bad kind) (allowed kind)

-- the answer if the store has failed
abbrev pub unavailable : List ℕ
unavailable = status_answer status.Unavailable []
