-- What is answered to a look at the tables.
use Rattle.std.specs.Prelude.{ℕ, List, Option, Some, None, option_map}
use Rattle.muni_terms.specs.declared.row.IssueRow.{IssueRow}
use Rattle.muni_msg.specs.declared.command.Key.{Key}
use Rattle.muni_msg.specs.declared.command.Reply.{Reply}
use Rattle.muni_msg.specs.declared.command.Reply.TheVariants as reply
use Rattle.muni_msg.specs.declared.refusal.Refusal.TheVariants.{UnknownIssue, UnknownTrade, DeskFull}
use Rattle.muni_msg.specs.declared.version.Version.{Version}
use Rattle.muni_confirm.specs.Details.{no_details}
use Rattle.muni_keep.specs.History.{versions}
use Rattle.muni_keep.specs.Tables.{Tables, issue_history, version_at, latest_at}
use Rattle.muni_book_step.specs.Plan.{issue_of}
use Rattle.muni_desk_export.specs.Issues.{issue_rows}
use Rattle.muni_position.specs.Line.{summed_text}
use Rattle.muni_wire.specs.Answer.{answer_to_reply, success}
use Rattle.muni_wire.specs.HttpStatus.{code, status_of_reply}
use Rattle.muni_wire_body.specs.declared.look.Look.{Look}
use Rattle.muni_wire_body.specs.declared.look.Look.TheVariants as look
use Rattle.muni_wire.specs.declared.status.HttpStatus.{HttpStatus}
use Rattle.muni_wire.specs.declared.status.HttpStatus.TheVariants.{Success}
use Rattle.muni_desk_serve.specs.Answer.{Answer, reply_answer}
use Rattle.muni_desk_serve.specs.declared.looks.Seen.{Seen}
use Rattle.muni_desk_serve.specs.declared.looks.Seen.TheVariants as seen

-- the rows of all terms of an issue, if it is kept
abbrev pub kept_rows : Tables → List ℕ → Option (List ℕ)
kept_rows tables cusip = option_map (λ history. issue_rows (versions history)) (issue_history tables cusip)

-- the answer with them
abbrev pub issue_answer : Option (List ℕ) → Answer
issue_answer None = reply_answer (reply.Refused UnknownIssue) no_details
issue_answer (Some rows) = record { status = code Success; bytes = success rows }

-- the confirmation of a version, if the terms of its issue by which it was figured are kept
abbrev pub version_confirmed : Key → ℕ → Version → Option IssueRow → Reply
version_confirmed key number version None = reply.Refused UnknownIssue
version_confirmed key number version (Some issue) = reply.Confirmed issue key number version

-- and if it is kept itself
abbrev pub version_shown : Tables → Key → ℕ → Option Version → Reply
version_shown tables key number None = reply.Refused UnknownTrade
version_shown tables key number (Some version) =
    version_confirmed key number version (issue_of tables.issues version)

-- the lines of positions, unless the desk has more trades than are summed
abbrev pub positions_answer : Option (List ℕ) → Answer
positions_answer None = reply_answer (reply.Refused DeskFull) no_details
positions_answer (Some text) = record { status = code Success; bytes = success text }

abbrev pub look_answer : Tables → Look → Answer
look_answer tables (look.Issue cusip) = issue_answer (kept_rows tables cusip)
look_answer tables (look.Version key number) =
    reply_answer (version_shown tables key number (version_at tables key number)) no_details
look_answer tables (look.Positions desk) = positions_answer (summed_text desk tables)
look_answer tables (look.Latest desk) =
    reply_answer (reply.Listed (record { items = latest_at tables desk })) no_details

-- the answer with what was found
abbrev pub seen_status : Seen → HttpStatus
seen_status (seen.Reply reply) = status_of_reply reply
seen_status (seen.Answer answer) = Success

abbrev pub seen_bytes : Seen → List ℕ
seen_bytes (seen.Reply reply) = answer_to_reply reply no_details
seen_bytes (seen.Answer answer) = answer.items

abbrev pub seen_answer : Seen → Answer
seen_answer found = record { status = code (seen_status found); bytes = seen_bytes found }
