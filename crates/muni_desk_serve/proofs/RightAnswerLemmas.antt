-- Connections that are served over sound tables have right answers.
use Rattle.std.proofs.Common.{List, ◌∙◌, refl, ap, inl, inr}
use Rattle.std.specs.Prelude.{All}
use Rattle.std.proofs.lemmas.List.Elements.{All-nil, All-cons, All-head, All-tail}
use Rattle.muni_msg.specs.declared.command.Command.{Command}
use Rattle.muni_msg.specs.declared.command.Reply.{Reply}
use Rattle.muni_msg.specs.declared.command.Reply.TheVariants.{Added, Amended, Quoted, Listed, Confirmed, Refused}
use Rattle.muni_confirm.specs.Details.{no_details}
use Rattle.muni_confirm.specs.declared.details.Details.{Details}
use Rattle.muni_keep.specs.Tables.{Tables}
use Rattle.muni_wire.specs.Answer.{reply_text}
use Rattle.muni_desk_serve.specs.Rules.{serving_rules}
use Rattle.muni_answer.specs.RightFigures.{AreRightFigures}
use Rattle.muni_book.specs.RightReplies.{IsRightReply}
use Rattle.muni_book.specs.RunLaws.{ConfirmedFiguresAreRight}
use Rattle.muni_desk_serve.specs.Answer.{AreBeside, reply_answer}
use Rattle.muni_desk_serve.specs.Connections.{Exchange}
use Rattle.muni_desk_serve.specs.Follow.{Follow, nothing, unreplied, replied}
use Rattle.muni_desk_serve.specs.Laws.{AnswersAreRight, VersionsAreShownRight}
use Rattle.muni_desk_serve.specs.Look.{version_shown, version_confirmed}
use Rattle.muni_desk_serve.specs.RightAnswers.{IsRightText, IsAnsweredRight}
use Rattle.muni_desk_serve.proofs.RunLemmas.{connections-run}

right-text : (t : Tables) (reply : Reply) (details : Details) → IsRightReply AreRightFigures t reply → AreBeside reply details → IsRightText t reply (reply_text reply details)
right-text t (Added cusip) details right beside = refl
right-text t (Amended cusip number) details right beside = refl
right-text t (Quoted issue asked figures shown) details right beside = (right.0, right.1, details, beside, refl)
right-text t (Listed lines) details right beside = refl
right-text t (Confirmed issue key number version) details right beside = (right, refl)
right-text t (Refused why) details right beside = refl

answered-right : (t : Tables) {exchanges : List Exchange} {commands : List Command} {replies : List Reply} → Follow exchanges commands replies → All (IsRightReply AreRightFigures t) replies → All (IsAnsweredRight t) exchanges
answered-right t nothing all = All-nil (IsAnsweredRight t)
answered-right t (unreplied first others commands replies none follow) all =
    All-cons (IsAnsweredRight t) first others (inl none) (answered-right t follow all)
answered-right t (replied first command reply others commands replies has follow) all =
    All-cons (IsAnsweredRight t) first others
    (inr (record {
      command = command;
      reply = reply;
      asks = has.asks;
      answered = λ status was.
          let of = has.answer status was in
          (reply_text reply of.0, right-text t reply of.0 (All-head (IsRightReply AreRightFigures t) reply replies all) of.1, of.2);
    }))
    (answered-right t follow (All-tail (IsRightReply AreRightFigures t) reply replies all))

pub answers-right : ConfirmedFiguresAreRight → AnswersAreRight
answers-right right limit ends old exchanges new faults few sound served =
    let run = connections-run (serving_rules limit ends) old exchanges new faults served in
    let last = run.2.0 in
    (last, run.2.1, answered-right last run.3 (right.runs limit ends few old last run.0 run.1 sound run.2.2))

pub versions-shown-right : ConfirmedFiguresAreRight → VersionsAreShownRight
versions-shown-right right t key number version sound there =
    let found = right.versions t key number version sound there in
    record {
      issue = found.0;
      right = found.1;
      shown = ap (λ v. reply_answer (version_shown t key number v) no_details) there
          ∙ ap (λ i. reply_answer (version_confirmed key number version i) no_details) found.1.issue_kept;
    }
