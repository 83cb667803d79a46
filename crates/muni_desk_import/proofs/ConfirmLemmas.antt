-- The confirmation of a trade, by its last version and the terms of its issue by which that was figured.
use Rattle.std.proofs.Common.{◌≡◌, inl, inr, ◌∙◌, ℕ, List, Option, Some, None, IfSome, sym, ap}
use Rattle.muni_keep.specs.Tables.{Tables, last_at}
use Rattle.muni_book_step.specs.Plan.{issue_of}
use Rattle.muni_terms.specs.declared.row.IssueRow.{IssueRow}
use Rattle.muni_msg.specs.declared.command.Key.{Key}
use Rattle.muni_msg.specs.declared.command.Reply.{Reply}
use Rattle.muni_msg.specs.declared.command.Reply.TheVariants as reply
use Rattle.muni_msg.specs.declared.refusal.Refusal.{Refusal}
use Rattle.muni_msg.specs.declared.version.Version.{Version}
use Rattle.muni_confirm.specs.Confirmation.{confirmation_text}
use Rattle.muni_confirm.specs.Refusal.{refusal_text}
use Rattle.muni_book.specs.LookUps.{ConfirmsLast}
use Rattle.muni_book.specs.RunLaws.{ConfirmationsAreOfLastVersions, ConfirmedFiguresAreRight}
use Rattle.muni_desk_import.specs.Confirm.{Answer, confirmed, of_last, of_version}
use Rattle.muni_desk_import.specs.Laws.{answer_of, ConfirmationsAreSteps, ConfirmationsAreRight}
use Rattle.muni_desk_import.specs.declared.confirmations.Answered.TheVariants.{Confirmed, Refused}

pub kept-confirmed : (told : Option Tables) (key : Key) (number : ℕ) (version : Version) (issue : IssueRow) (text : List ℕ)
    → IfSome told (λ t. Some (number, version) ≡ last_at t key) → IfSome told (λ t. Some issue ≡ issue_of t.issues version)
    → text ≡ confirmation_text issue key number version → IfSome told (λ t. confirmed t key ≡ record { answered = Confirmed; text = text })
unfolding confirmed
kept-confirmed None key number version issue text last kept is = tt
kept-confirmed (Some t) key number version issue text last kept is =
    let answer : List ℕ → Answer = λ text. record { answered = Confirmed; text = text } in
    ap (of_last t key) (sym last) ∙ ap (of_version key number version) (sym kept) ∙ ap answer (sym is)

-- ---- what is printed is what a step replies
confirmed-last : (t : Tables) (key : Key) (number : ℕ) (version : Version) (issue : IssueRow) → last_at t key ≡ Some (number, version) → issue_of t.issues version ≡ Some issue
    → confirmed t key ≡ record { answered = Confirmed; text = confirmation_text issue key number version }
unfolding confirmed
confirmed-last t key number version issue last known = ap (of_last t key) last ∙ ap (of_version key number version) known

refused-last : (t : Tables) (key : Key) (why : Refusal) → ConfirmsLast t key (reply.Refused why) → confirmed t key ≡ record { answered = Refused; text = refusal_text why }
unfolding confirmed
refused-last t key why (inl (is, none)) =
    let answer : Refusal → Answer = λ why. record { answered = Refused; text = refusal_text why } in
    ap (of_last t key) none ∙ ap answer (sym is)
refused-last t key why (inr (is, last, there, none)) =
    let answer : Refusal → Answer = λ why. record { answered = Refused; text = refusal_text why } in
    ap (of_last t key) there ∙ ap (of_version key last.0 last.1) none ∙ ap answer (sym is)

printed : (t : Tables) (key : Key) (told : Reply) → ConfirmsLast t key told → answer_of told ≡ Some (confirmed t key)
printed t key (reply.Added cusip) is = absurd is
printed t key (reply.Amended cusip number) is = absurd is
printed t key (reply.Quoted issue asked figures shown) is = absurd is
printed t key (reply.Listed lines) is = absurd is
printed t key (reply.Confirmed issue other number version) is =
    let answer : Key → Answer = λ key. record { answered = Confirmed; text = confirmation_text issue key number version } in
    ap (λ k. Some (answer k)) is.0 ∙ ap (λ a. Some a) (sym (confirmed-last t key number version issue is.1 is.2))
printed t key (reply.Refused why) is = ap (λ a. Some a) (sym (refused-last t key why is))

pub confirmations-steps : ConfirmationsAreOfLastVersions → ConfirmationsAreSteps
confirmations-steps lasts limit ends t key told entry step =
    let is = lasts limit ends t key told entry step in
    record { printed = printed t key told is.0; none_added = is.1 }

pub confirmations-right : ConfirmedFiguresAreRight → ConfirmationsAreRight
confirmations-right right t key number version sound last =
    let found = right.lasts t key number version sound last in
    record { issue = found.0; right = found.1; printed = confirmed-last t key number version found.0 last found.1.issue_kept }
