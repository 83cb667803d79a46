-- The laws of the book.
use Rattle.std.proofs.Common.{◌≡◌, sym, ap, ◌∙◌, arith, ℕ, Some, None, List}
use Rattle.std.specs.Option.{unwrap_or}
use Rattle.std.specs.FinMap.{empty, get, get-empty, len-empty}
use Rattle.muni_msg.specs.declared.command.Key.{Key}
use Rattle.muni_msg.specs.declared.version.Version.{Version}
use Rattle.muni_keep.specs.History.{History}
use Rattle.muni_keep.specs.Tables.{no_tables, trade_at}
use Rattle.muni_keep.specs.Trades.{by_bytes, own}
use Rattle.muni_answer.proofs.RightLemmas.{answered-right}
use Rattle.muni_answer.proofs.UniqueLemmas.{answers-unique}
use Rattle.muni_book.specs.Rules.{book_rules}
use Rattle.muni_answer.specs.RightFigures.{AreRightFigures}
use Rattle.muni_book.specs.SoundTables.{AreSoundTables}
use Rattle.muni_book_step.proofs.OutcomeLemmas.{step-reason}
use Rattle.muni_book.specs.RunLaws.{TablesAreSound, ConfirmedFiguresAreRight, AcceptedCommandsActOnce, WhatIsKeptIsAnsweredAgain, NothingKeptIsLost, EachDeskIsIsolated, RepliesAreUnique, EachEntryHasItsReason, EachRefusalHasItsCause, ConfirmationsAreOfLastVersions, ListsArePages, QuotesAreRightAnswers, WhatWasConfirmedStays}
use Rattle.muni_book.proofs.StepLemmas.{refusals-caused, causes-refused, accepted-or-refused, issues-kept, versions-kept, kept-again, amendments-kept}
use Rattle.muni_book.proofs.LookUpLemmas.{lasts-confirmed, pages-listed, figures-quoted}
use Rattle.muni_book.proofs.RightReplyLemmas.{versions-right, lasts-right, pages-right, steps-right, runs-right}
use Rattle.muni_book.proofs.IsolationLemmas.{desks-isolated}
use Rattle.muni_book.proofs.KeepLemmas.{runs-keep}
use Rattle.muni_book.proofs.OnceLemmas.{act-once, confirmations-stay}
use Rattle.muni_book.proofs.SoundLemmas.{runs-stay-sound}
use Rattle.muni_book.proofs.ReplyLemmas.{steps-unique, runs-unique}

no-own : (desk : List ℕ) → own {V = Version} desk no_tables.desks ≡ empty
no-own desk = ap (λ trades. unwrap_or trades empty) (get-empty by_bytes desk)

no-trade : (key : Key) → trade_at no_tables key ≡ None
no-trade key = ap (λ trades. get trades key.reference) (no-own key.desk) ∙ get-empty by_bytes key.reference

empty-sound : AreSoundTables no_tables
empty-sound = record {
  issues = λ cusip issue kept. absurd (let never : None ≡ Some issue = sym (get-empty by_bytes cusip) ∙ kept in cc);
  trades = λ key history kept. absurd (let never : None ≡ Some history = sym (no-trade key) ∙ kept in cc);
  few = λ desk. rw (no-own desk, len-empty by_bytes (History Version)) (omega arith);
}

pub sound : TablesAreSound
sound = record {
  first = empty-sound;
  later = λ limit ends. runs-stay-sound (book_rules limit ends) AreRightFigures (λ row asked figures is. answered-right ends row asked figures is);
}

pub once : AcceptedCommandsActOnce
once limit ends = act-once (book_rules limit ends)

pub kept : NothingKeptIsLost
kept limit ends = runs-keep (book_rules limit ends)

pub stays : WhatWasConfirmedStays
stays limit ends = confirmations-stay (book_rules limit ends)

pub isolated : EachDeskIsIsolated
isolated limit ends = desks-isolated (book_rules limit ends)

pub unique : RepliesAreUnique
unique = record {
  steps = λ limit ends. steps-unique (book_rules limit ends) (λ row asked answer other is also. answers-unique ends row asked answer other is also);
  runs = λ limit ends. runs-unique (book_rules limit ends) (λ row asked answer other is also. answers-unique ends row asked answer other is also);
}

pub confirmed : ConfirmedFiguresAreRight
confirmed = record {
  steps = λ limit ends. steps-right (book_rules limit ends) AreRightFigures (λ row asked figures is. answered-right ends row asked figures is);
  runs = λ limit ends. runs-right (book_rules limit ends) AreRightFigures (λ row asked figures is. answered-right ends row asked figures is);
  versions = versions-right AreRightFigures;
  lasts = lasts-right AreRightFigures;
  lists = pages-right AreRightFigures;
}

pub again : WhatIsKeptIsAnsweredAgain
again limit ends = kept-again (book_rules limit ends)

pub caused : EachRefusalHasItsCause
caused = record {
  only = λ limit ends. refusals-caused (book_rules limit ends);
  always = λ limit ends. causes-refused (book_rules limit ends) (λ row asked answer other is also. answers-unique ends row asked answer other is also);
}

pub reasoned : EachEntryHasItsReason
reasoned = record {
  only = λ limit ends t c reply entry step. step-reason (book_rules limit ends) t c reply entry step;
  answered = λ limit ends. accepted-or-refused (book_rules limit ends);
  issues = λ limit ends. issues-kept (book_rules limit ends);
  amendments = λ limit ends. amendments-kept (book_rules limit ends);
  versions = λ limit ends. versions-kept (book_rules limit ends) (λ row asked answer other is also. answers-unique ends row asked answer other is also);
}

pub lasts : ConfirmationsAreOfLastVersions
lasts limit ends = lasts-confirmed (book_rules limit ends)

pub pages : ListsArePages
pages limit ends = pages-listed (book_rules limit ends)

pub quotes : QuotesAreRightAnswers
quotes limit ends = figures-quoted (book_rules limit ends)
