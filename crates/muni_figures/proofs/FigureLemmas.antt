-- The rows of an input, a group after another.
use Rattle.std.proofs.Common.{◌≡◌, ◌≢◌, ◌<◌, ◌≤◌, ◌+◌, ◌∙◌, ◌⊎◌, inl, inr, ℕ, List, [], ◌++◌, length, Option, Some, None, Result, Ok, Err, refl, sym, ap, subst, arith}
use Rattle.std.specs.Prelude.{IfSome, IsErrOf, IsOkUnless, OnErr, OnOk}
use Rattle.std.specs.Io.KnownBytes.{Consumes, IsAtEnd}
use Rattle.std.proofs.lemmas.List.{append-nil, append_assoc, length-append}
use Rattle.csv.specs.Reading.{strip_bom}
use Rattle.muni_edge.specs.Sink.{HasWritten, HasWrittenPart}
use Rattle.muni_edge.specs.declared.source.Source.{Ghosts}
use Rattle.muni_terms.specs.declared.row.IssueRow.{IssueRow}
use Rattle.muni_keep.specs.Tables.{Tables}
use Rattle.muni_desk_io.proofs.TakenLemmas.{taken-then}
use Rattle.muni_desk_io.specs.declared.fault.Fault.{Fault}
use Rattle.muni_desk_io.specs.declared.fault.Fault.TheVariants as fault
use Rattle.muni_figures.specs.Blocks.{IsLeft, Opens}
use Rattle.muni_figures.specs.Done.{AreDone, IsFiguresText, IsFirstText, no_tally, tally_sum}
use Rattle.muni_figures.specs.Figured.{DidRows, WroteFigures}
use Rattle.muni_figures.specs.Groups.{CutsAll, TakesGroup}
use Rattle.muni_figures.specs.Issues.{AreFound}
use Rattle.muni_figures.specs.Line.{total_line}
use Rattle.muni_figures.specs.Rows.{Row, rows_in, rows_of}
use Rattle.muni_figures.specs.Shares.{rows_of_shares}
use Rattle.muni_figures.specs.declared.blocks.LineBlocks.{LineBlocks}
use Rattle.muni_figures.specs.declared.blocks.Reading.{Reading}
use Rattle.muni_figures.specs.declared.blocks.Reading.TheVariants.{Open, Ended, Failed}
use Rattle.muni_figures.specs.declared.said.FiguresSaid.{FiguresSaid}
use Rattle.muni_figures.specs.declared.shares.Share.{Share}
use Rattle.muni_figures.specs.declared.tally.Tally.{Tally}
use Rattle.muni_figures.proofs.BlockLemmas.{few-opened, rows-opened}
use Rattle.muni_figures.proofs.DoneLemmas.{done-joined, done-none, done-rows}
use Rattle.muni_figures.proofs.WriteLemmas.{part-then, written-then}

-- ---- what has come of an input, by how far it was read
-- these rows were taken off the bytes that came, and the others are those of what is held and of what comes
abbrev pub IsCome : Reading → (came : List ℕ) → List Row → (held : List ℕ) → (now : Option (List ℕ)) → Type 0
IsCome Open came rows held now = (3 ≤ length came) × ((more : List ℕ) → rows_of (came ++ more) ≡ rows ++ rows_in (held ++ more))
IsCome Ended came rows held now = (rows_of came ≡ rows ++ rows_in held) × IsAtEnd now
IsCome Failed came rows held now = ⊥

-- and after a group
abbrev pub IsAfter : Reading → (came : List ℕ) → List Row → (held : List ℕ) → (now : Option (List ℕ)) → Type 0
IsAfter Open came rows held now = (3 ≤ length came) × ((more : List ℕ) → rows_of (came ++ more) ≡ rows ++ rows_in (held ++ more))
IsAfter Ended came rows held now = (rows_of came ≡ rows) × IsAtEnd now
IsAfter Failed came rows held now =
    ((more : List ℕ) → rows_of (came ++ more) ≡ rows ++ rows_in (held ++ more)) × (length (rows_in held) ≤ 1)

joined : (came piece more held middle : List ℕ) (rows next : List Row) → ((more : List ℕ) → rows_of (came ++ more) ≡ rows ++ rows_in (held ++ more))
    → rows_in ((held ++ piece) ++ more) ≡ next ++ rows_in (middle ++ more) → rows_of ((came ++ piece) ++ more) ≡ (rows ++ next) ++ rows_in (middle ++ more)
joined came piece more held middle rows next all cut =
    ap rows_of (append_assoc came piece more) ∙ all (piece ++ more)
    ∙ ap (λ l. rows ++ rows_in l) (sym (append_assoc held piece more)) ∙ ap (λ l. rows ++ l) cut
    ∙ sym (append_assoc rows next (rows_in (middle ++ more)))

longer : (came piece : List ℕ) → 3 ≤ length came → 3 ≤ length (came ++ piece)
longer came piece enough = omega (arith, enough, length-append came piece)

pub after-group : (was now : Reading) (came piece held middle : List ℕ) (rows next : List Row) (left right : Option (List ℕ)) → IsCome was came rows held left → CutsAll now (held ++ piece) next middle
    → (was ≢ Open → (now ≡ was) × (piece ≡ []) × (right ≡ left)) → (now ≡ Ended → was ≡ Open → IsAtEnd right) → IsAfter now (came ++ piece) (rows ++ next) middle right
after-group Open Open came piece held middle rows next left right is cuts over end =
    (longer came piece is.0, λ more. joined came piece more held middle rows next is.1 (cuts.all more))
after-group Open Failed came piece held middle rows next left right is cuts over end =
    (λ more. joined came piece more held middle rows next is.1 (cuts.all more), cuts.few)
after-group Open Ended came piece held middle rows next left right is cuts over end =
    (is.1 piece ∙ ap (λ l. rows ++ l) cuts.0, end refl refl)
after-group Ended Open came piece held middle rows next left right is cuts over end = absurd (cc (over (λ e. cc e)).0)
after-group Ended Failed came piece held middle rows next left right is cuts over end = absurd (cc (over (λ e. cc e)).0)
after-group Ended Ended came piece held middle rows next left right is cuts over end =
    let same = over (λ e. cc e) in
    let none = same.1 in (
      ap (λ l. rows_of (came ++ l)) none ∙ ap rows_of (append-nil came) ∙ is.0
          ∙ ap (λ l. rows ++ rows_in l) (sym (append-nil held) ∙ ap (λ l. held ++ l) (sym none)) ∙ ap (λ l. rows ++ l) cuts.0,
      subst IsAtEnd (sym same.2) is.1,
    )
after-group Failed now came piece held middle rows next left right is cuts over end = absurd is

-- the bytes of the whole text
whole-text : (text came : List ℕ) (now : Option (List ℕ)) → Consumes (Some text) now came → (rest : List ℕ) × (now ≡ Some rest) × (text ≡ came ++ rest)
whole-text text came None taken = absurd taken
whole-text text came (Some rest) taken = (rest, refl, taken)

-- its rows begin with those that were taken off
pub come-split : (reading : Reading) (text came : List ℕ) (rows : List Row) (held : List ℕ) (now : Option (List ℕ)) → Consumes (Some text) now came → IsCome reading came rows held now → (rest : List Row) × (rows ++ rest ≡ rows_of text)
come-split Open text came rows held now taken is =
    let parts = whole-text text came now taken in
    (rows_in (held ++ parts.0), sym (ap rows_of parts.2 ∙ is.1 parts.0))
come-split Ended text came rows held now taken is =
    let parts = whole-text text came now taken in
    let none : parts.0 ≡ [] = subst IsAtEnd parts.1 is.1 in
    (rows_in held, sym (ap rows_of (parts.2 ∙ ap (λ l. came ++ l) none ∙ append-nil came) ∙ is.0))
come-split Failed text came rows held now taken is = absurd is

pub after-split : (reading : Reading) (text came : List ℕ) (rows : List Row) (held : List ℕ) (now : Option (List ℕ)) → Consumes (Some text) now came → IsAfter reading came rows held now → (rest : List Row) × (rows ++ rest ≡ rows_of text)
after-split Open text came rows held now taken is =
    let parts = whole-text text came now taken in
    (rows_in (held ++ parts.0), sym (ap rows_of parts.2 ∙ is.1 parts.0))
after-split Ended text came rows held now taken is =
    let parts = whole-text text came now taken in
    let none : parts.0 ≡ [] = subst IsAtEnd parts.1 is.1 in
    ([], append-nil rows ∙ sym (ap rows_of (parts.2 ∙ ap (λ l. came ++ l) none ∙ append-nil came) ∙ is.0))
after-split Failed text came rows held now taken is =
    let parts = whole-text text came now taken in
    (rows_in (held ++ parts.0), sym (ap rows_of parts.2 ∙ is.0 parts.0))

-- ---- the lines so far
pub record IsSoFar (Answers : Row → FiguresSaid → Type 0) (before : List ℕ) (place : ℕ) (tally : Tally) (reading : Reading) (held : List ℕ) (all now had has : Option (List ℕ)) : Type 0 where
  pub came : List ℕ
  pub taken : Consumes all now came
  pub rows : List Row
  pub is : IsCome reading came rows held now
  pub lines : List ℕ
  pub done : AreDone Answers place rows lines tally
  pub written : HasWritten had has (before ++ lines)

pub so-far-start : (Answers : Row → FiguresSaid → Type 0) (before : List ℕ) (place : ℕ) (reading : Reading) (held came : List ℕ) (all now had has : Option (List ℕ)) → Consumes all now came → held ≡ strip_bom came
    → (reading ≡ Open → 3 ≤ length came) → (reading ≡ Ended → IsAtEnd now) → reading ≢ Failed → HasWritten had has before → IsSoFar Answers before place no_tally reading held all now had has
so-far-start Answers before place reading held came all now had has taken is enough end well written = record {
  came = came;
  taken = taken;
  rows = [];
  is = by reading enough end well;
  lines = [];
  done = done-none Answers place;
  written = subst (HasWritten had has) (sym (append-nil before)) written;
}
  where
    by : (reading : Reading) → (reading ≡ Open → 3 ≤ length came) → (reading ≡ Ended → IsAtEnd now) → reading ≢ Failed → IsCome reading came [] held now
    by Open enough end well = (enough refl, λ more. rows-opened came more (inl (enough refl)) ∙ ap (λ l. rows_in (l ++ more)) (sym is))
    by Ended enough end well = (ap rows_in (sym is), end refl)
    by Failed enough end well = absurd (well refl)

abbrev first-of : (Answers : Row → FiguresSaid → Type 0) (before : List ℕ) (place : ℕ) (rows rest all : List Row) (lines : List ℕ) (tally : Tally) → rows ++ rest ≡ all → AreDone Answers place rows lines tally → IsFirstText Answers before place all (before ++ lines)
first-of Answers before place rows rest all lines tally split done = record {
  rows = rows;
  left = rest;
  split = split;
  lines = lines;
  tally = tally;
  done = done;
  written = refl;
}

-- no memory was left before a group
pub so-far-no_memory : (Answers : Row → FiguresSaid → Type 0) (before : List ℕ) (place : ℕ) (tally : Tally) (reading : Reading) (held : List ℕ) (all now later had has : Option (List ℕ)) → IsSoFar Answers before place tally reading held all now had has
    → IfSome all (λ text. WroteFigures {T = Unit {0}} Answers before place text (Err fault.NoMemory) later had has)
so-far-no_memory Answers before place tally reading held None now later had has far = tt
so-far-no_memory Answers before place tally reading held (Some text) now later had has far =
    let split = come-split reading text far.came far.rows held now far.taken far.is in
    inl (before ++ far.lines, first-of Answers before place far.rows split.0 (rows_of text) far.lines tally split.1 far.done, far.written)

-- a group more
pub so-far-next : (Answers : Row → FiguresSaid → Type 0) (before : List ℕ) (place : ℕ) (tally these : Tally) (rows next : List Row) (lines more : List ℕ) (had mid has : Option (List ℕ)) → AreDone Answers place rows lines tally → HasWritten had mid (before ++ lines)
    → AreDone Answers (place + tally.rows) next more these → HasWritten mid has more
    → AreDone Answers place (rows ++ next) (lines ++ more) (tally_sum tally these) × HasWritten had has (before ++ (lines ++ more))
so-far-next Answers before place tally these rows next lines more had mid has done written then wrote = (
  done-joined Answers place (place + tally.rows) rows next lines more tally these refl done then,
  subst (HasWritten had has) (append_assoc before lines more) (written-then had mid has (before ++ lines) more written wrote),
)

-- ---- how a group ends
first-more : (Answers : Row → FiguresSaid → Type 0) (before : List ℕ) (place : ℕ) (rows next rest all : List Row) (lines text : List ℕ) (tally : Tally) → (rows ++ next) ++ rest ≡ all → AreDone Answers place rows lines tally
    → IsFirstText Answers [] (place + tally.rows) next text → IsFirstText Answers before place all (before ++ (lines ++ text))
first-more Answers before place rows next rest all lines text tally split done first = record {
  rows = rows ++ first.rows;
  left = first.left ++ rest;
  split = append_assoc rows first.rows (first.left ++ rest) ∙ ap (λ l. rows ++ l) (sym (append_assoc first.rows first.left rest) ∙ ap (λ l. l ++ rest) first.split) ∙ sym (append_assoc rows next rest) ∙ split;
  lines = lines ++ first.lines;
  tally = tally_sum tally first.tally;
  done = done-joined Answers place (place + tally.rows) rows first.rows lines first.lines tally first.tally refl done first.done;
  written = ap (λ l. before ++ (lines ++ l)) first.written;
}

wrote-more : (before lines text : List ℕ) (had mid has : Option (List ℕ)) → HasWritten had mid (before ++ lines) → HasWritten mid has text → HasWritten had has (before ++ (lines ++ text))
wrote-more before lines text had mid has written wrote =
    subst (HasWritten had has) (append_assoc before lines text) (written-then had mid has (before ++ lines) text written wrote)

pub group-fault : (Answers : Row → FiguresSaid → Type 0) (before : List ℕ) (place : ℕ) (tally : Tally) (why : Fault) (rows next rest : List Row) (lines text : List ℕ) (left had mid has : Option (List ℕ)) → (rows ++ next) ++ rest ≡ rows_of text
    → AreDone Answers place rows lines tally → HasWritten had mid (before ++ lines) → DidRows Answers place next tally (Err why) mid has → WroteFigures {T = Unit {0}} Answers before place text (Err why) left had has
group-fault Answers before place tally fault.Read rows next rest lines text left had mid has split done written did = absurd did
group-fault Answers before place tally fault.Write rows next rest lines text left had mid has split done written did = (
  before ++ (lines ++ did.0),
  inl (first-more Answers before place rows next rest (rows_of text) lines did.0 tally split done did.1),
  subst (HasWrittenPart had has) (append_assoc before lines did.0) (part-then had mid has (before ++ lines) did.0 written did.2),
)
group-fault Answers before place tally fault.Store rows next rest lines text left had mid has split done written did =
    inl (before ++ (lines ++ did.0), first-more Answers before place rows next rest (rows_of text) lines did.0 tally split done did.1, wrote-more before lines did.0 had mid has written did.2)
group-fault Answers before place tally fault.NoMemory rows next rest lines text left had mid has split done written did =
    inl (before ++ (lines ++ did.0), first-more Answers before place rows next rest (rows_of text) lines did.0 tally split done did.1, wrote-more before lines did.0 had mid has written did.2)
group-fault Answers before place tally fault.TooLarge rows next rest lines text left had mid has split done written did =
    let wrote = did.0 in (
      inl (before ++ (lines ++ wrote.0), first-more Answers before place rows next rest (rows_of text) lines wrote.0 tally split done wrote.1, wrote-more before lines wrote.0 had mid has written wrote.2),
      omega (arith, did.1, ap length split, length-append (rows ++ next) rest, length-append rows next, done-rows Answers place rows lines tally done),
    )

-- ---- how an input ends
total-text : (Answers : Row → FiguresSaid → Type 0) (before : List ℕ) (place : ℕ) (tally : Tally) (rows : List Row) (lines came text : List ℕ) (now : Option (List ℕ)) → Consumes (Some text) now came → rows_of came ≡ rows → IsAtEnd now → AreDone Answers place rows lines tally
    → IsFiguresText Answers before place (rows_of text) ((before ++ lines) ++ total_line tally.priced tally.sum tally.rows)
total-text Answers before place tally rows lines came text now taken is end done =
    let parts = whole-text text came now taken in
    let none : parts.0 ≡ [] = subst IsAtEnd parts.1 end in
    let all : rows ≡ rows_of text = sym is ∙ ap rows_of (sym (parts.2 ∙ ap (λ l. came ++ l) none ∙ append-nil came)) in
    record {
      lines = lines;
      tally = tally;
      done = subst (λ rows. AreDone Answers place rows lines tally) all done;
      written = refl;
    }

pub total-wrote : (result : Unit {0}) (Answers : Row → FiguresSaid → Type 0) (before : List ℕ) (place : ℕ) (tally : Tally) (rows : List Row) (lines came : List ℕ) (all now later had mid has : Option (List ℕ)) → Consumes all now came → rows_of came ≡ rows → IsAtEnd now
    → AreDone Answers place rows lines tally → HasWritten had mid (before ++ lines) → HasWritten mid has (total_line tally.priced tally.sum tally.rows) → IfSome all (λ text. WroteFigures Answers before place text (Ok result) later had has)
total-wrote result Answers before place tally rows lines came None now later had mid has taken is end done written wrote = tt
total-wrote result Answers before place tally rows lines came (Some text) now later had mid has taken is end done written wrote = (
  (before ++ lines) ++ total_line tally.priced tally.sum tally.rows,
  total-text Answers before place tally rows lines came text now taken is end done,
  written-then had mid has (before ++ lines) (total_line tally.priced tally.sum tally.rows) written wrote,
)

pub total-part : (Answers : Row → FiguresSaid → Type 0) (before : List ℕ) (place : ℕ) (tally : Tally) (rows : List Row) (lines came : List ℕ) (all now later had mid has : Option (List ℕ)) → Consumes all now came → rows_of came ≡ rows → IsAtEnd now
    → AreDone Answers place rows lines tally → HasWritten had mid (before ++ lines) → HasWrittenPart mid has (total_line tally.priced tally.sum tally.rows) → IfSome all (λ text. WroteFigures {T = Unit {0}} Answers before place text (Err fault.Write) later had has)
total-part Answers before place tally rows lines came None now later had mid has taken is end done written part = tt
total-part Answers before place tally rows lines came (Some text) now later had mid has taken is end done written part = (
  (before ++ lines) ++ total_line tally.priced tally.sum tally.rows,
  inr (total-text Answers before place tally rows lines came text now taken is end done),
  part-then had mid has (before ++ lines) (total_line tally.priced tally.sum tally.rows) written part,
)

pub read-failed : (Answers : Row → FiguresSaid → Type 0) (before : List ℕ) (place : ℕ) (tally : Tally) (rows : List Row) (lines came held : List ℕ) (all now had has : Option (List ℕ)) → Consumes all now came
    → ((more : List ℕ) → rows_of (came ++ more) ≡ rows ++ rows_in (held ++ more)) → length (rows_in held) ≤ 1 → AreDone Answers place rows lines tally → HasWritten had has (before ++ lines)
    → IfSome all (λ text. WroteFigures {T = Unit {0}} Answers before place text (Err fault.Read) now had has)
read-failed Answers before place tally rows lines came held None now had has taken is few done written = tt
read-failed Answers before place tally rows lines came held (Some text) now had has taken is few done written =
    let split : rows ++ rows_in held ≡ rows_of came = ap (λ l. rows ++ rows_in l) (sym (append-nil held)) ∙ sym (is []) ∙ ap rows_of (append-nil came) in
    record {
      came = came;
      taken = taken;
      lines = before ++ lines;
      first = first-of Answers before place rows (rows_in held) (rows_of came) lines tally split done;
      one = few;
      written = written;
    }

-- ---- the header, and the first bytes
abbrev none-first : (Answers : Row → FiguresSaid → Type 0) (before : List ℕ) (place : ℕ) (all : List Row) → IsFirstText Answers before place all (before ++ [])
none-first Answers before place all = first-of Answers before place [] all all [] no_tally refl (done-none Answers place)

pub header-fault : (Answers : Row → FiguresSaid → Type 0) (before : List ℕ) (place : ℕ) (all later had has : Option (List ℕ)) → HasWrittenPart had has before → IfSome all (λ text. WroteFigures {T = Unit {0}} Answers before place text (Err fault.Write) later had has)
header-fault Answers before place None later had has part = tt
header-fault Answers before place (Some text) later had has part =
    (before ++ [], inl (none-first Answers before place (rows_of text)), subst (HasWrittenPart had has) (sym (append-nil before)) part)

unread : (Answers : Row → FiguresSaid → Type 0) (before : List ℕ) (place : ℕ) (all later had has : Option (List ℕ)) (came : List ℕ) → Consumes all later came → length came < 3 → HasWritten had has before
    → IfSome all (λ text. WroteFigures {T = Unit {0}} Answers before place text (Err fault.Read) later had has)
unread Answers before place None later had has came taken few written = tt
unread Answers before place (Some text) later had has came taken few written = record {
  came = came;
  taken = taken;
  lines = before ++ [];
  first = none-first Answers before place (rows_of came);
  one = few-opened came few;
  written = subst (HasWritten had has) (sym (append-nil before)) written;
}

no-room : (Answers : Row → FiguresSaid → Type 0) (before : List ℕ) (place : ℕ) (all later had has : Option (List ℕ)) → HasWritten had has before → IfSome all (λ text. WroteFigures {T = Unit {0}} Answers before place text (Err fault.NoMemory) later had has)
no-room Answers before place None later had has written = tt
no-room Answers before place (Some text) later had has written =
    inl (before ++ [], none-first Answers before place (rows_of text), subst (HasWritten had has) (sym (append-nil before)) written)

pub open-fault : {I : Type 0} (source : Ghosts I) (Answers : Row → FiguresSaid → Type 0) (before : List ℕ) (place : ℕ) (why : Fault) (old new : I) (had has : Option (List ℕ)) → Opens source (Err why) old new → HasWritten had has before
    → IfSome (source.left old) (λ text. WroteFigures {T = Unit {0}} Answers before place text (Err why) (source.left new) had has)
open-fault source Answers before place fault.Read old new had has opens written = unread Answers before place (source.left old) (source.left new) had has opens.came opens.taken opens.few written
open-fault source Answers before place fault.NoMemory old new had has opens written = no-room Answers before place (source.left old) (source.left new) had has written
open-fault source Answers before place fault.Write old new had has opens written = absurd opens
open-fault source Answers before place fault.Store old new had has opens written = absurd opens
open-fault source Answers before place fault.TooLarge old new had has opens written = absurd opens

-- ---- after a group
pub record HasCome {I : Type 0} (source : Ghosts I) (now : LineBlocks) (rows : List Row) (first new : I) : Type 0 where
  pub came : List ℕ
  pub taken : Consumes (source.left first) (source.left new) came
  pub is : IsAfter now.reading came rows now.held.items (source.left new)

pub far-after : {I : Type 0} (source : Ghosts I) (Answers : Row → FiguresSaid → Type 0) (before : List ℕ) (place : ℕ) (tally : Tally) (blocks now : LineBlocks) (shares : List Share) (first old new : I) (had has : Option (List ℕ))
    → (far : IsSoFar Answers before place tally blocks.reading blocks.held.items (source.left first) (source.left old) had has) → TakesGroup source blocks now shares old new → HasCome source now (far.rows ++ rows_of_shares shares) first new
far-after source Answers before place tally blocks now shares first old new had has far group = record {
  came = far.came ++ group.piece;
  taken = taken-then (source.left first) (source.left old) (source.left new) far.came group.piece (far.came ++ group.piece) far.taken group.taken refl;
  is = after-group blocks.reading now.reading far.came group.piece blocks.held.items now.held.items far.rows (rows_of_shares shares) (source.left old) (source.left new) far.is group.cuts
      (λ done. let over = group.over done in (over.0, over.2, ap source.left over.1))
      (λ ended opened. (subst (λ r. IsLeft source r old new) ended (group.left opened)).0);
}

group-fault-by : (Answers : Row → FiguresSaid → Type 0) (before : List ℕ) (place : ℕ) (tally : Tally) (why : Fault) (reading : Reading) (held came : List ℕ) (rows next : List Row) (lines : List ℕ) (all now had mid has : Option (List ℕ))
    → Consumes all now came → IsAfter reading came (rows ++ next) held now → AreDone Answers place rows lines tally → HasWritten had mid (before ++ lines) → DidRows Answers place next tally (Err why) mid has
    → IfSome all (λ text. WroteFigures {T = Unit {0}} Answers before place text (Err why) now had has)
group-fault-by Answers before place tally why reading held came rows next lines None now had mid has taken is done written did = tt
group-fault-by Answers before place tally why reading held came rows next lines (Some text) now had mid has taken is done written did =
    let split = after-split reading text came (rows ++ next) held now taken is in
    group-fault Answers before place tally why rows next split.0 lines text now had mid has split.1 done written did

pub group-failed : {I : Type 0} (source : Ghosts I) (Answers : Row → FiguresSaid → Type 0) (before : List ℕ) (place : ℕ) (tally : Tally) (why : Fault) (blocks now : LineBlocks) (shares : List Share) (first old new : I) (had mid has : Option (List ℕ))
    → IsSoFar Answers before place tally blocks.reading blocks.held.items (source.left first) (source.left old) had mid → TakesGroup source blocks now shares old new → DidRows Answers place (rows_of_shares shares) tally (Err why) mid has
    → IfSome (source.left first) (λ text. WroteFigures {T = Unit {0}} Answers before place text (Err why) (source.left new) had has)
group-failed source Answers before place tally why blocks now shares first old new had mid has far group did =
    let after = far-after source Answers before place tally blocks now shares first old new had mid far group in
    group-fault-by Answers before place tally why now.reading now.held.items after.came far.rows (rows_of_shares shares) far.lines (source.left first) (source.left new) had mid has after.taken after.is far.done far.written did

-- the lines of the group too
pub record IsWritten (Answers : Row → FiguresSaid → Type 0) (before : List ℕ) (place : ℕ) (rows : List Row) (tally : Tally) (had has : Option (List ℕ)) : Type 0 where
  pub lines : List ℕ
  pub done : AreDone Answers place rows lines tally
  pub written : HasWritten had has (before ++ lines)

pub far-written : (Answers : Row → FiguresSaid → Type 0) (before : List ℕ) (place : ℕ) (tally next : Tally) (reading : Reading) (held : List ℕ) (rows : List Row) (all now had mid has : Option (List ℕ)) → (far : IsSoFar Answers before place tally reading held all now had mid)
    → DidRows Answers place rows tally (Ok next) mid has → IsWritten Answers before place (far.rows ++ rows) next had has
far-written Answers before place tally next reading held rows all now had mid has far (lines, these, done, is, written) =
    let more = so-far-next Answers before place tally these far.rows rows far.lines lines had mid has far.done far.written done written in
    record {
      lines = far.lines ++ lines;
      done = subst (AreDone Answers place (far.rows ++ rows) (far.lines ++ lines)) (sym is) more.0;
      written = more.1;
    }

pub open-next : {I : Type 0} (source : Ghosts I) (Answers : Row → FiguresSaid → Type 0) (before : List ℕ) (place : ℕ) (tally : Tally) (now : LineBlocks) (rows : List Row) (first new : I) (had has : Option (List ℕ)) → now.reading ≡ Open
    → HasCome source now rows first new → IsWritten Answers before place rows tally had has → IsSoFar Answers before place tally now.reading now.held.items (source.left first) (source.left new) had has
open-next source Answers before place tally now rows first new had has opened come wrote = record {
  came = come.came;
  taken = come.taken;
  rows = rows;
  is = subst (λ r. IsCome r come.came rows now.held.items (source.left new)) (sym opened) (subst (λ r. IsAfter r come.came rows now.held.items (source.left new)) opened come.is);
  lines = wrote.lines;
  done = wrote.done;
  written = wrote.written;
}

pub ended-wrote : {I : Type 0} (result : Unit {0}) (source : Ghosts I) (Answers : Row → FiguresSaid → Type 0) (before : List ℕ) (place : ℕ) (tally : Tally) (now : LineBlocks) (rows : List Row) (first new : I) (had mid has : Option (List ℕ)) → now.reading ≡ Ended
    → HasCome source now rows first new → IsWritten Answers before place rows tally had mid → HasWritten mid has (total_line tally.priced tally.sum tally.rows)
    → IfSome (source.left first) (λ text. WroteFigures Answers before place text (Ok result) (source.left new) had has)
ended-wrote result source Answers before place tally now rows first new had mid has ended come wrote total =
    let is = subst (λ r. IsAfter r come.came rows now.held.items (source.left new)) ended come.is in
    total-wrote result Answers before place tally rows wrote.lines come.came (source.left first) (source.left new) (source.left new) had mid has come.taken is.0 is.1 wrote.done wrote.written total

pub ended-part : {I : Type 0} (source : Ghosts I) (Answers : Row → FiguresSaid → Type 0) (before : List ℕ) (place : ℕ) (tally : Tally) (now : LineBlocks) (rows : List Row) (first new : I) (had mid has : Option (List ℕ)) → now.reading ≡ Ended
    → HasCome source now rows first new → IsWritten Answers before place rows tally had mid → HasWrittenPart mid has (total_line tally.priced tally.sum tally.rows)
    → IfSome (source.left first) (λ text. WroteFigures {T = Unit {0}} Answers before place text (Err fault.Write) (source.left new) had has)
ended-part source Answers before place tally now rows first new had mid has ended come wrote total =
    let is = subst (λ r. IsAfter r come.came rows now.held.items (source.left new)) ended come.is in
    total-part Answers before place tally rows wrote.lines come.came (source.left first) (source.left new) (source.left new) had mid has come.taken is.0 is.1 wrote.done wrote.written total

pub failed-read : {I : Type 0} (source : Ghosts I) (Answers : Row → FiguresSaid → Type 0) (before : List ℕ) (place : ℕ) (tally : Tally) (now : LineBlocks) (rows : List Row) (first new : I) (had has : Option (List ℕ)) → now.reading ≡ Failed
    → HasCome source now rows first new → IsWritten Answers before place rows tally had has → IfSome (source.left first) (λ text. WroteFigures {T = Unit {0}} Answers before place text (Err fault.Read) (source.left new) had has)
failed-read source Answers before place tally now rows first new had has failed come wrote =
    let is = subst (λ r. IsAfter r come.came rows now.held.items (source.left new)) failed come.is in
    read-failed Answers before place tally rows wrote.lines come.came now.held.items (source.left first) (source.left new) had has come.taken is.0 is.1 wrote.done wrote.written

-- without a failure no fault is counted
pub no-fault : {I : Type 0} (source : Ghosts I) (blocks now : LineBlocks) (shares : List Share) (first old new : I) → source.faults old ≡ source.faults first → TakesGroup source blocks now shares old new → now.reading ≢ Failed → source.faults new ≡ source.faults first
no-fault source blocks now shares first old new same group well = by blocks.reading refl
  where
    left : (r : Reading) → r ≢ Failed → IsLeft source r old new → source.faults new ≡ source.faults old
    left Open well is = is
    left Ended well is = is.1
    left Failed well is = absurd (well refl)

    by : (was : Reading) → blocks.reading ≡ was → source.faults new ≡ source.faults first
    by Open is = left now.reading well (group.left is) ∙ same
    by Ended is = ap source.faults (group.over (λ opened. cc (sym opened ∙ is))).1 ∙ same
    by Failed is = ap source.faults (group.over (λ opened. cc (sym opened ∙ is))).1 ∙ same

pub ended-by : {I : Type 0} (source : Ghosts I) (Answers : Row → FiguresSaid → Type 0) (before : List ℕ) (place : ℕ) (tally : Tally) (now : LineBlocks) (rows : List Row) (first new : I) (had mid has : Option (List ℕ)) (result : Result (Unit {0}) Fault) → now.reading ≡ Ended
    → HasCome source now rows first new → IsWritten Answers before place rows tally had mid → OnOk result (HasWritten mid has (total_line tally.priced tally.sum tally.rows)) → OnErr result (HasWrittenPart mid has (total_line tally.priced tally.sum tally.rows)) → IsOkUnless result fault.Write
    → IfSome (source.left first) (λ text. WroteFigures Answers before place text result (source.left new) had has)
ended-by source Answers before place tally now rows first new had mid has (Ok done) ended come wrote ok part only =
    ended-wrote done source Answers before place tally now rows first new had mid has ended come wrote ok
ended-by source Answers before place tally now rows first new had mid has (Err why) ended come wrote ok part only =
    subst (λ why. IfSome (source.left first) (λ text. WroteFigures {T = Unit {0}} Answers before place text (Err why) (source.left new) had has)) (sym only)
    (ended-part source Answers before place tally now rows first new had mid has ended come wrote part)

pub none-found : (told : Option Tables) (issue : List ℕ → Option IssueRow) → ((cusip : List ℕ) → issue cusip ≡ None) → IfSome told (λ t. AreFound t issue)
none-found None issue none = tt
none-found (Some t) issue none = λ cusip some. absurd (cc (some, none cusip))

pub left-same : {I : Type 0} (source : Ghosts I) (reading : Reading) (old new : I) → reading ≢ Failed → IsLeft source reading old new → source.faults new ≡ source.faults old
left-same source Open old new well left = left
left-same source Ended old new well left = left.1
left-same source Failed old new well left = absurd (well refl)

pub only-puts : (had has : ℕ) (tally : Tally) → (has ≡ had) ⊎ IsErrOf {T = Tally} {E = Fault} (Ok tally) fault.Write → has ≡ had
only-puts had has tally (inl same) = same
only-puts had has tally (inr failed) = absurd (cc failed)
