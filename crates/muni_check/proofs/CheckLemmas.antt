-- An input that is checked a block after another.
use Rattle.std.proofs.Common.{◌≡◌, ◌≤◌, ◌+◌, ◌^◌, ◌∙◌, ℕ, List, [], ◌∷◌, ◌++◌, length, Bool, true, false, Option, Some, None, Result, Ok, Err, inl, inr, refl, sym, ap, subst, arith}
use Rattle.std.specs.Prelude.{IfSome}
use Rattle.std.specs.Io.KnownBytes.{Consumes, IsAtEnd}
use Rattle.std.proofs.lemmas.List.{append_assoc, append-nil, length-append}
use Rattle.muni_edge.specs.Sink.{HasWritten, HasWrittenPart}
use Rattle.muni_import.specs.declared.row.RowFault.{RowFault}
use Rattle.muni_desk_io.specs.declared.fault.Fault.{Fault}
use Rattle.muni_desk_io.specs.declared.fault.Fault.TheVariants.{Read, Write, Store, NoMemory, TooLarge}
use Rattle.muni_desk_io.proofs.TakenLemmas.{taken-then}
use Rattle.muni_check.specs.Answer.{IsAnswer, Over}
use Rattle.muni_check.specs.Checked.{IsFirstText, WroteChecked}
use Rattle.muni_check.specs.GoesOn.{DoesBlock, HasBadNames, IsOfRows}
use Rattle.std.specs.Global.{Vec}
use Rattle.muni_check.specs.Ends.{RefusesNames, WritesEnd}
use Rattle.muni_check.specs.Next.{Cuts}
use Rattle.muni_check.specs.declared.command.CheckEnd.{CheckEnd}
use Rattle.muni_check_rows.specs.Rows.{records_of}
use Rattle.muni_check.specs.declared.rows.BlockDone.TheVariants.{Lines, BadNames}
use Rattle.muni_check.specs.declared.rows.SoFar.{SoFar}
use Rattle.muni_check_rows.specs.declared.tally.Tally.{Tally}
use Rattle.muni_check.specs.Named.{place_in}
use Rattle.muni_check.proofs.GoLemmas.{rows-after, told-long}
use Rattle.muni_check.proofs.StateLemmas.{AreDone, block-done, done-lines}
use Rattle.muni_check.proofs.WriteLemmas.{written-more, written-part}

-- these records of an input are done and their lines written, and these bytes are held
pub record IsAt (over : Over) (first left : Option (List ℕ)) (held : List ℕ) (so_far : SoFar) (had has : Option (List ℕ)) : Type 0 where
  pub came : List ℕ
  pub taken : Consumes first left came
  pub done : List (List (List ℕ))
  pub split : (more : List ℕ) → records_of (came ++ more) ≡ done ++ records_of (held ++ more)
  pub few : length (records_of held) ≤ 1
  pub lines : List ℕ
  pub are : AreDone over done so_far lines
  pub written : HasWritten had has lines

-- what is left of an input whose bytes are known
pub text-left : (text : List ℕ) (left : Option (List ℕ)) (came : List ℕ) → Consumes (Some text) left came → (rest : List ℕ) × (left ≡ Some rest) × (text ≡ came ++ rest)
text-left text None came taken = absurd taken
text-left text (Some rest) came taken = (rest, refl, taken)

-- the lines so far are a first part of the answer
first-part : (over : Over) (text : List ℕ) (left : Option (List ℕ)) (held : List ℕ) (so_far : SoFar) (had has : Option (List ℕ)) → (at_ : IsAt over (Some text) left held so_far had has)
    → IsFirstText over (records_of text) at_.lines
first-part over text left held so_far had has at_ =
    let rest = text-left text left at_.came at_.taken in
    record {
      done = at_.done;
      left = records_of (held ++ rest.0);
      split = sym (ap records_of rest.2 ∙ at_.split rest.0);
      lines = done-lines over at_.done so_far at_.lines at_.are;
    }

-- the input failed
pub check-unread : (over : Over) (first left now : Option (List ℕ)) (held : List ℕ) (so_far : SoFar) (had has : Option (List ℕ)) → IsAt over first left held so_far had has → now ≡ left
    → IfSome first (λ text. WroteChecked over text (Err Read) now had has)
check-unread over None left now held so_far had has at_ same = tt
check-unread over (Some text) left now held so_far had has at_ same = record {
  came = at_.came;
  taken = subst (λ l. Consumes (Some text) l at_.came) (sym same) at_.taken;
  lines = at_.lines;
  first = record {
    done = at_.done;
    left = records_of held;
    split = ap (λ l. at_.done ++ records_of l) (sym (append-nil held)) ∙ sym (at_.split []) ∙ ap records_of (append-nil at_.came);
    lines = done-lines over at_.done so_far at_.lines at_.are;
  };
  one = at_.few;
  written = at_.written;
}

-- no memory was left
pub check-stopped : (over : Over) (first left now : Option (List ℕ)) (held : List ℕ) (so_far : SoFar) (had has : Option (List ℕ)) → IsAt over first left held so_far had has
    → IfSome first (λ text. WroteChecked over text (Err NoMemory) now had has)
check-stopped over None left now held so_far had has at_ = tt
check-stopped over (Some text) left now held so_far had has at_ = (at_.lines, inl (first-part over text left held so_far had has at_), at_.written)

-- ---- a block is taken
-- its records come after those that are done, and what is held after them; at the end nothing is left
abbrev pub IsCut : (ended : Bool) → (came : List ℕ) → (done : List (List (List ℕ))) → (block held : List ℕ) → Option (List ℕ) → Type 0
IsCut false came done block held left =
    ((more : List ℕ) → records_of (came ++ more) ≡ (done ++ records_of block) ++ records_of (held ++ more)) × (length (records_of held) ≤ 1)
IsCut true came done block held left = (records_of came ≡ done ++ records_of block) × IsAtEnd left

pub record IsTaken (over : Over) (first left : Option (List ℕ)) (ended : Bool) (block held : List ℕ) (so_far : SoFar) (had has : Option (List ℕ)) : Type 0 where
  pub came : List ℕ
  pub taken : Consumes first left came
  pub done : List (List (List ℕ))
  pub cut : IsCut ended came done block held left
  pub lines : List ℕ
  pub are : AreDone over done so_far lines
  pub written : HasWritten had has lines

abbrev pub IsLeftAt : (ended : Bool) → Option (List ℕ) → Type 0
IsLeftAt false left = Unit {0}
IsLeftAt true left = IsAtEnd left

cut-by : (ended : Bool) (left : Option (List ℕ)) (came piece block held new : List ℕ) (done : List (List (List ℕ))) → ((more : List ℕ) → records_of (came ++ more) ≡ done ++ records_of (held ++ more))
    → Cuts ended (held ++ piece) block new → IsLeftAt ended left → IsCut ended (came ++ piece) done block new left
unfolding records_of
cut-by false left came piece block held new done split cuts end = (
  λ more.
      ap records_of (append_assoc came piece more) ∙ split (piece ++ more)
      ∙ ap (λ l. done ++ records_of l) (sym (append_assoc held piece more))
      ∙ ap (λ l. done ++ l) (cuts.records more)
      ∙ sym (append_assoc done (records_of block) (records_of (new ++ more))),
  cuts.few,
)
cut-by true left came piece block held new done split cuts end =
    (split piece ∙ ap (λ l. done ++ records_of l) (sym cuts.0), end)

pub block-taken : (over : Over) (first mid left : Option (List ℕ)) (ended : Bool) (piece block held new : List ℕ) (so_far : SoFar) (had has : Option (List ℕ)) → IsAt over first mid held so_far had has
    → Consumes mid left piece → Cuts ended (held ++ piece) block new → IsLeftAt ended left → IsTaken over first left ended block new so_far had has
block-taken over first mid left ended piece block held new so_far had has at_ taken cuts end = record {
  came = at_.came ++ piece;
  taken = taken-then first mid left at_.came piece (at_.came ++ piece) at_.taken taken refl;
  done = at_.done;
  cut = cut-by ended left at_.came piece block held new at_.done at_.split cuts end;
  lines = at_.lines;
  are = at_.are;
  written = at_.written;
}

-- all records of an input whose bytes are known
all-by : (ended : Bool) (text came rest block held : List ℕ) (left : Option (List ℕ)) (done : List (List (List ℕ))) → left ≡ Some rest → text ≡ came ++ rest → IsCut ended came done block held left
    → (tail : List (List (List ℕ))) × (records_of text ≡ (done ++ records_of block) ++ tail)
all-by false text came rest block held left done is whole cut = (records_of (held ++ rest), ap records_of whole ∙ cut.0 rest)
all-by true text came rest block held left done is whole cut =
    let none : rest ≡ [] = rw is at cut.1 in
    ([], ap records_of (whole ∙ ap (λ l. came ++ l) none ∙ append-nil came) ∙ cut.0 ∙ sym (append-nil (done ++ records_of block)))

all-records : (over : Over) (text : List ℕ) (left : Option (List ℕ)) (ended : Bool) (block held : List ℕ) (so_far : SoFar) (had has : Option (List ℕ)) → (taken : IsTaken over (Some text) left ended block held so_far had has)
    → (tail : List (List (List ℕ))) × (records_of text ≡ (taken.done ++ records_of block) ++ tail)
all-records over text left ended block held so_far had has taken =
    let rest = text-left text left taken.came taken.taken in
    all-by ended text taken.came rest.0 block held left taken.done rest.1 rest.2 taken.cut

-- ---- a block is not done
rows-few : (over : Over) (done : List (List (List ℕ))) (so_far : SoFar) (lines : List ℕ) → AreDone over done so_far lines → so_far.progress.tally.rows ≤ length done
rows-few over [] so_far lines are = omega (arith, ap (λ (t : Tally). t.rows) are.2.tally)
rows-few over (names ∷ rows) so_far lines are =
    omega (arith, ap (λ (t : Tally). t.rows) are.goes.counted, rows-after are.start.tally are.goes.said, ap (λ (t : Tally). t.rows) are.starts.tally, told-long over are.columns.items (place_in are.start.named) (are.start.tally.rows + 1) rows are.goes.said are.goes.each)

stopped-by : (over : Over) (text : List ℕ) (left now had has : Option (List ℕ)) (ended : Bool) (block held : List ℕ) (so_far : SoFar) (tail : List (List (List ℕ))) (fault : Fault) → (taken : IsTaken over (Some text) left ended block held so_far had has)
    → records_of text ≡ (taken.done ++ records_of block) ++ tail → IsFirstText over (records_of text) taken.lines → IsOfRows fault → (fault ≡ TooLarge → 2 ^ 64 ≤ so_far.progress.tally.rows + length (records_of block))
    → WroteChecked over text (Err fault) now had has
stopped-by over text left now had has ended block held so_far tail Store taken all first of_rows many = (taken.lines, inl first, taken.written)
stopped-by over text left now had has ended block held so_far tail NoMemory taken all first of_rows many = (taken.lines, inl first, taken.written)
stopped-by over text left now had has ended block held so_far tail TooLarge taken all first of_rows many = (
  (taken.lines, inl first, taken.written),
  omega (arith, many refl, rows-few over taken.done so_far taken.lines taken.are, ap length all, length-append (taken.done ++ records_of block) tail, length-append taken.done (records_of block)),
)
stopped-by over text left now had has ended block held so_far tail Read taken all first of_rows many = absurd of_rows
stopped-by over text left now had has ended block held so_far tail Write taken all first of_rows many = absurd of_rows

-- ---- a block does not name columns
bad-start : (over : Over) (done records : List (List (List ℕ))) (old new : SoFar) (lines : List ℕ) (fault : RowFault) → AreDone over done old lines → DoesBlock over records old new (BadNames fault)
    → (done ≡ []) × (lines ≡ []) × HasBadNames records fault
bad-start over [] records old new lines fault are does = (refl, are.1, rw are.0 at does)
bad-start over (names ∷ rows) records old new lines fault are does = absurd (rw are.kept at does)

bad-answer : (over : Over) (records tail : List (List (List ℕ))) (fault : RowFault) (end : CheckEnd) (text : List ℕ) → HasBadNames records fault → RefusesNames fault end text → IsAnswer over (records ++ tail) end text
bad-answer over [] tail fault end text bad refuses = absurd bad
bad-answer over (names ∷ rows) tail fault end text bad refuses = rw bad refuses

pub no-lines : (over : Over) (records : List (List (List ℕ))) (text : List ℕ) → text ≡ [] → IsFirstText over records text
no-lines over records text none = record { done = []; left = records; split = refl; lines = none }

refused-by : (over : Over) (records tail : List (List (List ℕ))) (left : Option (List ℕ)) (input : List ℕ) (had mid has : Option (List ℕ)) (fault : RowFault) (result : Result CheckEnd Fault)
    → records_of input ≡ records ++ tail → HasBadNames records fault → HasWritten had mid [] → WritesEnd (RefusesNames fault) (λ text. text ≡ []) result mid has
    → WroteChecked over input result left had has
refused-by over records tail left input had mid has fault (Ok end) is bad first (line, refuses, written) =
    (line, rw is (bad-answer over records tail fault end line bad refuses), written-more had mid has [] line first written)
refused-by over records tail left input had mid has fault (Err Write) is bad first (line, inl none, part) =
    (line, inl (inl (no-lines over (records_of input) line none)), written-part had mid has [] line first part)
refused-by over records tail left input had mid has fault (Err Write) is bad first (line, inr (end, refuses), part) =
    (line, inr (end, rw is (bad-answer over records tail fault end line bad refuses)), written-part had mid has [] line first part)
refused-by over records tail left input had mid has fault (Err Store) is bad first (line, none, written) =
    (line, inl (no-lines over (records_of input) line none), written-more had mid has [] line first written)
refused-by over records tail left input had mid has fault (Err NoMemory) is bad first (line, none, written) =
    (line, inl (no-lines over (records_of input) line none), written-more had mid has [] line first written)
refused-by over records tail left input had mid has fault (Err Read) is bad first writes = absurd writes
refused-by over records tail left input had mid has fault (Err TooLarge) is bad first writes = absurd writes

pub names-refused : (over : Over) (first left now : Option (List ℕ)) (ended : Bool) (block held : List ℕ) (old new : SoFar) (had mid has : Option (List ℕ)) (fault : RowFault) (result : Result CheckEnd Fault)
    → IsTaken over first left ended block held old had mid → DoesBlock over (records_of block) old new (BadNames fault) → WritesEnd (RefusesNames fault) (λ text. text ≡ []) result mid has
    → IfSome first (λ text. WroteChecked over text result now had has)
names-refused over None left now ended block held old new had mid has fault result taken does writes = tt
names-refused over (Some text) left now ended block held old new had mid has fault result taken does writes =
    let all = all-records over text left ended block held old had mid taken in
    let bad = bad-start over taken.done (records_of block) old new taken.lines fault taken.are does in
    refused-by over (records_of block) all.0 now text had mid has fault result (all.1 ∙ ap (λ l. (l ++ records_of block) ++ all.0) bad.0) bad.2 (subst (HasWritten had mid) bad.1 taken.written) writes

-- ---- a block is done
pub block-stopped : (over : Over) (first left now : Option (List ℕ)) (ended : Bool) (block held : List ℕ) (so_far : SoFar) (had has : Option (List ℕ)) (fault : Fault) → IsTaken over first left ended block held so_far had has
    → IsOfRows fault → (fault ≡ TooLarge → 2 ^ 64 ≤ so_far.progress.tally.rows + length (records_of block))
    → IfSome first (λ text. WroteChecked over text (Err fault) now had has)
block-stopped over None left now ended block held so_far had has fault taken of_rows many = tt
block-stopped over (Some text) left now ended block held so_far had has fault taken of_rows many =
    let all = all-records over text left ended block held so_far had has taken in
    stopped-by over text left now had has ended block held so_far all.0 fault taken all.1
    (record {
      done = taken.done;
      left = records_of block ++ all.0;
      split = sym (append_assoc taken.done (records_of block) all.0) ∙ sym all.1;
      lines = done-lines over taken.done so_far taken.lines taken.are;
    })
    of_rows many

pub block-unwritten : (over : Over) (first left now : Option (List ℕ)) (ended : Bool) (block held : List ℕ) (old new : SoFar) (had mid has : Option (List ℕ)) (lines : Vec ℕ)
    → IsTaken over first left ended block held old had mid → DoesBlock over (records_of block) old new (Lines lines) → HasWrittenPart mid has lines.items
    → IfSome first (λ text. WroteChecked over text (Err Write) now had has)
block-unwritten over None left now ended block held old new had mid has lines taken does part = tt
block-unwritten over (Some text) left now ended block held old new had mid has lines taken does part =
    let all = all-records over text left ended block held old had mid taken in
    let are = block-done over taken.done (records_of block) old new taken.lines lines taken.are does in (
      taken.lines ++ lines.items,
      inl (inl (record { done = taken.done ++ records_of block; left = all.0; split = sym all.1; lines = done-lines over (taken.done ++ records_of block) new (taken.lines ++ lines.items) are })),
      written-part had mid has taken.lines lines.items taken.written part,
    )

pub block-next : (over : Over) (first left : Option (List ℕ)) (ended : Bool) (block held : List ℕ) (old new : SoFar) (had mid has : Option (List ℕ)) (lines : Vec ℕ) → ended ≡ false
    → IsTaken over first left ended block held old had mid → DoesBlock over (records_of block) old new (Lines lines) → HasWritten mid has lines.items → IsAt over first left held new had has
block-next over first left ended block held old new had mid has lines goes_on taken does written =
    let cut = rw goes_on at taken.cut in
    record {
      came = taken.came;
      taken = taken.taken;
      done = taken.done ++ records_of block;
      split = cut.0;
      few = cut.1;
      lines = taken.lines ++ lines.items;
      are = block-done over taken.done (records_of block) old new taken.lines lines taken.are does;
      written = written-more had mid has taken.lines lines.items taken.written written;
    }
