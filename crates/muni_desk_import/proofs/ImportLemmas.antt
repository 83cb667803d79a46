-- Rows that are done one after another.
use Rattle.std.proofs.Common.{◌≡◌, ◌≤◌, ◌+◌, ◌∙◌, ℕ, List, [], ◌∷◌, ◌++◌, length, take, Option, Some, None, Ok, Err, IfSome, refl, sym, ap, subst, arith}
use Rattle.std.specs.List.{AllZip}
use Rattle.std.proofs.lemmas.List.{append_assoc, append-nil, length-append}
use Rattle.std.proofs.lemmas.Slice.Zip.{AllZip-long}
use Rattle.muni_edge.specs.Sink.{HasWritten, HasWrittenPart}
use Rattle.muni_keep.specs.Tables.{Tables}
use Rattle.muni_book_step.specs.Step.{Rules, after}
use Rattle.muni_import.specs.Report.{Said, row_line}
use Rattle.muni_import.specs.Row.{Row}
use Rattle.muni_import.specs.Rows.{rows_of, IsNext}
use Rattle.muni_import.proofs.RowLemmas.{HasRead, read-more, read-all, read-few, few-rows}
use Rattle.muni_desk_import.specs.Blocks.{Done, DoneNext, DoneFirst, DoneBefore, DonePart, DoneMost}
use Rattle.muni_desk_import.specs.Reported.{IsSaidOf, ReportsRowsAt}
use Rattle.muni_desk_import.specs.Import.{Came, Imports, report, Did, DidAt, DidNextAt, WroteToAt}

-- ---- rows after rows
imports-join : (R : Rules) (old : Tables) (rows others : List Row) (said more : List Said) (mid new : Tables) → Imports R old rows said mid → Imports R mid others more new → Imports R old (rows ++ others) (said ++ more) new
imports-join R old [] others [] more mid new first second = subst (λ t. Imports R t others more new) first second
imports-join R old [] others (told ∷ said) more mid new first second = absurd first
imports-join R old (row ∷ rows) others [] more mid new first second = absurd first
imports-join R old (row ∷ rows) others (told ∷ said) more mid new (next, here, later) second =
    (next, here, imports-join R next rows others said more mid new later second)

imports-count : (R : Rules) (old : Tables) (rows : List Row) (said : List Said) (new : Tables) → Imports R old rows said new → length said ≡ length rows
imports-count R old [] [] new imports = refl
imports-count R old [] (first ∷ said) new imports = absurd imports
imports-count R old (first ∷ rows) [] new imports = absurd imports
imports-count R old (first ∷ rows) (told ∷ said) new (next, here, later) = omega (arith, imports-count R next rows said new later)

-- their lines
report-join : (place : ℕ) (said more : List Said) → report place (said ++ more) ≡ report place said ++ report (place + length said) more
report-join place [] more = let first : place ≡ place + 0 = omega arith in ap (λ n. report n more) first
report-join place (told ∷ said) more =
    let next : place + 1 + length said ≡ place + length (told ∷ said) = omega arith in
    ap (λ lines. row_line place told ++ lines) (report-join (place + 1) said more ∙ ap (λ n. report (place + 1) said ++ report n more) next)
    ∙ sym (append_assoc (row_line place told) (report (place + 1) said) (report (place + length (told ∷ said)) more))

pub report-then : (place : ℕ) (said : List Said) (last : Said) → report place (said ++ last ∷ []) ≡ report place said ++ row_line (place + length said) last
report-then place said last = report-join place said (last ∷ []) ∙ ap (λ lines. report place said ++ lines) (append-nil (row_line (place + length said) last))

written-then : (had mid has : Option (List ℕ)) (xs ys zs : List ℕ) → HasWritten had mid xs → HasWritten mid has ys → zs ≡ xs ++ ys → HasWritten had has zs
written-then None mid has xs ys zs first second is = tt
written-then (Some text) None has xs ys zs first second is = absurd (cc first)
written-then (Some text) (Some there) has xs ys zs first second is =
    let same : there ≡ text ++ xs = cc first in
    rw is (second ∙ ap Some (ap (λ l. l ++ ys) same ∙ append_assoc text xs ys))

wrote-join : (place count : ℕ) (said more : List Said) (last : Said) (had mid has : Option (List ℕ)) → length said ≡ count → HasWritten had mid (report place said) → WroteToAt (place + count) more last mid has → WroteToAt place (said ++ more) last had has
wrote-join place count said more last None mid has is first second = record { part = tt }
wrote-join place count said more last (Some text) None has is first second = absurd (cc first)
wrote-join place count said more last (Some text) (Some there) has is first second =
    let same : there ≡ text ++ report place said = cc first in
    let lines : (text ++ report place said) ++ report (place + count) more ≡ text ++ report place (said ++ more) =
    append_assoc text (report place said) (report (place + count) more)
    ∙ ap (λ l. text ++ l) (ap (λ n. report place said ++ report (place + n) more) (sym is) ∙ sym (report-join place said more)) in
    let here : place + count + length more ≡ place + length (said ++ more) = omega (arith, is, length-append said more) in
    let part = second.part in
    record { part = (part.0, part.1 ∙ ap (λ l. Some ((l ++ report (place + count) more) ++ take part.0 (row_line (place + count + length more) last))) same ∙ (λ i. Some (lines i ++ take part.0 (row_line (here i) last)))) }

-- what is said of them
said-join : (rows others : List Row) (said more : List Said) → AllZip IsSaidOf rows said → AllZip IsSaidOf others more → AllZip IsSaidOf (rows ++ others) (said ++ more)
said-join [] others [] more are also = also
said-join [] others (told ∷ said) more are also = absurd are
said-join (row ∷ rows) others [] more are also = absurd are
said-join (row ∷ rows) others (told ∷ said) more are also = (are.0, said-join rows others said more are.1 also)

reports-join : (place : ℕ) (rows others : List Row) (had mid has : Option (List ℕ)) → ReportsRowsAt place rows had mid → ReportsRowsAt (place + length rows) others mid has → ReportsRowsAt place (rows ++ others) had has
reports-join place rows others had mid has first second =
    let count : length first.said ≡ length rows = omega (arith, AllZip-long IsSaidOf rows first.said first.each) in
    record {
      said = first.said ++ second.said;
      each = said-join rows others first.said second.said first.each second.each;
      written =
          written-then had mid has (report place first.said) (report (place + length rows) second.said) (report place (first.said ++ second.said)) first.written second.written
          (report-join place first.said second.said ∙ ap (λ n. report place first.said ++ report (place + n) second.said) count);
    }

-- what they do
did-join : (place : ℕ) (R : Rules) (rows others : List Row) (old : Tables) (mid now : Option Tables) (had there has : Option (List ℕ)) → DidAt place R rows old mid had there → IfSome mid (λ t. DidAt (place + length rows) R others t now there has)
    → DidAt place R (rows ++ others) old now had has
did-join place R rows others old mid now had there has first second =
    let then = subst (λ m. IfSome m (λ t. DidAt (place + length rows) R others t now there has)) first.told second in
    let count = imports-count R old rows first.said first.new first.imports in
    record {
      said = first.said ++ then.said;
      new = then.new;
      imports = imports-join R old rows others first.said then.said first.new then.new first.imports then.imports;
      told = then.told;
      written =
          written-then had there has (report place first.said) (report (place + length rows) then.said) (report place (first.said ++ then.said)) first.written then.written
          (report-join place first.said then.said ∙ ap (λ n. report place first.said ++ report (place + n) then.said) count);
    }

next-join : (place : ℕ) (R : Rules) (rows others : List Row) (row : Row) (old : Tables) (mid now : Option Tables) (had there has : Option (List ℕ)) → DidAt place R rows old mid had there → IfSome mid (λ t. DidNextAt (place + length rows) R others row t now there has)
    → DidNextAt place R (rows ++ others) row old now had has
next-join place R rows others row old mid now had there has first second =
    let then = subst (λ m. IfSome m (λ t. DidNextAt (place + length rows) R others row t now there has)) first.told second in
    let count = imports-count R old rows first.said first.new first.imports in
    record {
      said = first.said ++ then.said;
      last = then.last;
      new = then.new;
      imports = rw (append_assoc rows others (row ∷ []), append_assoc first.said then.said (then.last ∷ []))
          (imports-join R old rows (others ++ row ∷ []) first.said (then.said ++ then.last ∷ []) first.new then.new first.imports then.imports);
      told = then.told;
      written = wrote-join place (length rows) first.said then.said then.last had there has count first.written then.written;
    }

did-known : (place : ℕ) (R : Rules) (rows others : List Row) (old mid now : Option Tables) (had there has : Option (List ℕ)) → IfSome old (λ t. DidAt place R rows t mid had there) → IfSome mid (λ t. DidAt (place + length rows) R others t now there has)
    → IfSome old (λ t. DidAt place R (rows ++ others) t now had has)
did-known place R rows others None mid now had there has first second = tt
did-known place R rows others (Some t) mid now had there has first second = did-join place R rows others t mid now had there has first second

next-known : (place : ℕ) (R : Rules) (rows others : List Row) (row : Row) (old mid now : Option Tables) (had there has : Option (List ℕ)) → IfSome old (λ t. DidAt place R rows t mid had there) → IfSome mid (λ t. DidNextAt (place + length rows) R others row t now there has)
    → IfSome old (λ t. DidNextAt place R (rows ++ others) row t now had has)
next-known place R rows others row None mid now had there has first second = tt
next-known place R rows others row (Some t) mid now had there has first second = next-join place R rows others row t mid now had there has first second

pub done-join : (place : ℕ) (R : Rules) (rows others : List Row) (old mid now : Option Tables) (had there has : Option (List ℕ)) → Done place R rows old mid had there → Done (place + length rows) R others mid now there has → Done place R (rows ++ others) old now had has
done-join place R rows others old mid now had there has first second = record {
  reports = reports-join place rows others had there has first.reports second.reports;
  did = did-known place R rows others old mid now had there has first.did second.did;
}

pub done-next : (place : ℕ) (R : Rules) (rows others : List Row) (row : Row) (old mid now : Option Tables) (had there has : Option (List ℕ)) → Done place R rows old mid had there → DoneNext (place + length rows) R others row mid now there has
    → DoneNext place R (rows ++ others) row old now had has
done-next place R rows others row old mid now had there has first second =
    let said = first.reports.said in
    let count : length said ≡ length rows = omega (arith, AllZip-long IsSaidOf rows said first.reports.each) in
    record {
      said = said ++ second.said;
      last = second.last;
      each = rw (append_assoc rows others (row ∷ []), append_assoc said second.said (second.last ∷ []))
          (said-join rows (others ++ row ∷ []) said (second.said ++ second.last ∷ []) first.reports.each second.each);
      written = wrote-join place (length rows) said second.said second.last had there has count first.reports.written second.written;
      did = next-known place R rows others row old mid now had there has first.did second.did;
    }

-- ---- no row, and one
nothing-written : (had : Option (List ℕ)) → HasWritten had had []
nothing-written None = tt
nothing-written (Some text) = ap Some (sym (append-nil text))

none-did : (place : ℕ) (R : Rules) (old : Tables) (had : Option (List ℕ)) → DidAt place R [] old (Some old) had had
none-did place R old had = record { said = []; new = old; imports = refl; told = refl; written = nothing-written had }

pub did-none : (R : Rules) (old : Tables) (had : Option (List ℕ)) → Did R [] old (Some old) had had
did-none R old had = none-did 1 R old had

none-known : (place : ℕ) (R : Rules) (old : Option Tables) (had : Option (List ℕ)) → IfSome old (λ t. DidAt place R [] t old had had)
none-known place R None had = tt
none-known place R (Some t) had = none-did place R t had

pub done-none : (place : ℕ) (R : Rules) (old : Option Tables) (had : Option (List ℕ)) → Done place R [] old old had had
done-none place R old had = record { reports = record { said = []; each = tt; written = nothing-written had }; did = none-known place R old had }

-- tables are known after a row
came-told : (R : Rules) (old : Tables) (row : Row) (said : Said) (now : Option Tables) → Came R old row said now → (new : Tables) × (now ≡ Some new)
came-told R old (Ok command) (Ok reply) now (entry, step, told) = (after entry old, told)
came-told R old (Ok command) (Err fault) now came = absurd came
came-told R old (Err fault) (Ok reply) now came = absurd came
came-told R old (Err fault) (Err told) now (same, is) = (old, is)

one-did : (place : ℕ) (R : Rules) (row : Row) (said : Said) (old now : Option Tables) (had has : Option (List ℕ)) → IfSome old (λ t. Came R t row said now) → HasWritten had has (report place (said ∷ [])) → IfSome old (λ t. DidAt place R (row ∷ []) t now had has)
one-did place R row said None now had has came written = tt
one-did place R row said (Some t) now had has came written =
    let told = came-told R t row said now came in
    record { said = said ∷ []; new = told.0; imports = (told.0, subst (λ n. Came R t row said n) told.1 came, refl); told = told.1; written = written }

done-one : (place : ℕ) (R : Rules) (row : Row) (said : Said) (old now : Option Tables) (had has : Option (List ℕ)) → IsSaidOf row said → IfSome old (λ t. Came R t row said now) → HasWritten had has (row_line place said) → Done place R (row ∷ []) old now had has
done-one place R row said old now had has of_row came line =
    let written = subst (HasWritten had has) (sym (append-nil (row_line place said))) line in
    record { reports = record { said = said ∷ []; each = (of_row, tt); written = written }; did = one-did place R row said old now had has came written }

part-one : (place : ℕ) (last : Said) (had has : Option (List ℕ)) → HasWrittenPart had has (row_line place last) → WroteToAt place [] last had has
part-one place last None has part = record { part = tt }
part-one place last (Some text) has (count, part) =
    let here : place ≡ place + 0 = omega arith in
    record { part = (count, part ∙ (λ i. Some (sym (append-nil text) i ++ take count (row_line (here i) last)))) }

one-next : (place : ℕ) (R : Rules) (row : Row) (said : Said) (old now : Option Tables) (had has : Option (List ℕ)) → IfSome old (λ t. Came R t row said now) → WroteToAt place [] said had has → IfSome old (λ t. DidNextAt place R [] row t now had has)
one-next place R row said None now had has came written = tt
one-next place R row said (Some t) now had has came written =
    let told = came-told R t row said now came in
    record { said = []; last = said; new = told.0; imports = (told.0, subst (λ n. Came R t row said n) told.1 came, refl); told = told.1; written = written }

next-one : (place : ℕ) (R : Rules) (row : Row) (said : Said) (old now : Option Tables) (had has : Option (List ℕ)) → IsSaidOf row said → IfSome old (λ t. Came R t row said now) → HasWrittenPart had has (row_line place said) → DoneNext place R [] row old now had has
next-one place R row said old now had has of_row came line =
    let written = part-one place said had has line in
    record { said = []; last = said; each = (of_row, tt); written = written; did = one-next place R row said old now had has came written }

-- ---- these rows are done, and the reader is after them
pub record IsAt (place : ℕ) (R : Rules) (all : List Row) (reader : Option (List Row)) (count : ℕ) (old now : Option Tables) (had has : Option (List ℕ)) : Type 0 where
  pub rows : List Row
  pub read : HasRead rows reader all
  pub counted : length rows ≡ count
  pub done : Done place R rows old now had has

pub at-start : (place : ℕ) (R : Rules) (all : List Row) (old : Option Tables) (had : Option (List ℕ)) → IsAt place R all (Some all) 0 old old had had
at-start place R all old had = record { rows = []; read = (all, refl, refl); counted = refl; done = done-none place R old had }

-- one row more is done
pub row-done : (place : ℕ) (R : Rules) (all : List Row) (reader behind : Option (List Row)) (count here : ℕ) (row : Row) (said : Said) (old now later : Option Tables) (had mid has : Option (List ℕ))
    → IsAt place R all reader count old now had mid → IfSome reader (λ left. IsNext left (Some row) behind) → here ≡ place + count → IsSaidOf row said → IfSome now (λ t. Came R t row said later)
    → HasWritten mid has (row_line here said) → IsAt place R all behind (count + 1) old later had has
row-done place R all reader behind count here row said old now later had mid has at next is of_row came written =
    let spot : here ≡ place + length at.rows = omega (arith, is, at.counted) in
    record {
      rows = at.rows ++ row ∷ [];
      read = read-more at.rows row reader behind all at.read next;
      counted = omega (arith, length-append at.rows (row ∷ []), at.counted);
      done = done-join place R at.rows (row ∷ []) old now later had mid has at.done
          (done-one (place + length at.rows) R row said now later mid has of_row came (subst (λ n. HasWritten mid has (row_line n said)) spot written));
    }

-- all rows are done
pub all-done : (place : ℕ) (R : Rules) (all : List Row) (reader behind : Option (List Row)) (count : ℕ) (old now : Option Tables) (had has : Option (List ℕ))
    → IsAt place R all reader count old now had has → IfSome reader (λ left. IsNext left None behind) → Done place R all old now had has × (count ≡ length all)
all-done place R all reader behind count old now had has at next =
    let same = read-all at.rows reader behind all at.read next in
    (subst (λ rows. Done place R rows old now had has) same at.done, sym at.counted ∙ ap length same)

-- the first of them are
pub first-done : (place : ℕ) (R : Rules) (all : List Row) (reader : Option (List Row)) (count : ℕ) (old now : Option Tables) (had has : Option (List ℕ)) → IsAt place R all reader count old now had has → DoneFirst place R all old now had has
first-done place R all reader count old now had has at = record { rows = at.rows; left = at.read.0; split = at.read.2; done = at.done }

-- and the next one is at hand
at-hand : (rows : List Row) (row : Row) (reader behind : Option (List Row)) (all : List Row) → HasRead rows reader all → IfSome reader (λ left. IsNext left (Some row) behind) → (left : List Row) × (rows ++ row ∷ left ≡ all)
at-hand rows row reader behind all read next =
    let more = read-more rows row reader behind all read next in
    (more.0, sym (append_assoc rows (row ∷ []) more.0) ∙ more.2)

pub before-done : (place : ℕ) (R : Rules) (all : List Row) (reader behind : Option (List Row)) (count : ℕ) (row : Row) (old now later : Option Tables) (had has : Option (List ℕ))
    → IsAt place R all reader count old now had has → IfSome reader (λ left. IsNext left (Some row) behind) → later ≡ now → DoneBefore place R all old later had has
before-done place R all reader behind count row old now later had has at next same =
    let hand = at-hand at.rows row reader behind all at.read next in
    rw same record { rows = at.rows; row = row; left = hand.0; split = hand.1; done = at.done }

pub most-done : (before : ℕ) (R : Rules) (all : List Row) (reader behind : Option (List Row)) (count : ℕ) (row : Row) (old now : Option Tables) (had has : Option (List ℕ))
    → IsAt (before + 1) R all reader count old now had has → IfSome reader (λ left. IsNext left (Some row) behind) → before + count ≡ 4_294_967_295 → DoneMost before R all old now had has
most-done before R all reader behind count row old now had has at next most =
    let hand = at-hand at.rows row reader behind all at.read next in
    record { first = record { rows = at.rows; row = row; left = hand.0; split = hand.1; done = at.done }; most = ap (λ n. before + n) at.counted ∙ most }

-- with a part of its line
pub part-done : (place : ℕ) (R : Rules) (all : List Row) (reader behind : Option (List Row)) (count here : ℕ) (row : Row) (said : Said) (old now later : Option Tables) (had mid has : Option (List ℕ))
    → IsAt place R all reader count old now had mid → IfSome reader (λ left. IsNext left (Some row) behind) → here ≡ place + count → IsSaidOf row said → IfSome now (λ t. Came R t row said later)
    → HasWrittenPart mid has (row_line here said) → DonePart place R all old later had has
part-done place R all reader behind count here row said old now later had mid has at next is of_row came written =
    let spot : here ≡ place + length at.rows = omega (arith, is, at.counted) in
    let hand = at-hand at.rows row reader behind all at.read next in
    let rows : at.rows ++ [] ≡ at.rows = append-nil at.rows in
    record {
      rows = at.rows;
      row = row;
      left = hand.0;
      split = hand.1;
      done = subst (λ rows. DoneNext place R rows row old later had has) rows
          (done-next place R at.rows [] row old now later had mid has at.done
          (next-one (place + length at.rows) R row said now later mid has of_row came (subst (λ n. HasWrittenPart mid has (row_line n said)) spot written)));
    }

-- no more rows than the text has bytes
pub few-done : (place : ℕ) (R : Rules) (text : List ℕ) (reader : Option (List Row)) (count : ℕ) (old now : Option Tables) (had has : Option (List ℕ)) → IsAt place R (rows_of text) reader count old now had has → count ≤ length text
few-done place R text reader count old now had has at =
    omega (arith, at.counted, read-few at.rows reader (rows_of text) at.read, few-rows text)
