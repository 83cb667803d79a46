-- Rows that are done one after another.
use Rattle.std.proofs.Common.{◌≡◌, ◌+◌, ◌∙◌, ℕ, cond, List, [], ◌∷◌, ◌++◌, length, refl, sym, ap, ap₂, arith}
use Rattle.std.specs.List.{AllZip}
use Rattle.std.proofs.lemmas.List.{append-nil, append_assoc, length-append}
use Rattle.std.proofs.lemmas.List.Sums.{sum_by-append}
use Rattle.std.proofs.lemmas.Slice.Zip.{AllZip-long}
use Rattle.muni_figures.specs.Done.{AreDone, IsSmall, IsTally, no_tally, tally_of, tally_sum}
use Rattle.muni_figures.specs.Line.{is_priced, said_line, said_lines, total_of}
use Rattle.muni_figures.specs.Rows.{Row}
use Rattle.muni_figures.specs.declared.said.FiguresSaid.{FiguresSaid}
use Rattle.muni_figures.specs.declared.tally.Tally.{Tally}

lines-append : (place : ℕ) (said more : List FiguresSaid) → said_lines place (said ++ more) ≡ said_lines place said ++ said_lines (place + length said) more
lines-append place [] more =
    let here : place ≡ place + 0 = omega arith in
    ap (λ n. said_lines n more) here
lines-append place (one ∷ said) more =
    let next : place + 1 + length said ≡ place + length (one ∷ said) = omega arith in
    ap (λ l. said_line place one ++ l) (lines-append (place + 1) said more ∙ ap (λ n. said_lines (place + 1) said ++ said_lines n more) next)
    ∙ sym (append_assoc (said_line place one) (said_lines (place + 1) said) (said_lines (place + length (one ∷ said)) more))

zip-append : {A B : Type 0} (R : A → B → Type 0) (xs more : List A) (ys others : List B) → AllZip R xs ys → AllZip R more others → AllZip R (xs ++ more) (ys ++ others)
zip-append R [] more [] others are also = also
zip-append R [] more (y ∷ ys) others are also = absurd are
zip-append R (x ∷ xs) more [] others are also = absurd are
zip-append R (x ∷ xs) more (y ∷ ys) others are also = (are.0, zip-append R xs more ys others are.1 also)

tally-append : (said more : List FiguresSaid) (one other : Tally) → IsTally said one → IsTally more other → IsTally (said ++ more) (tally_sum one other)
tally-append said more one other is also = record {
  rows = ap₂ (λ m n. m + n) is.rows also.rows ∙ sym (length-append said more);
  priced = ap₂ (λ m n. m + n) is.priced also.priced ∙ sym (sum_by-append (λ s. cond (is_priced s) 1 0) said more);
  sum = ap₂ (λ m n. m + n) is.sum also.sum ∙ sym (sum_by-append total_of said more);
}

small-sum : (one other : Tally) → IsSmall one → IsSmall other → IsSmall (tally_sum one other)
small-sum one other is also = record {
  priced = omega (arith, is.priced, also.priced);
  sum = omega (arith, is.sum, also.sum);
}

pub done-none : (Answers : Row → FiguresSaid → Type 0) (place : ℕ) → AreDone Answers place [] [] no_tally
done-none Answers place = record {
  said = [];
  each = tt;
  written = refl;
  counted = record { rows = refl; priced = refl; sum = refl };
  small = record { priced = omega arith; sum = omega arith };
}

-- rows after others
pub done-joined : (Answers : Row → FiguresSaid → Type 0) (place next : ℕ) (rows more : List Row) (lines after : List ℕ) (one other : Tally) → next ≡ place + one.rows
    → AreDone Answers place rows lines one → AreDone Answers next more after other → AreDone Answers place (rows ++ more) (lines ++ after) (tally_sum one other)
done-joined Answers place next rows more lines after one other at done then = record {
  said = done.said ++ then.said;
  each = zip-append Answers rows more done.said then.said done.each then.each;
  written = ap₂ (λ a b. a ++ b) done.written (then.written ∙ ap (λ n. said_lines n then.said) (at ∙ ap (λ n. place + n) done.counted.rows)) ∙ sym (lines-append place done.said then.said);
  counted = tally-append done.said then.said one other done.counted then.counted;
  small = small-sum one other done.small then.small;
}

-- one row more
one-tally : (said : FiguresSaid) → IsTally (said ∷ []) (tally_of said)
one-tally said = record { rows = refl; priced = omega arith; sum = omega arith }

pub done-more : (Answers : Row → FiguresSaid → Type 0) (place : ℕ) (rows : List Row) (lines : List ℕ) (tally : Tally) (row : Row) (said : FiguresSaid) → AreDone Answers place rows lines tally → Answers row said
    → IsSmall (tally_sum tally (tally_of said)) → AreDone Answers place (rows ++ row ∷ []) (lines ++ said_line (place + tally.rows) said) (tally_sum tally (tally_of said))
done-more Answers place rows lines tally row said done is small = record {
  said = done.said ++ said ∷ [];
  each = zip-append Answers rows (row ∷ []) done.said (said ∷ []) done.each (is, tt);
  written = ap₂ (λ a n. a ++ said_line (place + n) said) done.written done.counted.rows
      ∙ ap (λ l. said_lines place done.said ++ l) (sym (append-nil (said_line (place + length done.said) said)))
      ∙ sym (lines-append place done.said (said ∷ []));
  counted = tally-append done.said (said ∷ []) tally (tally_of said) done.counted (one-tally said);
  small = small;
}

-- as many rows as are counted
pub done-rows : (Answers : Row → FiguresSaid → Type 0) (place : ℕ) (rows : List Row) (lines : List ℕ) (tally : Tally) → AreDone Answers place rows lines tally → tally.rows ≡ length rows
done-rows Answers place rows lines tally done = done.counted.rows ∙ AllZip-long Answers rows done.said done.each
