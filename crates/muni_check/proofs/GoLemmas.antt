-- Rows that are judged one after another.
use Rattle.std.proofs.Common.{◌≡◌, ◌<◌, ◌+◌, ◌∙◌, ◌||◌, ℕ, suc, List, [], ◌∷◌, ◌++◌, length, map, take, get_or, Bool, true, false, Option, Some, None, refl, sym, ap, ap₂, subst, arith}
use Rattle.std.proofs.lemmas.List.{append-nil, append_assoc, map-append}
use Rattle.std.proofs.lemmas.List.Elements.{filter_map-append}
use Rattle.std.proofs.lemmas.List.Folds.{list_any-append}
use Rattle.std.proofs.Math.Seq.{take-suc}
use Rattle.csv.specs.Records.{Row, fields_of}
use Rattle.muni_check.specs.Answer.{AreTold, Over}
use Rattle.muni_check.specs.GoesOn.{GoesOn, tally_after}
use Rattle.muni_check_rows.specs.Line.{said_line, said_lines}
use Rattle.muni_check.specs.Named.{AddsNames, Places, References, again_of, came_after, came_after_rows, came_with, has, place_in}
use Rattle.muni_check_rows.specs.Rows.{named_by, named_in}
use Rattle.muni_check_rows.specs.Said.{IsToldOf}
use Rattle.muni_check_rows.specs.Tallies.{with_said}
use Rattle.muni_check.specs.Unseen.{is_named, is_same}
use Rattle.muni_msg.specs.declared.column.Column.{Column}
use Rattle.muni_check.specs.declared.rows.Progress.{Progress}
use Rattle.muni_check_rows.specs.declared.said.CheckSaid.{CheckSaid}
use Rattle.muni_check_rows.specs.declared.tally.Tally.{Tally}

-- the lines of rows, and of rows after them
pub lines-append : (place : ℕ) (said more : List CheckSaid) → said_lines place (said ++ more) ≡ said_lines place said ++ said_lines (place + length said) more
lines-append place [] more =
    let here : place ≡ place + 0 = omega arith in
    ap (λ n. said_lines n more) here
lines-append place (one ∷ said) more =
    let next : place + 1 + length said ≡ place + length (one ∷ said) = omega arith in
    ap (λ l. said_line place one ++ l) (lines-append (place + 1) said more ∙ ap (λ n. said_lines (place + 1) said ++ said_lines n more) next)
    ∙ sym (append_assoc (said_line place one) (said_lines (place + 1) said) (said_lines (place + length (one ∷ said)) more))

-- a line on each row
pub told-long : (over : Over) (columns : List Column) (came : Places) (place : ℕ) (rows : List (List (List ℕ))) (said : List CheckSaid) → AreTold over columns came place rows said → length said ≡ length rows
told-long over columns came place [] [] are = refl
told-long over columns came place [] (one ∷ said) are = absurd are
told-long over columns came place (row ∷ rows) [] are = absurd are
told-long over columns came place (row ∷ rows) (one ∷ said) are =
    omega (arith, told-long over columns (came_after over.desk came place (named_in columns row)) (place + 1) rows said are.1)

-- what came is told by its places alone
same-with : (came other : Places) (place : ℕ) (reference : List ℕ) → ((r : List ℕ) → came r ≡ other r) → (r : List ℕ) → came_with came place reference r ≡ came_with other place reference r
same-with came other place reference same r = rw (same reference, same r) refl

same-after : (desk : Option (List ℕ)) (came other : Places) (place : ℕ) (name : Option (List ℕ)) → ((r : List ℕ) → came r ≡ other r)
    → (r : List ℕ) → came_after desk came place name r ≡ came_after desk other place name r
same-after None came other place name same r = same r
same-after (Some desk) came other place None same r = same r
same-after (Some desk) came other place (Some reference) same r = same-with came other place reference same r

pub same-rows : (desk : Option (List ℕ)) (columns : List Column) (came other : Places) (place : ℕ) (rows : List (List (List ℕ))) → ((r : List ℕ) → came r ≡ other r)
    → (r : List ℕ) → came_after_rows desk columns came place rows r ≡ came_after_rows desk columns other place rows r
same-rows desk columns came other place [] same r = same r
same-rows desk columns came other place (row ∷ rows) same r =
    same-rows desk columns (came_after desk came place (named_in columns row)) (came_after desk other place (named_in columns row)) (place + 1) rows
    (same-after desk came other place (named_in columns row) same) r

same-again : (came other : Places) (name : Option (List ℕ)) → ((r : List ℕ) → came r ≡ other r) → again_of came name ≡ again_of other name
same-again came other None same = refl
same-again came other (Some reference) same = same reference

pub told-same : (over : Over) (columns : List Column) (came other : Places) (place : ℕ) (rows : List (List (List ℕ))) (said : List CheckSaid) → ((r : List ℕ) → came r ≡ other r)
    → AreTold over columns came place rows said → AreTold over columns other place rows said
told-same over columns came other place [] [] same are = tt
told-same over columns came other place [] (one ∷ said) same are = absurd are
told-same over columns came other place (row ∷ rows) [] same are = absurd are
told-same over columns came other place (row ∷ rows) (one ∷ said) same are = (
  subst (λ again. IsToldOf over.judging over.desk over.told columns again row one) (same-again came other (named_in columns row) same) are.0,
  told-same over columns (came_after over.desk came place (named_in columns row)) (came_after over.desk other place (named_in columns row)) (place + 1) rows said
      (same-after over.desk came other place (named_in columns row) same) are.1,
)

-- rows, and rows after them
pub told-append : (over : Over) (columns : List Column) (came : Places) (place : ℕ) (rows more : List (List (List ℕ))) (said others : List CheckSaid) → AreTold over columns came place rows said
    → AreTold over columns (came_after_rows over.desk columns came place rows) (place + length rows) more others → AreTold over columns came place (rows ++ more) (said ++ others)
told-append over columns came place [] more [] others are also =
    let here : place + 0 ≡ place = omega arith in
    subst (λ n. AreTold over columns came n more others) here also
told-append over columns came place [] more (one ∷ said) others are also = absurd are
told-append over columns came place (row ∷ rows) more [] others are also = absurd are
told-append over columns came place (row ∷ rows) more (one ∷ said) others are also =
    let after = came_after over.desk came place (named_in columns row) in
    let next : place + length (row ∷ rows) ≡ place + 1 + length rows = omega arith in
    (are.0, told-append over columns after (place + 1) rows more said others are.1 (subst (λ n. AreTold over columns (came_after_rows over.desk columns after (place + 1) rows) n more others) next also))

pub places-append : (desk : Option (List ℕ)) (columns : List Column) (came : Places) (place : ℕ) (rows more : List (List (List ℕ)))
    → came_after_rows desk columns came place (rows ++ more) ≡ came_after_rows desk columns (came_after_rows desk columns came place rows) (place + length rows) more
places-append desk columns came place [] more =
    let here : place ≡ place + 0 = omega arith in
    ap (λ n. came_after_rows desk columns came n more) here
places-append desk columns came place (row ∷ rows) more =
    let after = came_after desk came place (named_in columns row) in
    let next : place + 1 + length rows ≡ place + length (row ∷ rows) = omega arith in
    places-append desk columns after (place + 1) rows more
    ∙ ap (λ n. came_after_rows desk columns (came_after_rows desk columns after (place + 1) rows) n more) next

-- the tally after rows, and after rows after them
pub tally-append : (tally : Tally) (said more : List CheckSaid) → tally_after tally (said ++ more) ≡ tally_after (tally_after tally said) more
tally-append tally [] more = refl
tally-append tally (one ∷ said) more = tally-append (with_said tally one) said more

pub rows-after : (tally : Tally) (said : List CheckSaid) → (tally_after tally said).rows ≡ tally.rows + length said
rows-after tally [] = omega arith
rows-after tally (one ∷ said) = omega (arith, rows-after (with_said tally one) said)

-- the references of rows, and of rows after them
pub named-append : (columns : List Column) (rows more : List (List (List ℕ))) → named_by columns (rows ++ more) ≡ named_by columns rows ++ named_by columns more
named-append columns rows more = filter_map-append (named_in columns) rows more

or-swap : (a b c : Bool) → (b || (a || c)) ≡ ((a || b) || c)
or-swap true true c = refl
or-swap true false c = refl
or-swap false true c = refl
or-swap false false c = refl

pub names-append : (desk : Option (List ℕ)) (old mid new : References) (names more : List (List ℕ)) → AddsNames desk old mid names → AddsNames desk mid new more → AddsNames desk old new (names ++ more)
names-append None old mid new names more first second = tt
names-append (Some desk) old mid new names more first second =
    λ reference.
    second reference ∙ ap (λ b. is_named more reference || b) (first reference)
    ∙ or-swap (is_named names reference) (is_named more reference) (has old reference)
    ∙ ap (λ b. b || has old reference) (sym (list_any-append (λ other. is_same other reference) names more))

-- the rows up to one more
pub rows-next : (rows : List Row) (i : ℕ) (row : Row) → i < length rows → row ≡ get_or rows i row → map fields_of (take (i + 1) rows) ≡ map fields_of (take i rows) ++ fields_of row ∷ []
rows-next rows i row inside here =
    let next : i + 1 ≡ suc i = omega arith in
    ap (λ n. map fields_of (take n rows)) next
    ∙ ap (map fields_of) (take-suc rows i row inside ∙ ap (λ r. take i rows ++ r ∷ []) (sym here))
    ∙ map-append fields_of (take i rows) (row ∷ [])

-- no row
pub goes-none : (over : Over) (columns : List Column) (progress : Progress) → GoesOn over columns [] progress progress []
goes-none over columns progress = record {
  said = [];
  each = tt;
  written = refl;
  counted = refl;
  named = same over.desk;
  places = λ reference. refl;
}
  where
    same : (desk : Option (List ℕ)) → AddsNames desk progress.named progress.named []
    same None = tt
    same (Some desk) = λ reference. refl

-- one row
pub goes-one : (over : Over) (columns : List Column) (row : List (List ℕ)) (said : CheckSaid) (old new : Progress) (line : List ℕ)
    → IsToldOf over.judging over.desk over.told columns (again_of (place_in old.named) (named_in columns row)) row said → new.tally ≡ with_said old.tally said
    → AddsNames over.desk old.named new.named (named_by columns (row ∷ []))
    → ((reference : List ℕ) → place_in new.named reference ≡ came_after over.desk (place_in old.named) (old.tally.rows + 1) (named_in columns row) reference)
    → line ≡ said_line (old.tally.rows + 1) said
    → GoesOn over columns (row ∷ []) old new line
goes-one over columns row said old new line told counted named places written = record {
  said = said ∷ [];
  each = (told, tt);
  written = written ∙ sym (append-nil (said_line (old.tally.rows + 1) said));
  counted = counted;
  named = named;
  places = places;
}

-- rows after others
pub goes-joined : (over : Over) (columns : List Column) (rows more : List (List (List ℕ))) (old mid new : Progress) (lines after : List ℕ)
    → GoesOn over columns rows old mid lines → GoesOn over columns more mid new after → GoesOn over columns (rows ++ more) old new (lines ++ after)
goes-joined over columns rows more old mid new lines after first second =
    let long = told-long over columns (place_in old.named) (old.tally.rows + 1) rows first.said first.each in
    let come = came_after_rows over.desk columns (place_in old.named) (old.tally.rows + 1) rows in
    let place : mid.tally.rows + 1 ≡ old.tally.rows + 1 + length first.said = omega (arith, ap (λ (t : Tally). t.rows) first.counted, rows-after old.tally first.said) in
    let there : mid.tally.rows + 1 ≡ old.tally.rows + 1 + length rows = omega (arith, place, long) in
    record {
      said = first.said ++ second.said;
      each = told-append over columns (place_in old.named) (old.tally.rows + 1) rows more first.said second.said first.each
          (subst (λ n. AreTold over columns come n more second.said) there
          (told-same over columns (place_in mid.named) come (mid.tally.rows + 1) more second.said first.places second.each));
      written = ap₂ (λ (a b : List ℕ). a ++ b) first.written (second.written ∙ ap (λ n. said_lines n second.said) place)
          ∙ sym (lines-append (old.tally.rows + 1) first.said second.said);
      counted = second.counted ∙ ap (λ t. tally_after t second.said) first.counted ∙ sym (tally-append old.tally first.said second.said);
      named = subst (λ l. AddsNames over.desk old.named new.named l) (sym (named-append columns rows more))
          (names-append over.desk old.named mid.named new.named (named_by columns rows) (named_by columns more) first.named second.named);
      places = λ reference.
          second.places reference
          ∙ same-rows over.desk columns (place_in mid.named) come (mid.tally.rows + 1) more first.places reference
          ∙ ap (λ n. came_after_rows over.desk columns come n more reference) there
          ∙ ap (λ (came : Places). came reference) (sym (places-append over.desk columns (place_in old.named) (old.tally.rows + 1) rows more));
    }
