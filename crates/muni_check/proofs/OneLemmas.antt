-- The answer to an input of names and one row, and the line of this row.
use Rattle.std.proofs.Common.{◌≡◌, ◌∙◌, ℕ, List, [], ◌∷◌, ◌++◌, Option, Some, None, Ok, refl, sym, ap, subst}
use Rattle.std.specs.Prelude.{IfSome}
use Rattle.std.proofs.lemmas.List.{append-nil}
use Rattle.muni_keep.specs.Tables.{Tables}
use Rattle.muni_msg.specs.declared.column.Column.{Column}
use Rattle.muni_check_rows.specs.Columns.{columns_in}
use Rattle.muni_check_rows.specs.Line.{said_line, said_lines, total_line, unseen_lines}
use Rattle.muni_check_rows.specs.Rows.{named_by, named_in}
use Rattle.muni_check_rows.specs.Said.{IsToldOf}
use Rattle.muni_check_rows.specs.Tallies.{are_all_right, tally_of}
use Rattle.muni_check_rows.specs.declared.said.CheckSaid.{CheckSaid}
use Rattle.muni_check.specs.Answer.{AreTold, IsAnswer, Over, end_of}
use Rattle.muni_check.specs.One.{AnswersWithLine, IsRowLine}
use Rattle.muni_check.specs.Named.{Places, again_of, no_places}
use Rattle.muni_check.specs.Unseen.{unseen_in}
use Rattle.muni_check.specs.declared.command.CheckEnd.{CheckEnd}

-- nothing came before
none-before : (name : Option (List ℕ)) → again_of no_places name ≡ None
none-before None = refl
none-before (Some reference) = refl

again-none : (came : Places) (name : Option (List ℕ)) → ((reference : List ℕ) → came reference ≡ None) → again_of came name ≡ None
again-none came None nothing = refl
again-none came (Some reference) nothing = nothing reference

-- the line of the first row
pub row-line : (over : Over) (columns : List Column) (fields : List (List ℕ)) (came : Places) (said : CheckSaid) (line : List ℕ) → ((reference : List ℕ) → came reference ≡ None)
    → IsToldOf over.judging over.desk over.told columns (again_of came (named_in columns fields)) fields said → line ≡ said_line 1 said → IsRowLine over columns fields line
row-line over columns fields came said line nothing told written = record {
  said = said;
  told = subst (λ again. IsToldOf over.judging over.desk over.told columns again fields said) (again-none came (named_in columns fields) nothing) told;
  written = written;
}

one-told : (over : Over) (columns : List Column) (row : List (List ℕ)) (said : List CheckSaid) → AreTold over columns no_places 1 (row ∷ []) said
    → (one : CheckSaid) × IsToldOf over.judging over.desk over.told columns None row one × (said ≡ one ∷ [])
one-told over columns row [] are = absurd are
one-told over columns row (one ∷ []) are =
    (one, subst (λ again. IsToldOf over.judging over.desk over.told columns again row one) (none-before (named_in columns row)) are.0, refl)
one-told over columns row (one ∷ other ∷ said) are = absurd are.1

one-line : (said : List CheckSaid) (one : CheckSaid) → said ≡ one ∷ [] → said_lines 1 said ≡ said_line 1 one
one-line said one is = ap (said_lines 1) is ∙ append-nil (said_line 1 one)

pub line-of-answer : (over : Over) (columns : List Column) (names fields : List (List ℕ)) (end : CheckEnd) (text : List ℕ) → columns_in names ≡ Ok columns
    → IsAnswer over (names ∷ fields ∷ []) end text → (line : List ℕ) × AnswersWithLine over columns names fields end text line
line-of-answer over columns names fields end text named answer =
    let rows = rw named at answer in
    let one = one-told over columns fields rows.said rows.checked.each in
    let first = rows.checked.written ∙ one-line rows.said one.0 one.2 in (
      said_line 1 one.0,
      record {
        answer = answer;
        row = record { said = one.0; told = one.1; written = refl };
        unseen = rows.unseen;
        tally = tally_of rows.said rows.unseen;
        split = rows.written ∙ ap (λ l. l ++ unseen_lines rows.unseen ++ total_line (tally_of rows.said rows.unseen)) first;
      },
    )

-- the trades for which no row came, if what is kept is exposed
some-unseen : (told : Option Tables) (desk : Option (List ℕ)) (named : List (List ℕ)) → (unseen : List (List ℕ)) × IfSome told (λ tables. unseen ≡ unseen_in tables desk named)
some-unseen None desk named = ([], tt)
some-unseen (Some tables) desk named = (unseen_in tables desk named, refl)

pub answer-of-line : (over : Over) (columns : List Column) (names fields : List (List ℕ)) (line : List ℕ) → columns_in names ≡ Ok columns → IsRowLine over columns fields line
    → (end : CheckEnd) × (text : List ℕ) × AnswersWithLine over columns names fields end text line
answer-of-line over columns names fields line named row =
    let unseen = some-unseen over.told over.desk (named_by columns (fields ∷ [])) in
    let tally = tally_of (row.said ∷ []) unseen.0 in (
      end_of (are_all_right tally),
      line ++ unseen_lines unseen.0 ++ total_line tally,
      record {
        answer = rw named (record {
          said = row.said ∷ [];
          lines = line;
          checked = record { each = (subst (λ again. IsToldOf over.judging over.desk over.told columns again fields row.said) (sym (none-before (named_in columns fields))) row.told, tt); written = row.written ∙ sym (one-line (row.said ∷ []) row.said refl) };
          unseen = unseen.0;
          are_unseen = unseen.1;
          written = refl;
          ended = refl;
        });
        row = row;
        unseen = unseen.0;
        tally = tally;
        split = refl;
      },
    )
