-- The lines of a report on an import over sound tables.
use Rattle.std.specs.Prelude.{◌≡◌, ℕ, ◌+◌, List, [], ◌∷◌, ◌++◌, codes, decimal, Ok, Err}
use Rattle.muni_dec.specs.Decimal.{decimal_text, signed_text}
use Rattle.muni_days.specs.Day.{civil, day_text}
use Rattle.muni_terms.specs.declared.row.IssueRow.{IssueRow}
use Rattle.muni_msg.specs.declared.command.Key.{Key}
use Rattle.muni_msg.specs.declared.command.Reply.TheVariants.{Added, Amended, Quoted, Listed, Confirmed, Refused}
use Rattle.muni_msg.specs.declared.version.Version.{Version}
use Rattle.muni_keep.specs.Tables.{Tables}
use Rattle.muni_import.specs.Line.{behind_commas}
use Rattle.muni_import.specs.Report.{Said, row_line}
use Rattle.muni_answer.specs.RightFigures.{AreRightFigures}
use Rattle.muni_book.specs.RightReplies.{IsKeptRight}

-- The line of a confirmation: after its place the reference and the number of the version, and of its figures the price,
-- the yield, the date of the redemption and the total. The version is kept, and its figures are right.
pub record IsConfirmedLine (tables : Tables) (place : ℕ) (issue : IssueRow) (key : Key) (number : ℕ) (version : Version) (line : List ℕ) : Type 0 where
  pub right : IsKeptRight AreRightFigures tables issue key number version
  pub printed : line ≡ decimal place ++ behind_commas
      (codes "confirmed" ∷ key.reference ∷ decimal number
      ∷ decimal_text 3 version.figures.price ∷ signed_text 3 version.figures.yld
      ∷ day_text (civil version.figures.redemption) ∷ decimal_text 2 version.figures.total ∷ [])
      ++ 10 ∷ []

-- the line of what came of a row; none but a confirmation's has figures
abbrev pub IsLineOf : Tables → ℕ → Said → List ℕ → Type 0
IsLineOf tables place (Ok (Added cusip)) line = line ≡ row_line place (Ok (Added cusip))
IsLineOf tables place (Ok (Amended cusip number)) line = line ≡ row_line place (Ok (Amended cusip number))
IsLineOf tables place (Ok (Quoted issue asked figures shown)) line = line ≡ row_line place (Ok (Quoted issue asked figures shown))
IsLineOf tables place (Ok (Listed lines)) line = line ≡ row_line place (Ok (Listed lines))
IsLineOf tables place (Ok (Confirmed issue key number version)) line =
    IsConfirmedLine tables place issue key number version line
IsLineOf tables place (Ok (Refused why)) line = line ≡ row_line place (Ok (Refused why))
IsLineOf tables place (Err fault) line = line ≡ row_line place (Err fault)

-- a text has such a line for what came of each row, in their order, and no more
abbrev pub HasLinesOf : Tables → ℕ → List Said → List ℕ → Type 0
HasLinesOf tables place [] text = text ≡ []
HasLinesOf tables place (said ∷ more) text =
    (line : List ℕ) × (rest : List ℕ) × (text ≡ line ++ rest)
    × IsLineOf tables place said line × HasLinesOf tables (place + 1) more rest
