-- The rows of the trades of a desk.
use Rattle.std.proofs.Common.{◌≡◌, ◌∙◌, ℕ, true, List, [], ◌∷◌, map, refl, ap}
use Rattle.muni_msg.specs.declared.command.Line.{Line}
use Rattle.muni_keep.specs.Tables.{Tables, line}
use Rattle.muni_keep.specs.Trades.{own}
use Rattle.muni_keep.proofs.EntriesLemmas.{past-all}
use Rattle.muni_desk_export.specs.Trades.{lines_of_desk, rows_of, trade_texts}
use Rattle.muni_desk_export.specs.Walk.{desk_rows}
use Rattle.muni_desk_export.specs.declared.trades.Style.TheVariants as style

first-row : (tables : Tables) (desk : List ℕ) (trades : List Line) → trade_texts tables style.Rows true desk trades ≡ rows_of tables desk trades
first-row tables desk [] = refl
first-row tables desk (trade ∷ more) = refl

-- they are those of all its trades
pub desk-rows : (tables : Tables) (desk : List ℕ) → desk_rows tables desk ≡ rows_of tables desk (lines_of_desk tables desk)
desk-rows tables desk =
    ap (λ trades. trade_texts tables style.Rows true desk (map line trades)) (past-all (own desk tables.desks))
    ∙ first-row tables desk (lines_of_desk tables desk)
