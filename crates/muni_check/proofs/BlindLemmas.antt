-- What is said by some tables is said, whatever they are.
use Rattle.std.proofs.Common.{ℕ, List, Bool, true, false, Option, Some, None, Result, Ok, Err}
use Rattle.muni_terms.specs.declared.row.IssueRow.{IssueRow}
use Rattle.muni_msg.specs.declared.asked.Asked.{Asked}
use Rattle.muni_msg.specs.declared.version.Version.{Version}
use Rattle.muni_keep.specs.Tables.{Tables}
use Rattle.muni_import.specs.declared.row.RowFault.{RowFault}
use Rattle.muni_readings.specs.declared.stated.Stated.{Stated}
use Rattle.muni_msg.specs.declared.column.Column.{Column}
use Rattle.muni_check_rows.specs.Other.{OtherTerm, other_in_trade}
use Rattle.muni_check_rows.specs.Rows.{reference_in, row_in, states_nothing, trade_row_in}
use Rattle.muni_check_rows.specs.Said.{IsCompared, IsComparedOfTrade, IsJudged, IsOtherOr, IsSaidAfter, IsSaidByName, IsSaidByReference, IsSaidOfRow, IsSaidOfTrade, IsSaidOfTradeRow, IsToldOf, Judging, live_by}
use Rattle.muni_check_rows.specs.StatedFigures.{has_figure}
use Rattle.muni_check_rows.specs.declared.row.CheckRow.{CheckRow}
use Rattle.muni_check_rows.specs.declared.row.TradeRow.{TradeRow}
use Rattle.muni_check_rows.specs.declared.said.CheckSaid.{CheckSaid}

-- of a row by itself
blind-judged : (judging : Judging) (told : Option Tables) (asked : Asked) (stated : Stated) (terms : Option IssueRow) (said : CheckSaid) → IsJudged judging told asked stated terms said → IsJudged judging None asked stated terms said
blind-judged judging told asked stated (Some terms) said is = is
blind-judged judging told asked stated None said (found, kept, is) = (found, tt, is)

blind-compared : (judging : Judging) (told : Option Tables) (row : CheckRow) (figure : Bool) (said : CheckSaid) → IsCompared judging told row figure said → IsCompared judging None row figure said
blind-compared judging told row true said is = blind-judged judging told row.asked row.stated row.terms said is
blind-compared judging told row false said is = is

blind-row : (judging : Judging) (told : Option Tables) (row : Result CheckRow RowFault) (said : CheckSaid) → IsSaidOfRow judging told row said → IsSaidOfRow judging None row said
blind-row judging told (Ok row) said is = blind-compared judging told row (has_figure row.stated) said is
blind-row judging told (Err fault) said is = is

-- of a row of a trade
blind-nothing : (judging : Judging) (told : Option Tables) (version : Version) (row : TradeRow) (nothing : Bool) (said : CheckSaid) → IsComparedOfTrade judging told version row nothing said
    → IsComparedOfTrade judging None version row nothing said
blind-nothing judging told version row true said is = is
blind-nothing judging told version row false said (found, kept, is) = (found, tt, is)

blind-other : (judging : Judging) (told : Option Tables) (version : Version) (row : TradeRow) (nothing : Bool) (other : Option OtherTerm) (said : CheckSaid)
    → IsOtherOr other (IsComparedOfTrade judging told version row nothing) said → IsOtherOr other (IsComparedOfTrade judging None version row nothing) said
blind-other judging told version row nothing (Some other) said is = is
blind-other judging told version row nothing None said is = blind-nothing judging told version row nothing said is

blind-trade-row : (judging : Judging) (told : Option Tables) (columns : List Column) (fields : List (List ℕ)) (version : Version) (row : Result TradeRow RowFault) (said : CheckSaid)
    → IsSaidOfTradeRow judging told columns fields version row said → IsSaidOfTradeRow judging None columns fields version row said
blind-trade-row judging told columns fields version (Ok row) said is =
    blind-other judging told version row (states_nothing columns fields row.stated) (other_in_trade version.terms.asked row.texts) said is
blind-trade-row judging told columns fields version (Err fault) said is = is

blind-trade : (judging : Judging) (told : Option Tables) (columns : List Column) (fields : List (List ℕ)) (reference : List ℕ) (version : Option Version) (said : CheckSaid)
    → IsSaidOfTrade judging told columns fields reference version said → IsSaidOfTrade judging None columns fields reference version said
blind-trade judging told columns fields reference (Some version) said is =
    blind-trade-row judging told columns fields version (trade_row_in columns fields version.terms.asked) said is
blind-trade judging told columns fields reference None said is = is

blind-reference : (judging : Judging) (desk : List ℕ) (told : Option Tables) (columns : List Column) (fields : List (List ℕ)) (reference : List ℕ) (again : Option ℕ) (said : CheckSaid)
    → IsSaidByReference judging desk told columns fields reference again said → IsSaidByReference judging desk None columns fields reference again said
blind-reference judging desk told columns fields reference (Some first) said is = is
blind-reference judging desk told columns fields reference None said (last, kept, is) =
    (last, tt, blind-trade judging told columns fields reference (live_by last) said is)

-- of any row
blind-name : (judging : Judging) (desk : Option (List ℕ)) (told : Option Tables) (columns : List Column) (fields : List (List ℕ)) (reference : Option (List ℕ)) (again : Option ℕ) (said : CheckSaid)
    → IsSaidByName judging desk told columns fields reference again said → IsSaidByName judging desk None columns fields reference again said
blind-name judging (Some desk) told columns fields (Some reference) again said is = blind-reference judging desk told columns fields reference again said is
blind-name judging (Some desk) told columns fields None again said is = blind-row judging told (row_in columns fields) said is
blind-name judging None told columns fields reference again said is = blind-row judging told (row_in columns fields) said is

blind-after : (judging : Judging) (desk : Option (List ℕ)) (told : Option Tables) (columns : List Column) (fields : List (List ℕ)) (reference : Result (Option (List ℕ)) RowFault) (again : Option ℕ) (said : CheckSaid)
    → IsSaidAfter judging desk told columns fields reference again said → IsSaidAfter judging desk None columns fields reference again said
blind-after judging desk told columns fields (Ok reference) again said is = blind-name judging desk told columns fields reference again said is
blind-after judging desk told columns fields (Err fault) again said is = is

pub blind-told : (judging : Judging) (desk : Option (List ℕ)) (told : Option Tables) (columns : List Column) (again : Option ℕ) (fields : List (List ℕ)) (said : CheckSaid)
    → IsToldOf judging desk told columns again fields said → IsToldOf judging desk None columns again fields said
blind-told judging desk told columns again fields said is = blind-after judging desk told columns fields (reference_in columns fields) again said is
