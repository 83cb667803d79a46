-- The texts of trades, if the tables are known.
use Rattle.std.proofs.Common.{◌≡◌, ◌≤◌, ◌<◌, ◌+◌, ◌-◌, ℕ, Bool, true, false, List, [], ◌∷◌, ◌++◌, length, drop, get_or, Option, Some, None, Result, Ok, Err, refl, sym, ap, ◌∙◌, append_assoc}
use Rattle.std.specs.Prelude.{IfSome, IfOk, slice_get, is_none, is_some, not}
use Rattle.muni_terms.specs.declared.row.IssueRow.{IssueRow}
use Rattle.muni_msg.specs.declared.command.Key.{Key}
use Rattle.muni_msg.specs.declared.command.Line.{Line}
use Rattle.muni_keep.specs.Tables.{Tables, issue_numbered, page_at}
use Rattle.muni_desk_import.specs.Confirm.{confirmed, of_version}
use Rattle.muni_desk_export.specs.Trades.{key_of, separator, trade_rows, trade_texts, trades_left, rows_of, confirmations_of, IsLineOf, AreOf}
use Rattle.muni_desk_export.specs.declared.trades.Style.{Style}
use Rattle.muni_desk_export.specs.declared.trades.Style.TheVariants as style
use Rattle.muni_desk_export.proofs.ConfirmLemmas.{line-confirmed}
use Rattle.muni_desk_export.proofs.PageLemmas.{lines_past, page-left, page-of}
use Rattle.muni_desk_export.proofs.TextLemmas.{is_none_yet, last-text, next-text, of-line, texts-append}

-- what holds of all tables
pub told-all : (told : Option Tables) (P : Tables → Type 0) → ((t : Tables) → P t) → IfSome told P
told-all None P all = tt
told-all (Some t) P all = all t

pub told-line : (told : Option Tables) (desk : List ℕ) (page : List Line) (i : ℕ) (trade : Line) → i < length page → trade ≡ get_or page i trade → IfSome told (λ t. AreOf t desk page) → IfSome told (λ t. IsLineOf t (key_of desk trade.reference) trade)
told-line None desk page i trade inside is are = tt
told-line (Some t) desk page i trade inside is are = of-line t desk page i trade inside is are

pub told-confirmed : (told : Option Tables) (key : Key) (trade : Line) (issue : Option IssueRow) (text : List ℕ) → IfSome told (λ t. IsLineOf t key trade) → IfSome told (λ t. issue ≡ issue_numbered t trade.version.terms.asked.cusip trade.version.issue_number)
    → text ≡ (of_version key trade.number trade.version issue).text → IfSome told (λ t. text ≡ (confirmed t key).text)
told-confirmed None key trade issue text of found is = tt
told-confirmed (Some t) key trade issue text of found is = is ∙ line-confirmed t key trade issue of found

-- ---- the trades of a page
pub told-rows-next : (told : Option Tables) (desk : List ℕ) (page : List Line) (i : ℕ) (trade : Line) (had next : List ℕ) → i < length page → trade ≡ get_or page i trade
    → IfSome told (λ t. next ≡ had ++ trade_rows t (key_of desk trade.reference))
    → IfSome told (λ t. had ++ rows_of t desk (drop i page) ≡ rows_of t desk page) → IfSome told (λ t. next ++ rows_of t desk (drop (i + 1) page) ≡ rows_of t desk page)
told-rows-next None desk page i trade had next inside is rows before = tt
told-rows-next (Some t) desk page i trade had next inside is rows before =
    ap (λ l. l ++ rows_of t desk (drop (i + 1) page)) rows ∙ next-text t style.Rows false desk page i trade had (rows_of t desk page) inside is before

pub told-rows-last : (told : Option Tables) (desk : List ℕ) (page : List Line) (i : ℕ) (had : List ℕ) → length page ≤ i
    → IfSome told (λ t. had ++ rows_of t desk (drop i page) ≡ rows_of t desk page) → IfSome told (λ t. had ≡ rows_of t desk page)
told-rows-last None desk page i had end before = tt
told-rows-last (Some t) desk page i had end before = last-text t style.Rows false desk page i had (rows_of t desk page) end before

pub told-confirmed-next : (told : Option Tables) (is_first starts : Bool) (desk : List ℕ) (page : List Line) (i : ℕ) (trade : Line) (had text next : List ℕ) → i < length page → trade ≡ get_or page i trade
    → IfSome told (λ t. text ≡ (confirmed t (key_of desk trade.reference)).text) → next ≡ (had ++ separator starts) ++ text
    → IfSome told (λ t. had ++ confirmations_of t starts desk (drop i page) ≡ confirmations_of t is_first desk page)
    → IfSome told (λ t. next ++ confirmations_of t false desk (drop (i + 1) page) ≡ confirmations_of t is_first desk page)
told-confirmed-next None is_first starts desk page i trade had text next inside is said all before = tt
told-confirmed-next (Some t) is_first starts desk page i trade had text next inside is said all before =
    ap (λ l. l ++ confirmations_of t false desk (drop (i + 1) page)) (all ∙ append_assoc had (separator starts) text ∙ ap (λ l. had ++ (separator starts ++ l)) said)
    ∙ next-text t style.Confirmation starts desk page i trade had (confirmations_of t is_first desk page) inside is before

pub told-confirmed-last : (told : Option Tables) (is_first starts : Bool) (desk : List ℕ) (page : List Line) (i : ℕ) (had : List ℕ) → length page ≤ i
    → IfSome told (λ t. had ++ confirmations_of t starts desk (drop i page) ≡ confirmations_of t is_first desk page) → IfSome told (λ t. had ≡ confirmations_of t is_first desk page)
told-confirmed-last None is_first starts desk page i had end before = tt
told-confirmed-last (Some t) is_first starts desk page i had end before = last-text t style.Confirmation starts desk page i had (confirmations_of t is_first desk page) end before

-- a text of the tables by another name
pub told-as : {V E : Type 0} (result : Result V E) (items : V → List ℕ) (told : Option Tables) (one two : Tables → List ℕ) → ((t : Tables) → one t ≡ two t)
    → IfOk result (λ text. IfSome told (λ t. items text ≡ one t)) → IfOk result (λ text. IfSome told (λ t. items text ≡ two t))
told-as (Err why) items told one two same is = tt
told-as (Ok text) items None one two same is = tt
told-as (Ok text) items (Some t) one two same is = is ∙ same t

-- ---- the pages of a desk
pub told-page-of : (told : Option Tables) (desk : List ℕ) (after : Option (List ℕ)) (page : List Line) → IfSome told (λ t. page ≡ page_at t desk after) → IfSome told (λ t. AreOf t desk page)
told-page-of None desk after page are = tt
told-page-of (Some t) desk after page are = page-of t desk after page are

pub none-is : {A : Type 0} (o : Option A) (b : Bool) → is_some o ≡ not b → b ≡ is_none o
none-is None true is = refl
none-is None false is = absurd (cc is)
none-is (Some x) true is = absurd (cc is)
none-is (Some x) false is = refl

some-yet : (is_first : Bool) (page : List Line) (n : ℕ) (last : Line) → slice_get page n ≡ Some last → is_none_yet is_first page ≡ false
some-yet is_first [] n last is = absurd (cc is)
some-yet is_first (x ∷ page) n last is = refl

pub told-page : (told : Option Tables) (way : Style) (desk : List ℕ) (after : Option (List ℕ)) (page : List Line) (last : Line) (is_first : Bool) (text : List ℕ) → IfSome told (λ t. page ≡ page_at t desk after)
    → slice_get page (length page - 1) ≡ Some last → is_first ≡ is_none after → IfSome told (λ t. text ≡ trade_texts t way is_first desk page)
    → IfSome told (λ t. trades_left t way desk after ≡ text ++ trades_left t way desk (Some last.reference))
told-page None way desk after page last is_first text are is first said = tt
told-page (Some t) way desk after page last is_first text are is first said =
    ap (trade_texts t way (is_none after) desk) (page-left t desk after page last are is)
    ∙ texts-append t way (is_none after) desk page (lines_past t desk (Some last.reference))
    ∙ ap (λ b. trade_texts t way (is_none after) desk page ++ trade_texts t way b desk (lines_past t desk (Some last.reference))) (some-yet (is_none after) page (length page - 1) last is)
    ∙ ap (λ b. trade_texts t way b desk page ++ trades_left t way desk (Some last.reference)) (sym first)
    ∙ ap (λ l. l ++ trades_left t way desk (Some last.reference)) (sym said)
