-- The texts of trades, one after another.
use Rattle.std.proofs.Common.{◌≡◌, ◌≤◌, ◌<◌, ◌+◌, ℕ, zero, suc, Bool, false, List, [], ◌∷◌, ◌++◌, length, drop, get_or, refl, sym, ap, subst, ◌∙◌, arith}
use Rattle.std.proofs.lemmas.List.{at_drop_more, at_drop_all, append-nil, append_assoc}
use Rattle.muni_msg.specs.declared.command.Line.{Line}
use Rattle.muni_keep.specs.Tables.{Tables}
use Rattle.muni_export.specs.List.{list_line}
use Rattle.muni_desk_export.specs.Trades.{key_of, trade_text, trade_texts, lines_of, IsLineOf, AreOf}
use Rattle.muni_desk_export.specs.declared.trades.Style.{Style}
use Rattle.muni_desk_export.specs.declared.trades.Style.TheVariants as style

-- the next of the trades that are left is written
pub next-text : (tables : Tables) (way : Style) (is_first : Bool) (desk : List ℕ) (lines : List Line) (i : ℕ) (x : Line) (had all : List ℕ) → i < length lines → x ≡ get_or lines i x
    → had ++ trade_texts tables way is_first desk (drop i lines) ≡ all → (had ++ trade_text tables way is_first desk x) ++ trade_texts tables way false desk (drop (i + 1) lines) ≡ all
next-text tables way is_first desk lines i x had all inside is before =
    let rest = at_drop_more (trade_texts tables way is_first desk) lines i x inside ∙ ap (λ y. trade_texts tables way is_first desk (y ∷ drop (i + 1) lines)) (sym is) in
    append_assoc had (trade_text tables way is_first desk x) (trade_texts tables way false desk (drop (i + 1) lines)) ∙ ap (λ l. had ++ l) (sym rest) ∙ before

-- none is left
pub last-text : (tables : Tables) (way : Style) (is_first : Bool) (desk : List ℕ) (lines : List Line) (i : ℕ) (had all : List ℕ) → length lines ≤ i
    → had ++ trade_texts tables way is_first desk (drop i lines) ≡ all → had ≡ all
last-text tables way is_first desk lines i had all end before =
    sym (append-nil had) ∙ ap (λ l. had ++ l) (sym (at_drop_all (trade_texts tables way is_first desk) lines i end)) ∙ before

-- the same for the lines of a list
pub next-line : (lines : List Line) (i : ℕ) (x : Line) (had all : List ℕ) → i < length lines → x ≡ get_or lines i x
    → had ++ lines_of (drop i lines) ≡ all → (had ++ list_line x) ++ lines_of (drop (i + 1) lines) ≡ all
next-line lines i x had all inside is before =
    let rest = at_drop_more lines_of lines i x inside ∙ ap (λ y. lines_of (y ∷ drop (i + 1) lines)) (sym is) in
    append_assoc had (list_line x) (lines_of (drop (i + 1) lines)) ∙ ap (λ l. had ++ l) (sym rest) ∙ before

pub last-line : (lines : List Line) (i : ℕ) (had all : List ℕ) → length lines ≤ i → had ++ lines_of (drop i lines) ≡ all → had ≡ all
last-line lines i had all end before =
    sym (append-nil had) ∙ ap (λ l. had ++ l) (sym (at_drop_all lines_of lines i end)) ∙ before

-- rows and lines are the same for the first trades of a desk
pub any-rows : (tables : Tables) (is_first : Bool) (desk : List ℕ) (lines : List Line) → trade_texts tables style.Rows false desk lines ≡ trade_texts tables style.Rows is_first desk lines
any-rows tables is_first desk [] = refl
any-rows tables is_first desk (x ∷ lines) = refl

pub any-lines : (tables : Tables) (is_first : Bool) (desk : List ℕ) (lines : List Line) → lines_of lines ≡ trade_texts tables style.Line is_first desk lines
any-lines tables is_first desk [] = refl
any-lines tables is_first desk (x ∷ lines) = ap (λ l. list_line x ++ l) (any-lines tables false desk lines)

-- whether no trade of the desk is before those after some
abbrev pub is_none_yet : Bool → List Line → Bool
is_none_yet is_first [] = is_first
is_none_yet is_first (x ∷ lines) = false

none-yet : (lines : List Line) → is_none_yet false lines ≡ false
none-yet [] = refl
none-yet (x ∷ lines) = refl

-- the texts of some trades and of those after them
pub texts-append : (tables : Tables) (way : Style) (is_first : Bool) (desk : List ℕ) (lines more : List Line)
    → trade_texts tables way is_first desk (lines ++ more) ≡ trade_texts tables way is_first desk lines ++ trade_texts tables way (is_none_yet is_first lines) desk more
texts-append tables way is_first desk [] more = refl
texts-append tables way is_first desk (x ∷ lines) more =
    ap (λ l. trade_text tables way is_first desk x ++ l) (texts-append tables way false desk lines more ∙ ap (λ b. trade_texts tables way false desk lines ++ trade_texts tables way b desk more) (none-yet lines))
    ∙ sym (append_assoc (trade_text tables way is_first desk x) (trade_texts tables way false desk lines) (trade_texts tables way false desk more))

-- the line of a trade at a place
pub of-line : (tables : Tables) (desk : List ℕ) (lines : List Line) (i : ℕ) (x : Line) → i < length lines → x ≡ get_or lines i x → AreOf tables desk lines → IsLineOf tables (key_of desk x.reference) x
of-line tables desk [] i x inside is are = absurd (omega arith)
of-line tables desk (y ∷ lines) zero x inside is are = subst (λ l. IsLineOf tables (key_of desk l.reference) l) (sym is) are.0
of-line tables desk (y ∷ lines) (suc i) x inside is are = of-line tables desk lines i x (omega arith) is are.1
