-- Columns with their texts that are read one after another.
use Rattle.std.proofs.Common.{String, Global, string_bytes, ◌≡◌, ◌≤◌, ◌<◌, ◌+◌, ℕ, List, [], ◌∷◌, ◌++◌, length, drop, get_or, map, codes, Option, Some, None, option_map, true, nat_lt, IsUtf8, arith, refl, sym, ap, ◌∙◌}
use Rattle.std.specs.List.{list_all}
use Rattle.std.proofs.lemmas.Bool.Decides.{nat_tests}
use Rattle.std.proofs.lemmas.List.Sums.{AllPass-from_list_all}
use Rattle.std.proofs.lemmas.Str.{IsUtf8-from_ascii}
use Rattle.std.proofs.lemmas.Str.Ascii.{IsAscii-from_all}
use Rattle.std.proofs.lemmas.List.{at_drop_more, at_drop_all, append-nil, append_assoc, length-append}
use Rattle.serde_json.specs.Data.{Data}
use Rattle.serde_json.specs.Find.{get}
use Rattle.serde_json.specs.View.{members_view}
use Rattle.serde_json.specs.declared.value.Value.{Value}
use Rattle.std.specs.Map.{keys_of}
use Rattle.muni_msg.specs.Fields.{◌>>=◌}
use Rattle.muni_msg.specs.Columns.{all_columns, name_of}
use Rattle.muni_msg.specs.declared.column.Column.{Column}
use Rattle.muni_msg.specs.declared.column.Column.TheVariants as column
use Rattle.muni_wire_body.specs.Stated.{before, desk_at, members_in, names_in, row_of, text_at, texts_in}

abbrev pub Texts : Type 0
Texts = List (Column × List ℕ)

-- columns and texts that were read, and others after them, if those read
abbrev pub with_more : List Column → List (List ℕ) → Option Texts → Option (List Column × List (List ℕ))
with_more columns fields more =
    option_map (λ texts. (columns ++ map (λ each. each.0) texts, fields ++ map (λ each. each.1) texts)) more

more-by : (columns : List Column) (fields : List (List ℕ)) (column : Column) (text : List ℕ) (rest : Option Texts)
    → with_more (columns ++ column ∷ []) (fields ++ text ∷ []) rest ≡ with_more columns fields (rest >>= λ others. Some (before column (Some text) others))
more-by columns fields column text None = refl
more-by columns fields column text (Some texts) =
    let first = append_assoc columns (column ∷ []) (map (λ each. each.0) texts) in
    let second = append_assoc fields (text ∷ []) (map (λ each. each.1) texts) in
    rw (first, second) refl

same-by : (column : Column) (rest : Option Texts) → rest ≡ (rest >>= λ others. Some (before column None others))
same-by column None = refl
same-by column (Some texts) = refl

rest-at : (value : Data) (all : List Column) (i : ℕ) (x : Column) → i < length all → x ≡ get_or all i x
    → texts_in (drop i all) value ≡ texts_in (x ∷ drop (i + 1) all) value
rest-at value all i x inside is =
    at_drop_more (λ columns. texts_in columns value) all i x inside ∙ ap (λ y. texts_in (y ∷ drop (i + 1) all) value) (sym is)

pub one-more : (value : Data) (all : List Column) (i : ℕ) (x : Column) (text : List ℕ) (columns : List Column) (fields : List (List ℕ)) (whole : Option (List Column × List (List ℕ)))
    → i < length all → x ≡ get_or all i x → text_at (get (name_of x) value) ≡ Some (Some text)
    → with_more columns fields (texts_in (drop i all) value) ≡ whole
    → with_more (columns ++ x ∷ []) (fields ++ text ∷ []) (texts_in (drop (i + 1) all) value) ≡ whole
unfolding texts_in
one-more value all i x text columns fields whole inside is reads so_far =
    let rest = texts_in (drop (i + 1) all) value in
    more-by columns fields x text rest ∙ ap (λ o. with_more columns fields (o >>= λ t. rest >>= λ others. Some (before x t others))) (sym reads)
    ∙ ap (with_more columns fields) (sym (rest-at value all i x inside is)) ∙ so_far

pub left-out : (value : Data) (all : List Column) (i : ℕ) (x : Column) (columns : List Column) (fields : List (List ℕ)) (whole : Option (List Column × List (List ℕ)))
    → i < length all → x ≡ get_or all i x → text_at (get (name_of x) value) ≡ Some None
    → with_more columns fields (texts_in (drop i all) value) ≡ whole
    → with_more columns fields (texts_in (drop (i + 1) all) value) ≡ whole
unfolding texts_in
left-out value all i x columns fields whole inside is reads so_far =
    let rest = texts_in (drop (i + 1) all) value in
    ap (with_more columns fields) (same-by x rest) ∙ ap (λ o. with_more columns fields (o >>= λ t. rest >>= λ others. Some (before x t others))) (sym reads)
    ∙ ap (with_more columns fields) (sym (rest-at value all i x inside is)) ∙ so_far

pub not-one : (value : Data) (all : List Column) (i : ℕ) (x : Column) (columns : List Column) (fields : List (List ℕ)) (whole : Option (List Column × List (List ℕ)))
    → i < length all → x ≡ get_or all i x → text_at (get (name_of x) value) ≡ None
    → with_more columns fields (texts_in (drop i all) value) ≡ whole → None ≡ whole
unfolding texts_in
not-one value all i x columns fields whole inside is reads so_far =
    let rest = texts_in (drop (i + 1) all) value in
    ap (λ o. with_more columns fields (o >>= λ t. rest >>= λ others. Some (before x t others))) (sym reads)
    ∙ ap (with_more columns fields) (sym (rest-at value all i x inside is)) ∙ so_far

pub no-more : (value : Data) (all : List Column) (i : ℕ) (columns : List Column) (fields : List (List ℕ)) (whole : Option (List Column × List (List ℕ))) → length all ≤ i
    → with_more columns fields (texts_in (drop i all) value) ≡ whole → Some (columns, fields) ≡ whole
unfolding texts_in
no-more value all i columns fields whole end so_far =
    let none : texts_in (drop i all) value ≡ Some [] = at_drop_all (λ rest. texts_in rest value) all i end in
    let all_columns : columns ++ [] ≡ columns = append-nil columns in
    let all_fields : fields ++ [] ≡ fields = append-nil fields in
    rw (sym all_columns, sym all_fields) (sym (ap (with_more columns fields) none) ∙ so_far)

pub one-longer : (columns : List Column) (column : Column) (i : ℕ) → length columns ≤ i → length (columns ++ column ∷ []) ≤ i + 1
one-longer columns column i room = omega (arith, length-append columns (column ∷ []), room)

-- ---- the row of all columns

whole-by : (desk : Option (List ℕ)) (columns : List Column) (fields : List (List ℕ)) (texts : Option Texts) → Some (columns, fields) ≡ with_more [] [] texts
    → (texts >>= λ found. Some (row_of desk found)) ≡ Some (record { desk = desk; columns = columns; fields = fields })
whole-by desk columns fields None is = cc is
whole-by desk columns fields (Some texts) is =
    let same : (columns, fields) ≡ (map (λ (each : Column × List ℕ). each.0) texts, map (λ (each : Column × List ℕ). each.1) texts) = cc is in
    ap (λ (pair : List Column × List (List ℕ)). Some (record { desk = desk; columns = pair.0; fields = pair.1 })) (sym same)

pub whole-row : (value : Data) (desk : Option (List ℕ)) (columns : List Column) (fields : List (List ℕ)) → desk_at (get (codes "desk") value) ≡ Some desk
    → Some (columns, fields) ≡ with_more [] [] (texts_in all_columns value) → members_in value ≡ Some (record { desk = desk; columns = columns; fields = fields })
unfolding members_in
whole-row value desk columns fields is read = rw is (whole-by desk columns fields (texts_in all_columns value) read)

pub no-desk : (value : Data) → desk_at (get (codes "desk") value) ≡ None → members_in value ≡ None
unfolding members_in
no-desk value none = rw none refl

none-by : (desk : Option (List ℕ)) (texts : Option Texts) → None ≡ with_more [] [] texts → (texts >>= λ found. Some (row_of desk found)) ≡ None
none-by desk None is = refl
none-by desk (Some texts) is = cc is

pub no-text : (value : Data) (desk : Option (List ℕ)) → desk_at (get (codes "desk") value) ≡ Some desk → None ≡ with_more [] [] (texts_in all_columns value) → members_in value ≡ None
unfolding members_in
no-text value desk is none = rw is (none-by desk (texts_in all_columns value) none)

-- ---- names

ascii : (bytes : List ℕ) → list_all (λ b. nat_lt b 128) bytes ≡ true → IsUtf8 bytes
ascii bytes all =
    IsUtf8-from_ascii bytes (IsAscii-from_all bytes (λ i d inside.
    let low : nat_lt (get_or bytes i d) 128 ≡ true = AllPass-from_list_all (λ b. nat_lt b 128) bytes all i d inside in
    grind (arith, nat_tests, low)))

is-ascii : (column : Column) → list_all (λ b. nat_lt b 128) (name_of column) ≡ true
is-ascii column.Reference = refl
is-ascii column.Cusip = refl
is-ascii column.Side = refl
is-ascii column.Par = refl
is-ascii column.Settle = refl
is-ascii column.Basis = refl
is-ascii column.Value = refl
is-ascii column.Fee = refl
is-ascii column.Price = refl
is-ascii column.Yield = refl
is-ascii column.Redemption = refl
is-ascii column.Days = refl
is-ascii column.Principal = refl
is-ascii column.Accrued = refl
is-ascii column.Total = refl
is-ascii column.Kind = refl
is-ascii column.Dated = refl
is-ascii column.First = refl
is-ascii column.Maturity = refl
is-ascii column.Coupon = refl
is-ascii column.Calls = refl
is-ascii column.DayCount = refl

pub name-text : (column : Column) → IsUtf8 (name_of column)
name-text column = ascii (name_of column) (is-ascii column)

-- ---- members

-- the names of members are the keys of their map
pub names-of-keys : (members : List (String Global × Value)) → names_in (members_view members) ≡ map string_bytes (keys_of members)
names-of-keys [] = refl
names-of-keys (first ∷ others) = ap (λ names. string_bytes first.0 ∷ names) (names-of-keys others)
