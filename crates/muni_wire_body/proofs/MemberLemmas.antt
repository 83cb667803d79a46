-- A body asks for the same whatever other members it has, and a check has none.
use Rattle.std.proofs.Common.{◌≡◌, ◌≢◌, ◌&&◌, ℕ, List, [], ◌∷◌, Bool, true, false, Ordering, Less, Equal, Greater, bytes_eq, nat_cmp, codes, find, map, option_map, Option, Some, None, refl, sym, subst, ap, arith, ◌∙◌}
use Rattle.std.specs.Cmp.Lexicographic.{slice_cmp}
use Rattle.std.specs.List.{All, list_all}
use Rattle.std.specs.Ordering.{match_ordering}
use Rattle.std.proofs.lemmas.List.Elements.{All-tail}
use Rattle.std.proofs.lemmas.Map.Lookups.{exact_bytes}
use Rattle.std.proofs.lemmas.Slice.Eq.{bytes_eq-Decides}
use Rattle.serde_json.specs.Data.{Data, null, boolean, number, string, array, object, Members, no_members, member}
use Rattle.serde_json.specs.Find.{get, get_member}
use Rattle.muni_msg.specs.Fields.{◌>>=◌}
use Rattle.muni_msg.specs.declared.asked.Side.TheVariants.{Buy}
use Rattle.muni_wire_body.specs.Body.{data_of, request_of, request_in, command_in, key_in, asked_in, shown_in, fee_in, terms_in, calendar_in, basis_in, issue_with, issue_in}
use Rattle.muni_wire_body.specs.OtherMembers.{issue_names, member_names}
use Rattle.muni_wire_body.specs.Stated.{is_known, names_in, row_in}
use Rattle.muni_msg.specs.Columns.{all_columns, column_named, name_of}
use Rattle.muni_msg.specs.declared.column.Column.{Column}
use Rattle.muni_wire_body.specs.declared.look.Request.TheVariants.{Book, Check}
use Rattle.muni_wire_body.proofs.BodyLemmas.{request-of-book}
use Rattle.muni_wire_body.specs.declared.form.Form.{Form}
use Rattle.muni_wire_body.specs.declared.form.Form.TheVariants as form

same-key : (a b : Data) → get (codes "desk") a ≡ get (codes "desk") b → get (codes "reference") a ≡ get (codes "reference") b → key_in a ≡ key_in b
same-key a b desk reference = rw (desk, reference) refl

same-quote : (a b : Data) → get (codes "cusip") a ≡ get (codes "cusip") b → get (codes "par") a ≡ get (codes "par") b → get (codes "settle") a ≡ get (codes "settle") b
    → get (codes "basis") a ≡ get (codes "basis") b → get (codes "value") a ≡ get (codes "value") b → asked_in Buy 0 a ≡ asked_in Buy 0 b
unfolding asked_in
same-quote a b cusip par settle basis value = rw (cusip, par, settle, basis, value) refl

same-shown : (a b : Data) → get (codes "each") a ≡ get (codes "each") b → get (codes "risk") a ≡ get (codes "risk") b → shown_in a ≡ shown_in b
unfolding shown_in
same-shown a b each risk = rw (each, risk) refl

same-terms : (a b : Data) → get (codes "cusip") a ≡ get (codes "cusip") b → get (codes "par") a ≡ get (codes "par") b → get (codes "settle") a ≡ get (codes "settle") b
    → get (codes "basis") a ≡ get (codes "basis") b → get (codes "value") a ≡ get (codes "value") b → get (codes "side") a ≡ get (codes "side") b → get (codes "fee") a ≡ get (codes "fee") b
    → terms_in a ≡ terms_in b
unfolding terms_in asked_in fee_in
same-terms a b cusip par settle basis value side fee = rw (side, fee, cusip, par, settle, basis, value) refl

same-issue : (a b : Data) → All (λ name. get name a ≡ get name b) (member_names form.Issue) → issue_in a ≡ issue_in b
unfolding issue_with calendar_in basis_in
same-issue a b same =
    let cusip : get (codes "cusip") a ≡ get (codes "cusip") b = same 0 [] (omega arith) in
    let name : get (codes "name") a ≡ get (codes "name") b = same 1 [] (omega arith) in
    let kind : get (codes "kind") a ≡ get (codes "kind") b = same 2 [] (omega arith) in
    let dated : get (codes "dated") a ≡ get (codes "dated") b = same 3 [] (omega arith) in
    let maturity : get (codes "maturity") a ≡ get (codes "maturity") b = same 4 [] (omega arith) in
    let coupon : get (codes "coupon") a ≡ get (codes "coupon") b = same 5 [] (omega arith) in
    let first : get (codes "first") a ≡ get (codes "first") b = same 6 [] (omega arith) in
    let calls : get (codes "calls") a ≡ get (codes "calls") b = same 7 [] (omega arith) in
    let days : get (codes "days") a ≡ get (codes "days") b = same 8 [] (omega arith) in
    rw (days, kind, first, dated, maturity, cusip, name, coupon, calls) refl

same-command : (posted : Form) (a b : Data) → All (λ name. get name a ≡ get name b) (member_names posted) → command_in posted a ≡ command_in posted b
unfolding command_in
same-command form.Issue a b same = rw (same-issue a b same) refl
same-command form.Amendment a b same =
    let number : get (codes "number") a ≡ get (codes "number") b = same 0 [] (omega arith) in
    let issue = same-issue a b (All-tail (λ name. get name a ≡ get name b) (codes "number") issue_names same) in
    rw (number, issue) refl
same-command form.Trade a b same =
    let issue : get (codes "issue") a ≡ get (codes "issue") b = same 9 [] (omega arith) in
    rw (
      same-key a b (same 7 [] (omega arith)) (same 8 [] (omega arith)),
      same-terms a b (same 0 [] (omega arith)) (same 1 [] (omega arith)) (same 2 [] (omega arith)) (same 3 [] (omega arith)) (same 4 [] (omega arith)) (same 5 [] (omega arith)) (same 6 [] (omega arith)),
      issue,
    ) refl
same-command form.Correction a b same =
    let number : get (codes "number") a ≡ get (codes "number") b = same 9 [] (omega arith) in
    let issue : get (codes "issue") a ≡ get (codes "issue") b = same 10 [] (omega arith) in
    rw (
      same-key a b (same 7 [] (omega arith)) (same 8 [] (omega arith)),
      number,
      same-terms a b (same 0 [] (omega arith)) (same 1 [] (omega arith)) (same 2 [] (omega arith)) (same 3 [] (omega arith)) (same 4 [] (omega arith)) (same 5 [] (omega arith)) (same 6 [] (omega arith)),
      issue,
    ) refl
same-command form.Cancellation a b same =
    let number : get (codes "number") a ≡ get (codes "number") b = same 2 [] (omega arith) in
    rw (same-key a b (same 0 [] (omega arith)) (same 1 [] (omega arith)), number) refl
same-command form.Quote a b same =
    rw (
      same-quote a b (same 0 [] (omega arith)) (same 1 [] (omega arith)) (same 2 [] (omega arith)) (same 3 [] (omega arith)) (same 4 [] (omega arith)),
      same-shown a b (same 5 [] (omega arith)) (same 6 [] (omega arith)),
    ) refl
same-command form.Check a b same = refl

pub other-members-are-ignored : (posted : Form) (one other : List ℕ) (a b : Data) → posted ≢ form.Check → data_of one ≡ Some a → data_of other ≡ Some b
    → All (λ name. get name a ≡ get name b) (member_names posted) → request_of posted one ≡ request_of posted other
other-members-are-ignored posted one other a b no_check is_one is_other same =
    ap (λ value. value >>= request_in posted) is_one ∙ request-of-book posted a no_check ∙ ap (option_map (λ command. Book command)) (same-command posted a b same)
    ∙ sym (request-of-book posted b no_check) ∙ sym (ap (λ value. value >>= request_in posted) is_other)

-- ---- a check

differ : (a b : List ℕ) → a ≢ b → bytes_eq b a ≡ false
differ a b other = grind (arith, bytes_eq-Decides b a, λ (e : b ≡ a). other (sym e))

no-column : (columns : List Column) (name : List ℕ) → All (λ known. name ≢ known) (map name_of columns) → find (λ column. bytes_eq (name_of column) name) columns ≡ None
no-column [] name others = refl
no-column (column ∷ columns) name others =
    let here : bytes_eq (name_of column) name ≡ false = differ name (name_of column) (others 0 [] (omega arith)) in
    rw here (no-column columns name (All-tail (λ known. name ≢ known) (name_of column) (map name_of columns) others))

unknown : (name : List ℕ) → All (λ known. name ≢ known) (member_names form.Check) → is_known name ≡ false
unknown name others =
    let desk : bytes_eq name (codes "desk") ≡ false = differ (codes "desk") name (λ e. others 0 [] (omega arith) (sym e)) in
    let column : column_named name ≡ None = no-column all_columns name (All-tail (λ known. name ≢ known) (codes "desk") (map name_of all_columns) others) in
    rw (desk, column) refl

-- a name under which there is a member is one of the names
and-false : (b : Bool) → (b && false) ≡ false
and-false true = refl
and-false false = refl

found-by : (o : Ordering) (name first : List ℕ) (there : Data) (rest : Option Data) (found : Data) (others : Bool) → slice_cmp nat_cmp name first ≡ o → is_known name ≡ false
    → (rest ≡ Some found → others ≡ false) → match_ordering o rest (Some there) rest ≡ Some found → (is_known first && others) ≡ false
found-by Less name first there rest found others is none later e = rw (later e) (and-false (is_known first))
found-by Equal name first there rest found others is none later e =
    let same : name ≡ first = exact_bytes name first is in
    let test : is_known first ≡ false = subst (λ text. is_known text ≡ false) same none in
    rw test refl
found-by Greater name first there rest found others is none later e = rw (later e) (and-false (is_known first))

not-known : (members : Members) (name : List ℕ) (found : Data) → get_member name members ≡ Some found → is_known name ≡ false → list_all is_known (names_in members) ≡ false
not-known no_members name found e none = cc e
not-known (member first there others) name found e none =
    found-by (slice_cmp nat_cmp name first) name first there (get_member name others) found (list_all is_known (names_in others)) refl none
    (λ later. not-known others name found later none) e

no-row : (value found : Data) (name : List ℕ) → get name value ≡ Some found → is_known name ≡ false → row_in value ≡ None
unfolding row_in
no-row null found name e none = cc
no-row (boolean b) found name e none = cc
no-row (number n) found name e none = cc
no-row (string s) found name e none = cc
no-row (array ds) found name e none = cc
no-row (object members) found name e none = rw (not-known members name found e none) refl

pub checks-have-no-others : (body name : List ℕ) (value found : Data) → data_of body ≡ Some value → get name value ≡ Some found
    → All (λ known. name ≢ known) (member_names form.Check) → request_of form.Check body ≡ None
checks-have-no-others body name value found is there others =
    ap (λ value. value >>= request_in form.Check) is ∙ ap (option_map (λ row. Check row)) (no-row value found name there (unknown name others))
