-- The columns of a row, and the one that is reported.
use Rattle.std.proofs.Common.{◌≡◌, ◌≤◌, ◌+◌, ◌-◌, ◌↔◌, ◌||◌, ◌&&◌, ℕ, zero, suc, Bool, true, false, List, [], ◌∷◌, ◌++◌, length, Option, Some, None, option_map, refl, sym, ap, ◌∙◌, subst, arith, Result, Ok, Err}
use Rattle.std.specs.Prelude.{codes, not, is_some, is_ok, slice_get, if◌then◌else◌, ◌==◌, IsOk}
use Rattle.std.specs.Char.{is_ascii_alphanumeric}
use Rattle.std.specs.Result.{result_ok}
use Rattle.std.specs.Str.{bytes_eq}
use Rattle.std.proofs.lemmas.Bool.Decides.{nat_tests}
use Rattle.std.proofs.lemmas.Option.{none-some, same_Some}
use Rattle.std.proofs.lemmas.Slice.Eq.{bytes_eq-Decides}
use Rattle.muni_dec.specs.Values.{coupon_reading, par_reading, price_reading, yield_reading}
use Rattle.muni_days.specs.Day.{day_reading}
use Rattle.muni_days.specs.declared.day.Day.{Day}
use Rattle.muni_terms.specs.Check.{pays_interest}
use Rattle.muni_terms.specs.declared.row.Kind.{Kind}
use Rattle.muni_terms.specs.declared.row.Kind.TheVariants.{Periodic, Zero, AtRedemption, Discount}
use Rattle.muni_terms.specs.declared.row.IssueRow.{IssueRow}
use Rattle.muni_msg.specs.Fields.{day_in, kind_reading, basis_field, side_reading, given_reading, fee_field, version_number}
use Rattle.muni_msg.specs.IssueFields.{cusip_reading, issue_name_reading, coupon_by}
use Rattle.muni_msg.specs.Names.{is_desk_letter}
use Rattle.muni_msg.specs.NameReading.{name_reading}
use Rattle.muni_msg.specs.declared.asked.Given.{Given}
use Rattle.muni_msg.specs.declared.asked.Given.TheVariants.{AtYield, AtPrice, AtRate}
use Rattle.muni_msg.specs.declared.asked.Terms.{Terms}
use Rattle.muni_msg.specs.declared.command.Key.{Key}
use Rattle.muni_msg.specs.declared.command.Command.{Command}
use Rattle.muni_msg.specs.declared.command.Command.TheVariants.{AddIssue, Amend}
use Rattle.muni_msg.specs.Calls.{calls_field}
use Rattle.muni_import.specs.ColumnLaws.{is_day, is_first_date, pays_none, is_coupon, is_value, issue_columns, key_columns, number_columns, terms_columns, issue_number_columns, columns_of, IsCounted, IsBad, IsLeastBad}
use Rattle.muni_import.specs.Row.{◌>>=◌, Row, field, in_column, key_in, issue_number_field, is_basis, given_in, terms_in, is_kind, not_empty, kind_in, dates_in, calendar_in, issue_in, name_of, has_count, command_in, row_by, row_of}
use Rattle.muni_import.specs.declared.row.RowFault.{RowFault}
use Rattle.muni_import.specs.declared.row.RowFault.TheVariants.{FieldCount, BadField}
use Rattle.muni_import.specs.declared.row.RowName.{RowName}
use Rattle.muni_import.specs.declared.row.RowName.TheVariants.{Issue, Amendment, Trade, Correction, Cancellation}

-- ---- the texts of columns
same-text : (text other : List ℕ) → bytes_eq text other ≡ true → text ≡ other
same-text text other test = (bytes_eq-Decides text other).0 test

-- what holds of each text that names a kind
by-kind : (P : List ℕ → Type 0) → P (codes "periodic") → P (codes "zero") → P (codes "at-redemption") → P (codes "discount") → (text : List ℕ) → is_kind text ≡ true → P text
by-kind P periodic none redemption discount text is =
    by (bytes_eq text (codes "periodic")) (bytes_eq text (codes "zero")) (bytes_eq text (codes "at-redemption")) (bytes_eq text (codes "discount")) refl refl refl refl is
  where
    by : (a b c d : Bool) → bytes_eq text (codes "periodic") ≡ a → bytes_eq text (codes "zero") ≡ b → bytes_eq text (codes "at-redemption") ≡ c → bytes_eq text (codes "discount") ≡ d → (a || (b || (c || d))) ≡ true → P text
    by true b c d is_a is_b is_c is_d is = subst P (sym (same-text text (codes "periodic") is_a)) periodic
    by false true c d is_a is_b is_c is_d is = subst P (sym (same-text text (codes "zero") is_b)) none
    by false false true d is_a is_b is_c is_d is = subst P (sym (same-text text (codes "at-redemption") is_c)) redemption
    by false false false true is_a is_b is_c is_d is = subst P (sym (same-text text (codes "discount") is_d)) discount
    by false false false false is_a is_b is_c is_d is = absurd (cc is)

-- what holds of each text that names a basis
by-basis : (P : List ℕ → Type 0) → P (codes "yield") → P (codes "price") → P (codes "rate") → (text : List ℕ) → is_basis text ≡ true → P text
by-basis P yield price rate text is =
    by (bytes_eq text (codes "yield")) (bytes_eq text (codes "price")) (bytes_eq text (codes "rate")) refl refl refl is
  where
    by : (a b c : Bool) → bytes_eq text (codes "yield") ≡ a → bytes_eq text (codes "price") ≡ b → bytes_eq text (codes "rate") ≡ c → (a || (b || c)) ≡ true → P text
    by true b c is_a is_b is_c is = subst P (sym (same-text text (codes "yield") is_a)) yield
    by false true c is_a is_b is_c is = subst P (sym (same-text text (codes "price") is_b)) price
    by false false true is_a is_b is_c is = subst P (sym (same-text text (codes "rate") is_c)) rate
    by false false false is_a is_b is_c is = absurd (cc is)

-- a reading is some if it has no fault, and what is made of it too
reads-ok : {A E : Type 0} (reading : Result A E) → is_some (result_ok reading) ≡ is_ok reading
reads-ok (Ok x) = refl
reads-ok (Err e) = refl

made-some : {A B : Type 0} (make : A → B) (reading : Option A) → is_some (option_map make reading) ≡ is_some reading
made-some make None = refl
made-some make (Some x) = refl

-- a first interest date reads exactly if the law says so
first-by : (empty : Bool) (kind text : List ℕ) → is_kind kind ≡ true → (length text == 0) ≡ empty → is_some (kind_reading kind (if empty then None else Some text)) ≡ (if bytes_eq kind (codes "periodic") then is_day text else empty)
first-by true kind [] is none = by-kind (λ k. is_some (kind_reading k None) ≡ (if bytes_eq k (codes "periodic") then is_day [] else true)) refl refl refl refl kind is
first-by true kind (byte ∷ text) is none = absurd (grind (arith, nat_tests, none))
first-by false kind text is some =
    by-kind (λ k. is_some (kind_reading k (Some text)) ≡ (if bytes_eq k (codes "periodic") then is_day text else false))
    (made-some (λ date. Periodic date) (day_in text) ∙ reads-ok (day_reading text))
    refl refl refl kind is

first-reads : (kind text : List ℕ) → is_kind kind ≡ true → is_some (kind_reading kind (not_empty text)) ≡ is_first_date kind text
first-reads kind text is = first-by (length text == 0) kind text is refl

-- a coupon reads exactly if the law says so
coupon-by : (none empty reads : Bool) (text : List ℕ) → (length text == 0) ≡ empty → is_ok (coupon_reading text) ≡ reads → is_some (coupon_by (not none) text) ≡ (reads || (none && empty))
coupon-by none empty reads text is_empty is_read = rw is_empty (by none empty reads is_read) where
  by : (none empty reads : Bool) → is_ok (coupon_reading text) ≡ reads → is_some (if not (not none) && empty then Some 0 else result_ok (coupon_reading text)) ≡ (reads || (none && empty))
  by true true true is = refl
  by true true false is = refl
  by true false true is = reads-ok (coupon_reading text) ∙ is
  by true false false is = reads-ok (coupon_reading text) ∙ is
  by false empty true is = reads-ok (coupon_reading text) ∙ is
  by false empty false is = reads-ok (coupon_reading text) ∙ is

coupon-reads : (kind text : List ℕ) → is_some (coupon_by (not (pays_none kind)) text) ≡ is_coupon kind text
coupon-reads kind text = coupon-by (pays_none kind) (length text == 0) (is_ok (coupon_reading text)) text refl refl

-- a kind pays interest if its text does not say that it pays none
kind-pays : (text : List ℕ) (first : Option (List ℕ)) (kind : Kind) → is_kind text ≡ true → kind_reading text first ≡ Some kind → pays_interest kind ≡ not (pays_none text)
kind-pays text first kind named =
    by-kind (λ t. kind_reading t first ≡ Some kind → pays_interest kind ≡ not (pays_none t))
    (periodic first) (zero_kind first) (redemption first) (discount first) text named
  where
    dated : (date : Option Day) → option_map (λ date. Periodic date) date ≡ Some kind → pays_interest kind ≡ true
    dated None is = absurd (none-some kind is)
    dated (Some date) is = ap pays_interest (sym (same_Some (Periodic date) kind is))

    periodic : (first : Option (List ℕ)) → kind_reading (codes "periodic") first ≡ Some kind → pays_interest kind ≡ true
    periodic None is = absurd (none-some kind is)
    periodic (Some first) is = dated (day_in first) is

    zero_kind : (first : Option (List ℕ)) → kind_reading (codes "zero") first ≡ Some kind → pays_interest kind ≡ false
    zero_kind None is = ap pays_interest (sym (same_Some Zero kind is))
    zero_kind (Some first) is = absurd (none-some kind is)

    redemption : (first : Option (List ℕ)) → kind_reading (codes "at-redemption") first ≡ Some kind → pays_interest kind ≡ true
    redemption None is = ap pays_interest (sym (same_Some AtRedemption kind is))
    redemption (Some first) is = absurd (none-some kind is)

    discount : (first : Option (List ℕ)) → kind_reading (codes "discount") first ≡ Some kind → pays_interest kind ≡ false
    discount None is = ap pays_interest (sym (same_Some Discount kind is))
    discount (Some first) is = absurd (none-some kind is)

-- a value reads exactly if the law says so
value-reads : (basis text : List ℕ) → is_basis basis ≡ true → is_some (given_reading basis text) ≡ is_value basis text
value-reads basis text is =
    by-basis (λ b. is_some (given_reading b text) ≡ is_value b text)
    (made-some (λ y. AtYield y) (result_ok (yield_reading text)) ∙ reads-ok (yield_reading text))
    (made-some (λ price. AtPrice price) (result_ok (price_reading text)) ∙ reads-ok (price_reading text))
    (made-some (λ rate. AtRate rate) (result_ok (yield_reading text)) ∙ reads-ok (yield_reading text))
    basis is

-- ---- the first column that does not read
-- what columns say, the first of which has a number: the first that does not read, or a value
abbrev Tells : (A : Type 0) → ℕ → List Bool → Result A RowFault → Type 0
Tells A n [] row = (x : A) × (row ≡ Ok x)
Tells A n (true ∷ columns) row = Tells A (suc n) columns row
Tells A n (false ∷ columns) row = row ≡ Err (BadField n)

-- one column, and those after it
column-tells : (A B : Type 0) (n m : ℕ) (read : Option A) (reads : Bool) (more : A → Result B RowFault) (columns : List Bool) → is_some read ≡ reads → m ≡ suc n
    → ((x : A) → read ≡ Some x → Tells B m columns (more x)) → Tells B n (reads ∷ columns) (in_column n read >>= more)
column-tells A B n m None reads more columns same next behind = subst (λ r. Tells B n (r ∷ columns) (Err (BadField n))) same refl
column-tells A B n m (Some x) reads more columns same next behind = subst (λ r. Tells B n (r ∷ columns) (more x)) same (subst (λ k. Tells B k columns (more x)) next (behind x refl))

-- one column, and none after it
last-tells : (A : Type 0) (n : ℕ) (read : Option A) (reads : Bool) → is_some read ≡ reads → Tells A n (reads ∷ []) (in_column n read)
last-tells A n None reads same = subst (λ r. Tells A n (r ∷ []) (Err (BadField n))) same refl
last-tells A n (Some x) reads same = subst (λ r. Tells A n (r ∷ []) (Ok x)) same (x, refl)

-- a test of a column, and the columns after it
test-tells : (A : Type 0) (n m : ℕ) (test : Bool) (columns : List Bool) (row : Result A RowFault) → m ≡ suc n
    → (test ≡ true → Tells A m columns row) → Tells A n (test ∷ columns) (if test then row else Err (BadField n))
test-tells A n m true columns row next behind = subst (λ k. Tells A k columns row) next (behind refl)
test-tells A n m false columns row next behind = refl

-- columns, and others after them
then-tells : (A B : Type 0) (n m : ℕ) (front columns : List Bool) (row : Result A RowFault) (more : A → Result B RowFault) → n + length front ≡ m
    → Tells A n front row → ((x : A) → row ≡ Ok x → Tells B m columns (more x)) → Tells B n (front ++ columns) (row >>= more)
then-tells A B n m [] columns row more next tells behind =
    let here : m ≡ n = omega (arith, next) in
    subst (λ r. Tells B n columns (r >>= more)) (sym tells.1) (subst (λ k. Tells B k columns (more tells.0)) here (behind tells.0 tells.1))
then-tells A B n m (true ∷ front) columns row more next tells behind = then-tells A B (suc n) m front columns row more (omega (arith, next)) tells behind
then-tells A B n m (false ∷ front) columns row more next tells behind = ap (λ r. r >>= more) tells

-- what is made of the value
made-tells : (A B : Type 0) (n : ℕ) (columns : List Bool) (row : Result A RowFault) (make : A → B) → Tells A n columns row → Tells B n columns (row >>= λ x. Ok (make x))
made-tells A B n [] row make tells = (make tells.0, ap (λ r. r >>= λ x. Ok (make x)) tells.1)
made-tells A B n (true ∷ columns) row make tells = made-tells A B (suc n) columns row make tells
made-tells A B n (false ∷ columns) row make tells = ap (λ r. r >>= λ x. Ok (make x)) tells

-- ---- the terms of a trade
given-tells : (n m : ℕ) (fields : List (List ℕ)) → m ≡ suc n → m ≡ n + 1 → Tells Given n (is_basis (field n fields) ∷ is_value (field n fields) (field m fields) ∷ []) (given_in n fields)
given-tells n m fields next same =
    subst (λ k. Tells Given n (is_basis (field n fields) ∷ is_value (field n fields) (field m fields) ∷ []) (if is_basis (field n fields) then in_column k (given_reading (field n fields) (field k fields)) else Err (BadField n))) same
    (test-tells Given n m (is_basis (field n fields)) _ _ next (λ is. last-tells Given m (given_reading (field n fields) (field m fields)) _ (value-reads (field n fields) (field m fields) is)))

key-tells : (fields : List (List ℕ)) → Tells Key 2 (key_columns fields) (key_in fields)
key-tells fields =
    column-tells _ Key 2 3 (result_ok (name_reading is_desk_letter 16 (field 2 fields))) _ _ _ (reads-ok (name_reading is_desk_letter 16 (field 2 fields))) refl (λ desk _.
    column-tells _ Key 3 4 (result_ok (name_reading is_ascii_alphanumeric 20 (field 3 fields))) _ _ _ (reads-ok (name_reading is_ascii_alphanumeric 20 (field 3 fields))) refl (λ reference _. (_, refl)))

terms-tell : (first : ℕ) (fields : List (List ℕ)) → Tells Terms first (terms_columns first fields) (terms_in first fields)
unfolding terms_in
terms-tell first fields =
    column-tells _ Terms first (first + 1) (cusip_reading (field first fields)) _ _ _ refl (omega arith) (λ cusip _.
    column-tells _ Terms (first + 1) (first + 2) (side_reading (field (first + 1) fields)) _ _ _ refl (omega arith) (λ side _.
    column-tells _ Terms (first + 2) (first + 3) (result_ok (par_reading (field (first + 2) fields))) _ _ _ (reads-ok (par_reading (field (first + 2) fields))) (omega arith) (λ par _.
    column-tells _ Terms (first + 3) (first + 4) (day_in (field (first + 3) fields)) _ _ _ (reads-ok (day_reading (field (first + 3) fields))) (omega arith) (λ settle _.
    then-tells Given Terms (first + 4) (first + 6) (is_basis (field (first + 4) fields) ∷ is_value (field (first + 4) fields) (field (first + 5) fields) ∷ []) _ (given_in (first + 4) fields) _ (omega arith) (given-tells (first + 4) (first + 5) fields (omega arith) (omega arith)) (λ given _.
    column-tells _ Terms (first + 6) (first + 7) (fee_field (field (first + 6) fields)) _ _ _ refl (omega arith) (λ fee _. (_, refl)))))))

-- ---- the terms of an issue
abbrev dates_columns : ℕ → List (List ℕ) → List Bool
dates_columns first fields =
    is_day (field (first + 2) fields) ∷ is_first_date (field (first + 1) fields) (field (first + 3) fields) ∷ is_day (field (first + 4) fields) ∷ []

dates-tell : (first : ℕ) (fields : List (List ℕ)) → is_kind (field (first + 1) fields) ≡ true → Tells (Kind × Day × Day) (first + 2) (dates_columns first fields) (dates_in first fields)
dates-tell first fields named =
    column-tells _ (Kind × Day × Day) (first + 2) (first + 3) (day_in (field (first + 2) fields)) _ _ _ (reads-ok (day_reading (field (first + 2) fields))) (omega arith) (λ dated _.
    column-tells _ (Kind × Day × Day) (first + 3) (first + 4) (kind_reading (field (first + 1) fields) (not_empty (field (first + 3) fields))) _ _ _ (first-reads (field (first + 1) fields) (field (first + 3) fields) named) (omega arith) (λ kind _.
    column-tells _ (Kind × Day × Day) (first + 4) (first + 5) (day_in (field (first + 4) fields)) _ _ _ (reads-ok (day_reading (field (first + 4) fields))) (omega arith) (λ maturity _. (_, refl))))

calendar-tells : (first : ℕ) (fields : List (List ℕ)) → Tells (Kind × Day × Day) (first + 1) (is_kind (field (first + 1) fields) ∷ dates_columns first fields) (calendar_in first fields)
unfolding calendar_in
calendar-tells first fields = test-tells (Kind × Day × Day) (first + 1) (first + 2) (is_kind (field (first + 1) fields)) _ (dates_in first fields) (omega arith) (dates-tell first fields)

-- what the calendar of an issue is made of
bound : (A B : Type 0) (row : Result A RowFault) (more : A → Result B RowFault) (y : B) → (row >>= more) ≡ Ok y → (x : A) × (row ≡ Ok x) × (more x ≡ Ok y)
bound A B (Ok x) more y is = (x, refl, is)
bound A B (Err fault) more y is = absurd (cc is)

column-read : (A : Type 0) (n : ℕ) (read : Option A) (x : A) → in_column n read ≡ Ok x → read ≡ Some x
column-read A n None x is = absurd (cc is)
column-read A n (Some y) x is = ap Some (cc is)

calendar-by : (test : Bool) (first : ℕ) (fields : List (List ℕ)) (calendar : Kind × Day × Day) → is_kind (field (first + 1) fields) ≡ test → (if test then dates_in first fields else Err (BadField (first + 1))) ≡ Ok calendar
    → pays_interest calendar.0 ≡ not (pays_none (field (first + 1) fields))
calendar-by false first fields calendar named is = absurd (cc is)
calendar-by true first fields calendar named is =
    let dated = bound _ _ (in_column (first + 2) (day_in (field (first + 2) fields))) _ calendar is in
    let kind = bound _ _ (kind_in first fields) _ calendar dated.2 in
    let maturity = bound _ _ (in_column (first + 4) (day_in (field (first + 4) fields))) _ calendar kind.2 in
    let same : kind.0 ≡ calendar.0 = cc maturity.2 in
    ap pays_interest (sym same) ∙ kind-pays (field (first + 1) fields) (not_empty (field (first + 3) fields)) kind.0 named (column-read _ (first + 3) _ kind.0 kind.1)

-- so a coupon reads beside that kind as beside its text
calendar-coupon : (first : ℕ) (fields : List (List ℕ)) (calendar : Kind × Day × Day) → calendar_in first fields ≡ Ok calendar
    → is_some (coupon_by (pays_interest calendar.0) (field (first + 5) fields)) ≡ is_coupon (field (first + 1) fields) (field (first + 5) fields)
unfolding calendar_in
calendar-coupon first fields calendar is =
    ap (λ pays. is_some (coupon_by pays (field (first + 5) fields))) (calendar-by (is_kind (field (first + 1) fields)) first fields calendar refl is) ∙ coupon-reads (field (first + 1) fields) (field (first + 5) fields)

issue-tells : (first : ℕ) (cusip : List ℕ) (fields : List (List ℕ)) → Tells IssueRow first (issue_columns first fields) (issue_in first cusip fields)
unfolding issue_in
issue-tells first cusip fields =
    column-tells _ IssueRow first (first + 1) (issue_name_reading (field first fields)) _ _ _ refl (omega arith) (λ name _.
    then-tells (Kind × Day × Day) IssueRow (first + 1) (first + 5) (is_kind (field (first + 1) fields) ∷ dates_columns first fields) _ (calendar_in first fields) _ (omega arith) (calendar-tells first fields) (λ calendar is.
    column-tells _ IssueRow (first + 5) (first + 6) (coupon_by (pays_interest calendar.0) (field (first + 5) fields)) _ _ _ (calendar-coupon first fields calendar is) (omega arith) (λ coupon _.
    column-tells _ IssueRow (first + 6) (first + 7) (calls_field (field (first + 6) fields)) _ _ _ refl (omega arith) (λ calls _.
    column-tells _ IssueRow (first + 7) (first + 8) (basis_field (field (first + 7) fields)) _ _ _ refl (omega arith) (λ basis _. (_, refl))))))

-- ---- a row
row-tells : (name : RowName) (fields : List (List ℕ)) → Tells Command 2 (columns_of name fields) (command_in name fields)
unfolding command_in
row-tells Issue fields =
    column-tells _ Command 2 3 (cusip_reading (field 2 fields)) _ _ _ refl refl (λ cusip _.
    made-tells IssueRow Command 3 (issue_columns 3 fields) (issue_in 3 cusip fields) (λ issue. AddIssue issue) (issue-tells 3 cusip fields))
row-tells Amendment fields =
    column-tells _ Command 2 3 (cusip_reading (field 2 fields)) _ _ _ refl refl (λ cusip _.
    column-tells _ Command 3 4 (version_number (field 3 fields)) _ _ _ refl refl (λ number _.
    made-tells IssueRow Command 4 (issue_columns 4 fields) (issue_in 4 cusip fields) (λ issue. Amend number issue) (issue-tells 4 cusip fields)))
row-tells Trade fields =
    then-tells Key Command 2 4 (key_columns fields) (terms_columns 4 fields ++ issue_number_columns 11 fields) (key_in fields) _ refl (key-tells fields) (λ key _.
    then-tells Terms Command 4 11 (terms_columns 4 fields) (issue_number_columns 11 fields) (terms_in 4 fields) _ refl (terms-tell 4 fields) (λ terms _.
    column-tells _ Command 11 12 (issue_number_field (field 11 fields)) _ _ _ refl refl (λ issue_number _. (_, refl))))
row-tells Correction fields =
    then-tells Key Command 2 4 (key_columns fields) (number_columns 4 fields ++ terms_columns 5 fields ++ issue_number_columns 12 fields) (key_in fields) _ refl (key-tells fields) (λ key _.
    column-tells _ Command 4 5 (version_number (field 4 fields)) _ _ _ refl refl (λ number _.
    then-tells Terms Command 5 12 (terms_columns 5 fields) (issue_number_columns 12 fields) (terms_in 5 fields) _ refl (terms-tell 5 fields) (λ terms _.
    column-tells _ Command 12 13 (issue_number_field (field 12 fields)) _ _ _ refl refl (λ issue_number _. (_, refl)))))
row-tells Cancellation fields =
    then-tells Key Command 2 4 (key_columns fields) (number_columns 4 fields) (key_in fields) _ refl (key-tells fields) (λ key _.
    column-tells _ Command 4 5 (version_number (field 4 fields)) _ _ _ refl refl (λ number _. (_, refl)))

counted-row : (name : RowName) (fields : List (List ℕ)) → IsCounted name fields → row_of fields ≡ command_in name fields
unfolding row_of
counted-row name fields row = ap (λ named. row_by named fields) row.named ∙ ap (λ test. if test then command_in name fields else Err FieldCount) row.counted

-- ---- the least column
-- a column that does not read, among those from a number on
abbrev IsBadFrom : ℕ → List Bool → ℕ → Type 0
IsBadFrom n columns column = (place : ℕ) × (column ≡ n + place) × (slice_get columns place ≡ Some false)

behind-bad : (n : ℕ) (reads : Bool) (columns : List Bool) (column : ℕ) → IsBadFrom (suc n) columns column → IsBadFrom n (reads ∷ columns) column
behind-bad n reads columns column (place, counted, bad) = (suc place, omega (arith, counted), bad)

bad-behind : (n : ℕ) (columns : List Bool) (column : ℕ) → IsBadFrom n (true ∷ columns) column → IsBadFrom (suc n) columns column
bad-behind n columns column (zero, counted, bad) = absurd (cc bad)
bad-behind n columns column (suc place, counted, bad) = (place, omega (arith, counted), bad)

abbrev IsLeast : ℕ → List Bool → ℕ → Type 0
IsLeast n columns column = IsBadFrom n columns column × ((other : ℕ) → IsBadFrom n columns other → column ≤ other)

told-least : (A : Type 0) (n : ℕ) (columns : List Bool) (row : Result A RowFault) (column : ℕ) → Tells A n columns row → row ≡ Err (BadField column) → IsLeast n columns column
told-least A n [] row column tells told = absurd (cc (tells.1, told))
told-least A n (true ∷ columns) row column tells told =
    let least = told-least A (suc n) columns row column tells told in
    (behind-bad n true columns column least.0, λ other bad. least.1 other (bad-behind n columns other bad))
told-least A n (false ∷ columns) row column tells told =
    let same : n ≡ column = cc (tells, told) in
    ((0, omega (arith, same), refl), λ other bad. omega (arith, same, bad.1))

least-told : (A : Type 0) (n : ℕ) (columns : List Bool) (row : Result A RowFault) (column : ℕ) → Tells A n columns row → IsLeast n columns column → row ≡ Err (BadField column)
least-told A n [] row column tells ((place, counted, bad), least) = absurd (cc bad)
least-told A n (true ∷ columns) row column tells (bad, least) =
    least-told A (suc n) columns row column tells (bad-behind n columns column bad, λ other is. least other (behind-bad n true columns other is))
least-told A n (false ∷ columns) row column tells (bad, least) =
    let most : column ≤ n = least n (0, omega arith, refl) in
    let same : n ≡ column = omega (arith, most, bad.1) in
    tells ∙ ap (λ k. Err (BadField k)) same

value-tells : (A : Type 0) (n : ℕ) (columns : List Bool) (row : Result A RowFault) (x : A) (column : ℕ) → Tells A n columns row → row ≡ Ok x → ¬ (IsBadFrom n columns column)
value-tells A n [] row x column tells is = λ bad. cc bad.2
value-tells A n (true ∷ columns) row x column tells is = λ bad. value-tells A (suc n) columns row x column tells is (bad-behind n columns column bad)
value-tells A n (false ∷ columns) row x column tells is = absurd (cc (tells, is))

none-bad : (A : Type 0) (n : ℕ) (columns : List Bool) (row : Result A RowFault) → Tells A n columns row → ((column : ℕ) → ¬ (IsBadFrom n columns column)) → (x : A) × (row ≡ Ok x)
none-bad A n [] row tells none = tells
none-bad A n (true ∷ columns) row tells none = none-bad A (suc n) columns row tells (λ column bad. none column (behind-bad n true columns column bad))
none-bad A n (false ∷ columns) row tells none = absurd (none n (0, omega arith, refl))

-- ---- the laws
bad-from : (name : RowName) (fields : List (List ℕ)) (column : ℕ) → IsBad name fields column → IsBadFrom 2 (columns_of name fields) column
bad-from name fields column bad = (column - 2, omega (arith, bad.behind_name), bad.does_not_read)

from-bad : (name : RowName) (fields : List (List ℕ)) (column : ℕ) → IsBadFrom 2 (columns_of name fields) column → IsBad name fields column
from-bad name fields column (place, counted, bad) =
    let same : place ≡ column - 2 = omega (arith, counted) in
    record {
      behind_name = omega (arith, counted);
      does_not_read = subst (λ at. slice_get (columns_of name fields) at ≡ Some false) same bad;
    }

least-from : (name : RowName) (fields : List (List ℕ)) (column : ℕ) → IsLeastBad name fields column → IsLeast 2 (columns_of name fields) column
least-from name fields column is = (bad-from name fields column is.bad, λ other bad. is.least other (from-bad name fields other bad))

from-least : (name : RowName) (fields : List (List ℕ)) (column : ℕ) → IsLeast 2 (columns_of name fields) column → IsLeastBad name fields column
from-least name fields column (bad, least) = record {
  bad = from-bad name fields column bad;
  least = λ other is. least other (bad-from name fields other is);
}

pub least-is-told : (name : RowName) (fields : List (List ℕ)) (column : ℕ) → IsCounted name fields → (row_of fields ≡ Err (BadField column)) ↔ IsLeastBad name fields column
least-is-told name fields column counted =
    let columns = columns_of name fields in
    let row = counted-row name fields counted in
    let tells = row-tells name fields in (
      λ told. from-least name fields column (told-least Command 2 columns (command_in name fields) column tells (sym row ∙ told)),
      λ least. row ∙ least-told Command 2 columns (command_in name fields) column tells (least-from name fields column least),
    )

ok-value : (row : Row) → IsOk row → (command : Command) × (row ≡ Ok command)
ok-value (Ok command) is = (command, refl)
ok-value (Err fault) is = absurd (cc is)

pub others-are-commands : (name : RowName) (fields : List (List ℕ)) → IsCounted name fields → IsOk (row_of fields) ↔ ((column : ℕ) → ¬ (IsBad name fields column))
others-are-commands name fields counted =
    let columns = columns_of name fields in
    let row = counted-row name fields counted in
    let tells = row-tells name fields in (
      λ is column bad. let command = ok-value (row_of fields) is in
          value-tells Command 2 columns (command_in name fields) command.0 column tells (sym row ∙ command.1) (bad-from name fields column bad),
      λ none. let command = none-bad Command 2 columns (command_in name fields) tells (λ column bad. none column (from-bad name fields column bad)) in
          ap is_ok (row ∙ command.1),
    )

pub name-is-first : (fields : List (List ℕ)) → name_of (field 1 fields) ≡ None → row_of fields ≡ Err (BadField 1)
unfolding row_of
name-is-first fields none = ap (λ named. row_by named fields) none

pub count-is-second : (name : RowName) (fields : List (List ℕ)) → name_of (field 1 fields) ≡ Some name → has_count name (length fields) ≡ false → row_of fields ≡ Err FieldCount
unfolding row_of
count-is-second name fields named other = ap (λ named. row_by named fields) named ∙ ap (λ test. if test then command_in name fields else Err FieldCount) other
