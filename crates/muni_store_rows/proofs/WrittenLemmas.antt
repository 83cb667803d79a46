-- Columns that are read are the ones that are written.
use Rattle.std.proofs.Common.{◌≡◌, ◌⊎◌, ◌∙◌, inl, inr, arith, ◌∷◌, ℕ, zero, suc, ℤ, pos, negsuc, Bool, true, false, List, [], length, Option, Some, None, Result, Ok, Err, refl, sym, ap, option_map}
use Rattle.std.specs.Prelude.{◌==◌, ◌^◌, nat_lt, option_and_then, if◌then◌else◌}
use Rattle.std.proofs.lemmas.Bool.Decides.{nat_tests}
use Rattle.std.proofs.lemmas.Slice.Eq.{bytes_eq-Decides}
use Rattle.std.specs.Str.{bytes_eq}
use Rattle.arrayvec.specs.ArrayVec.{ArrayVec}
use Rattle.muni_rule.specs.declared.basis.Basis.{Basis}
use Rattle.muni_rule.specs.declared.basis.Basis.TheVariants.{Thirty360, Actual365}
use Rattle.std.specs.Char.{is_ascii_alphanumeric}
use Rattle.std.specs.Result.{result_ok}
use Rattle.muni_dec.specs.Values.{if_yield, if_printed_yield, if_price, if_printed_price, if_par, if_fee, if_money, if_coupon}
use Rattle.muni_days.specs.Day.{civil, day_reading, day_text}
use Rattle.muni_days.specs.declared.day.Day.{Day}
use Rattle.muni_days.proofs.ReadingLemmas.{read-text}
use Rattle.muni_terms.specs.Check as Check
use Rattle.muni_terms.specs.declared.row.Call.{Call}
use Rattle.muni_terms.specs.declared.row.IssueRow.{IssueRow}
use Rattle.muni_terms.specs.declared.row.Kind.{Kind}
use Rattle.muni_terms.specs.declared.row.Kind.TheVariants.{Periodic, Zero, AtRedemption, Discount}
use Rattle.muni_terms.specs.declared.row.TermsFault.{TermsFault}
use Rattle.muni_rule.specs.declared.label.Label.{Label}
use Rattle.muni_rule.specs.declared.label.Label.TheVariants.{Maturity, ParOption, Call as PlainCall, Called}
use Rattle.muni_msg.specs.Codes.{side_code, side_of_code, act_code, act_of_code, label_code, label_of_code, given_code, given_units, given_of_code, price_of_units, basis_code, basis_of_code, kind_code}
use Rattle.muni_msg.specs.Calls.{calls_field}
use Rattle.muni_msg.specs.Fields.{day_in}
use Rattle.muni_msg.specs.IssueFields.{cusip_reading, issue_name_reading}
use Rattle.muni_msg.specs.Names.{is_desk_letter}
use Rattle.muni_msg.specs.NameReading.{name_reading, name_if, unless_bad}
use Rattle.muni_msg.specs.declared.asked.Asked.{Asked}
use Rattle.muni_msg.specs.declared.asked.Given.{Given}
use Rattle.muni_msg.specs.declared.asked.Given.TheVariants.{AtYield, AtPrice, AtRate}
use Rattle.muni_msg.specs.declared.asked.Side.{Side}
use Rattle.muni_msg.specs.declared.asked.Side.TheVariants.{Buy, Sell}
use Rattle.muni_msg.specs.declared.command.Key.{Key}
use Rattle.muni_msg.specs.declared.figures.Figures.{Figures}
use Rattle.muni_msg.specs.declared.version.Act.{Act}
use Rattle.muni_msg.specs.declared.version.Act.TheVariants.{Entered, Corrected, Canceled}
use Rattle.muni_msg.specs.declared.version.Version.{Version}
use Rattle.muni_store_rows.specs.Codes.{natural, code_in, count, signed_count, price_of, printed_price_of, par_of, fee_of, money_of, cusip_of, act_of, side_of, label_of, given_of, basis_of, coupon_of}
use Rattle.muni_store_rows.specs.Calls.{calls_text, calls_of, if_written}
use Rattle.muni_store_rows.specs.Issue.{first_text, plain_kind, kind_coded, kind_of}
use Rattle.muni_store_rows.specs.Issue as issues
use Rattle.muni_store_rows.specs.Version.{AskedColumns, FigureColumns, Columns, asked_columns, figure_columns, columns_of, key_of, asked_of, figures_of, trade_of}

-- ---- what a step of a reading found
pub bound : {A B : Type 0} (found : Option A) (next : A → Option B) (y : B) → option_and_then next found ≡ Some y → (x : A) × (found ≡ Some x) × (next x ≡ Some y)
bound None next y h = absurd cc
bound (Some x) next y h = (x, refl, h)

mapped : {A B : Type 0} (f : A → B) (found : Option A) (y : B) → option_map f found ≡ Some y → (x : A) × (found ≡ Some x) × (f x ≡ y)
mapped f None y h = absurd cc
mapped f (Some x) y h = (x, refl, cc)

pub tested : {A : Type 0} (test : Bool) (x y : A) → (if test then Some x else None) ≡ Some y → x ≡ y
tested true x y h = cc
tested false x y h = absurd cc

some-is : {A : Type 0} (x y : A) → Some x ≡ Some y → x ≡ y
some-is x y h = cc

pub is-ok : {A E : Type 0} (r : Result A E) (x : A) → result_ok r ≡ Some x → r ≡ Ok x
is-ok (Ok a) x h = let same : a ≡ x = cc in ap Ok same
is-ok (Err e) x h = absurd cc

-- ---- numbers
pub natural-is : (column : ℤ) (units : ℕ) → natural column ≡ Some units → column ≡ pos units
natural-is (pos u) units h = let same : u ≡ units = cc in ap pos same
natural-is (negsuc less) units h = absurd cc

pub code-is : (column : ℤ) (code : ℕ) → code_in column ≡ Some code → column ≡ pos code
unfolding code_in
code-is (pos units) code h = ap pos (tested (nat_lt units (2 ^ 8)) units code h)
code-is (negsuc less) code h = absurd cc

count-is : (column : ℤ) (number : ℕ) → count column ≡ Some number → column ≡ pos number
unfolding count
count-is (pos units) number h = ap pos (tested (nat_lt units (2 ^ 32)) units number h)
count-is (negsuc less) number h = absurd cc

signed-is : (column days : ℤ) → signed_count column ≡ Some days → column ≡ days
unfolding signed_count
signed-is (pos units) days h = tested (nat_lt units (2 ^ 31)) (pos units) days h
signed-is (negsuc less) days h = tested (nat_lt less (2 ^ 31)) (negsuc less) days h

price-is : (column : ℤ) (price : ℕ) → price_of column ≡ Some price → column ≡ pos price
unfolding price_of
price-is column price h = let b = bound (natural column) if_price price h in natural-is column b.0 b.1 ∙ ap pos (tested _ b.0 price b.2)

printed_price-is : (column : ℤ) (price : ℕ) → printed_price_of column ≡ Some price → column ≡ pos price
unfolding printed_price_of
printed_price-is column price h = let b = bound (natural column) if_printed_price price h in natural-is column b.0 b.1 ∙ ap pos (tested _ b.0 price b.2)

par-is : (column : ℤ) (par : ℕ) → par_of column ≡ Some par → column ≡ pos par
unfolding par_of
par-is column par h = let b = bound (natural column) if_par par h in natural-is column b.0 b.1 ∙ ap pos (tested _ b.0 par b.2)

fee-is : (column : ℤ) (fee : ℕ) → fee_of column ≡ Some fee → column ≡ pos fee
unfolding fee_of
fee-is column fee h = let b = bound (natural column) if_fee fee h in natural-is column b.0 b.1 ∙ ap pos (tested _ b.0 fee b.2)

money-is : (column : ℤ) (money : ℕ) → money_of column ≡ Some money → column ≡ pos money
unfolding money_of
money-is column money h = let b = bound (natural column) if_money money h in natural-is column b.0 b.1 ∙ ap pos (tested _ b.0 money b.2)

yield-is : (units y : ℤ) → if_yield units ≡ Some y → units ≡ y
yield-is (pos u) y h = tested _ (pos u) y h
yield-is (negsuc less) y h = tested _ (negsuc less) y h

printed_yield-is : (units y : ℤ) → if_printed_yield units ≡ Some y → units ≡ y
printed_yield-is units y h = tested _ units y h

-- ---- codes
side-coded : (code : ℕ) (side : Side) → side_of_code code ≡ Some side → code ≡ side_code side
side-coded zero side h = let same : Buy ≡ side = cc in ap side_code same
side-coded (suc zero) side h = let same : Sell ≡ side = cc in ap side_code same
side-coded (suc (suc more)) side h = absurd cc

act-coded : (code : ℕ) (act : Act) → act_of_code code ≡ Some act → code ≡ act_code act
act-coded zero act h = let same : Entered ≡ act = cc in ap act_code same
act-coded (suc zero) act h = let same : Corrected ≡ act = cc in ap act_code same
act-coded (suc (suc zero)) act h = let same : Canceled ≡ act = cc in ap act_code same
act-coded (suc (suc (suc more))) act h = absurd cc

label-coded : (code : ℕ) (label : Label) → label_of_code code ≡ Some label → code ≡ label_code label
label-coded zero label h = let same : Maturity ≡ label = cc in ap label_code same
label-coded (suc zero) label h = let same : ParOption ≡ label = cc in ap label_code same
label-coded (suc (suc zero)) label h = let same : PlainCall ≡ label = cc in ap label_code same
label-coded (suc (suc (suc zero))) label h = let same : Called ≡ label = cc in ap label_code same
label-coded (suc (suc (suc (suc more)))) label h = absurd cc

side-is : (column : ℤ) (side : Side) → side_of column ≡ Some side → column ≡ pos (side_code side)
side-is column side h = let b = bound (code_in column) side_of_code side h in code-is column b.0 b.1 ∙ ap pos (side-coded b.0 side b.2)

act-is : (column : ℤ) (act : Act) → act_of column ≡ Some act → column ≡ pos (act_code act)
act-is column act h = let b = bound (code_in column) act_of_code act h in code-is column b.0 b.1 ∙ ap pos (act-coded b.0 act b.2)

label-is : (column : ℤ) (label : Label) → label_of column ≡ Some label → column ≡ pos (label_code label)
label-is column label h = let b = bound (code_in column) label_of_code label h in code-is column b.0 b.1 ∙ ap pos (label-coded b.0 label b.2)

priced : (units : ℤ) (price : ℕ) → price_of_units units ≡ Some price → units ≡ pos price
priced (pos u) price h = ap pos (tested _ u price h)
priced (negsuc less) price h = absurd cc

given-coded : (code : ℕ) (units : ℤ) (given : Given) → given_of_code code units ≡ Some given → (code ≡ given_code given) × (units ≡ given_units given)
given-coded zero units given h = let m = mapped AtYield (if_yield units) given h in (ap given_code m.2, yield-is units m.0 m.1 ∙ ap given_units m.2)
given-coded (suc zero) units given h = let m = mapped AtPrice (price_of_units units) given h in (ap given_code m.2, priced units m.0 m.1 ∙ ap given_units m.2)
given-coded (suc (suc zero)) units given h = let m = mapped AtRate (if_yield units) given h in (ap given_code m.2, yield-is units m.0 m.1 ∙ ap given_units m.2)
given-coded (suc (suc (suc more))) units given h = absurd cc

given-is : (column units : ℤ) (given : Given) → given_of column units ≡ Some given → (column ≡ pos (given_code given)) × (units ≡ given_units given)
given-is column units given h =
    let b = bound (code_in column) (λ code. given_of_code code units) given h in
    let both = given-coded b.0 units given b.2 in
    (code-is column b.0 b.1 ∙ ap pos both.0, both.1)

-- ---- texts
pub day-is : (text : List ℕ) (day : Day) → day_in text ≡ Some day → text ≡ day_text (civil day)
day-is text day h = read-text text day (is-ok (day_reading text) day h)

unless-is : (text name : List ℕ) (bad : Option ℕ) → unless_bad text bad ≡ Ok name → text ≡ name
unless-is text name None h = cc
unless-is text name (Some place) h = absurd cc

name-by : (most : ℕ) (text name : List ℕ) (bad : Option ℕ) (empty long : Bool) → (length text == 0) ≡ empty → nat_lt most (length text) ≡ long → name_if most text bad ≡ Ok name → text ≡ name
name-by most text name bad true long e l h = absurd (let r = rw e at h in cc)
name-by most text name bad false true e l h = absurd (let r = rw (e, l) at h in cc)
name-by most text name bad false false e l h = unless-is text name bad (rw (e, l) at h)

name-is : (is_letter : ℕ → Bool) (most : ℕ) (text name : List ℕ) → result_ok (name_reading is_letter most text) ≡ Some name → text ≡ name
name-is is_letter most text name h = name-by most text name _ _ _ refl refl (is-ok (name_reading is_letter most text) name h)

cusip-is : (text cusip : List ℕ) → cusip_of text ≡ Some cusip → text ≡ cusip
unfolding cusip_of
cusip-is text cusip h = tested _ text cusip h

-- ---- versions
key-is : (desk reference : List ℕ) (key : Key) → key_of desk reference ≡ Some key → (desk ≡ key.desk) × (reference ≡ key.reference)
unfolding key_of
key-is desk reference key h =
    let name = bound (result_ok (name_reading is_desk_letter 16 desk)) _ key h in
    let trade = bound (result_ok (name_reading is_ascii_alphanumeric 20 reference)) _ key name.2 in
    let same : record { desk = name.0; reference = trade.0 } ≡ key = let e = trade.2 in cc in
    (name-is is_desk_letter 16 desk name.0 name.1 ∙ ap (λ (k : Key). k.desk) same, name-is is_ascii_alphanumeric 20 reference trade.0 trade.1 ∙ ap (λ (k : Key). k.reference) same)

abbrev asked_by : (cusip : List ℕ) (side par : ℤ) (settle : List ℕ) (basis value fee : ℤ) → AskedColumns
asked_by cusip side par settle basis value fee = record { cusip = cusip; side = side; par = par; settle = settle; basis = basis; value = value; fee = fee }

asked-same : {c c' : List ℕ} {s s' p p' : ℤ} {d d' : List ℕ} {b b' v v' f f' : ℤ} → c ≡ c' → s ≡ s' → p ≡ p' → d ≡ d' → b ≡ b' → v ≡ v' → f ≡ f'
    → asked_by c s p d b v f ≡ asked_by c' s' p' d' b' v' f'
asked-same c s p d b v f = rw (c, s, p, d, b, v, f) refl

asked-is : (columns : AskedColumns) (asked : Asked) → asked_of columns ≡ Some asked → columns ≡ asked_columns asked
unfolding asked_of asked_columns
asked-is columns asked h =
    let given = bound (given_of columns.basis columns.value) _ asked h in
    let cusip = bound (cusip_of columns.cusip) _ asked given.2 in
    let par = bound (par_of columns.par) _ asked cusip.2 in
    let settle = bound (day_in columns.settle) _ asked par.2 in
    let side = bound (side_of columns.side) _ asked settle.2 in
    let fee = bound (fee_of columns.fee) _ asked side.2 in
    let made : Asked = record { cusip = cusip.0; par = par.0; settle = settle.0; given = given.0; side = side.0; fee = fee.0 } in
    let same = some-is made asked fee.2 in
    let both = given-is columns.basis columns.value given.0 given.1 in
    let e : asked_by columns.cusip columns.side columns.par columns.settle columns.basis columns.value columns.fee ≡ asked_columns made =
    asked-same
    (cusip-is columns.cusip cusip.0 cusip.1)
    (side-is columns.side side.0 side.1)
    (par-is columns.par par.0 par.1)
    (day-is columns.settle settle.0 settle.1)
    both.0
    both.1
    (fee-is columns.fee fee.0 fee.1) in
    e ∙ ap asked_columns same

abbrev figures_by : (price yld : ℤ) (redemption : List ℕ) (at_price label days principal accrued total commission : ℤ) → FigureColumns
figures_by price yld redemption at_price label days principal accrued total commission = record {
  price = price;
  yld = yld;
  redemption = redemption;
  at_price = at_price;
  label = label;
  days = days;
  principal = principal;
  accrued = accrued;
  total = total;
  commission = commission;
}

figures-same : {p p' y y' : ℤ} {r r' : List ℕ} {x x' l l' d d' m m' a a' t t' c c' : ℤ} → p ≡ p' → y ≡ y' → r ≡ r' → x ≡ x' → l ≡ l' → d ≡ d' → m ≡ m' → a ≡ a' → t ≡ t' → c ≡ c'
    → figures_by p y r x l d m a t c ≡ figures_by p' y' r' x' l' d' m' a' t' c'
figures-same p y r x l d m a t c = rw (p, y, r, x, l, d, m, a, t, c) refl

figures-is : (columns : FigureColumns) (figures : Figures) → figures_of columns ≡ Some figures → columns ≡ figure_columns figures
unfolding figures_of figure_columns
figures-is columns figures h =
    let price = bound (printed_price_of columns.price) _ figures h in
    let yld = bound (if_printed_yield columns.yld) _ figures price.2 in
    let redemption = bound (day_in columns.redemption) _ figures yld.2 in
    let redeemed = bound (price_of columns.at_price) _ figures redemption.2 in
    let label = bound (label_of columns.label) _ figures redeemed.2 in
    let days = bound (signed_count columns.days) _ figures label.2 in
    let principal = bound (money_of columns.principal) _ figures days.2 in
    let accrued = bound (money_of columns.accrued) _ figures principal.2 in
    let commission = bound (money_of columns.commission) _ figures accrued.2 in
    let total = bound (money_of columns.total) _ figures commission.2 in
    let made : Figures = record { price = price.0; yld = yld.0; redemption = redemption.0; at = redeemed.0; label = label.0; days = days.0; principal = principal.0; accrued = accrued.0; commission = commission.0; total = total.0 } in
    let same = some-is made figures total.2 in
    let e : figures_by columns.price columns.yld columns.redemption columns.at_price columns.label columns.days columns.principal columns.accrued columns.total columns.commission ≡ figure_columns made =
    figures-same
    (printed_price-is columns.price price.0 price.1)
    (printed_yield-is columns.yld yld.0 yld.1)
    (day-is columns.redemption redemption.0 redemption.1)
    (price-is columns.at_price redeemed.0 redeemed.1)
    (label-is columns.label label.0 label.1)
    (signed-is columns.days days.0 days.1)
    (money-is columns.principal principal.0 principal.1)
    (money-is columns.accrued accrued.0 accrued.1)
    (money-is columns.total total.0 total.1)
    (money-is columns.commission commission.0 commission.1) in
    e ∙ ap figure_columns same

abbrev columns_by : (desk reference : List ℕ) (number act : ℤ) (asked : AskedColumns) (figures : FigureColumns) (issue : ℤ) → Columns
columns_by desk reference number act asked figures issue = record { desk = desk; reference = reference; number = number; act = act; asked = asked; figures = figures; issue = issue }

columns-same : {d d' r r' : List ℕ} {n n' a a' : ℤ} {q q' : AskedColumns} {f f' : FigureColumns} {i i' : ℤ} → d ≡ d' → r ≡ r' → n ≡ n' → a ≡ a' → q ≡ q' → f ≡ f' → i ≡ i'
    → columns_by d r n a q f i ≡ columns_by d' r' n' a' q' f' i'
columns-same d r n a q f i = rw (d, r, n, a, q, f, i) refl

pub trade-is : (columns : Columns) (key : Key) (number : ℕ) (version : Version) → trade_of columns ≡ Some (key, number, version) → columns ≡ columns_of key number version
unfolding trade_of columns_of
trade-is columns key number version h =
    let name = bound (key_of columns.desk columns.reference) _ (key, number, version) h in
    let numbered = bound (count columns.number) _ (key, number, version) name.2 in
    let act = bound (act_of columns.act) _ (key, number, version) numbered.2 in
    let asked = bound (asked_of columns.asked) _ (key, number, version) act.2 in
    let figures = bound (figures_of columns.figures) _ (key, number, version) asked.2 in
    let terms = bound (count columns.issue) _ (key, number, version) figures.2 in
    let made : Version = record { act = act.0; terms = record { asked = asked.0 }; issue_number = terms.0; figures = figures.0 } in
    let same = some-is (name.0, numbered.0, made) (key, number, version) terms.2 in
    let both = key-is columns.desk columns.reference name.0 name.1 in
    let e : columns_by columns.desk columns.reference columns.number columns.act columns.asked columns.figures columns.issue ≡ columns_of name.0 numbered.0 made =
    columns-same
    both.0
    both.1
    (count-is columns.number numbered.0 numbered.1)
    (act-is columns.act act.0 act.1)
    (asked-is columns.asked asked.0 asked.1)
    (figures-is columns.figures figures.0 figures.1)
    (count-is columns.issue terms.0 terms.1) in
    e ∙ ap (λ (trade : Key × ℕ × Version). columns_of trade.0 trade.1 trade.2) same

-- ---- issues
branch : {A : Type 0} (test : Bool) (a b : Option A) (y : A) → (if test then a else b) ≡ Some y → ((test ≡ true) × (a ≡ Some y)) ⊎ ((test ≡ false) × (b ≡ Some y))
branch true a b y h = inl (refl, h)
branch false a b y h = inr (refl, h)

equal : (m n : ℕ) → (m == n) ≡ true → m ≡ n
equal m n h = grind (arith, nat_tests, h)

empty-is : (text : List ℕ) → (length text == 0) ≡ true → text ≡ []
empty-is [] h = refl
empty-is (byte ∷ text) h = absurd (omega (arith, equal (length (byte ∷ text)) 0 h))

plain-is : (code : ℕ) (first : List ℕ) (kind : Kind) → first ≡ [] → plain_kind code ≡ Some kind → (code ≡ kind_code kind) × (first ≡ first_text kind)
plain-is code first kind none h = elim (branch (code == 1) _ _ kind h) [
  | inl one ↦ let same = some-is Zero kind one.1 in (equal code 1 one.0 ∙ ap kind_code same, none ∙ ap first_text same)
  | inr more ↦ elim (branch (code == 2) _ _ kind more.1) [
    | inl two ↦ let same = some-is AtRedemption kind two.1 in (equal code 2 two.0 ∙ ap kind_code same, none ∙ ap first_text same)
    | inr most ↦ elim (branch (code == 3) _ _ kind most.1) [
      | inl three ↦ let same = some-is Discount kind three.1 in (equal code 3 three.0 ∙ ap kind_code same, none ∙ ap first_text same)
      | inr other ↦ absurd (let e = other.1 in cc)
    ]
  ]
]

coded-is : (code : ℕ) (first : List ℕ) (kind : Kind) → kind_coded code first ≡ Some kind → (code ≡ kind_code kind) × (first ≡ first_text kind)
coded-is code first kind h = elim (branch (code == 0) _ _ kind h) [
  | inl periodic ↦ let m = mapped (λ date. Periodic date) (day_in first) kind periodic.1 in
      (equal code 0 periodic.0 ∙ ap kind_code m.2, day-is first m.0 m.1 ∙ ap first_text m.2)
  | inr other ↦ elim (branch (length first == 0) _ _ kind other.1) [
    | inl plain ↦ plain-is code first kind (empty-is first plain.0) plain.1
    | inr none ↦ absurd (let e = none.1 in cc)
  ]
]

kind-is : (column : ℤ) (first : List ℕ) (kind : Kind) → kind_of column first ≡ Some kind → (column ≡ pos (kind_code kind)) × (first ≡ first_text kind)
kind-is column first kind h =
    let b = bound (natural column) (λ code. kind_coded code first) kind h in
    let both = coded-is b.0 first kind b.2 in
    (natural-is column b.0 b.1 ∙ ap pos both.0, both.1)

basis-coded : (code : ℕ) (basis : Basis) → basis_of_code code ≡ Some basis → code ≡ basis_code basis
basis-coded zero basis h = let same : Thirty360 ≡ basis = cc in ap basis_code same
basis-coded (suc zero) basis h = let same : Actual365 ≡ basis = cc in ap basis_code same
basis-coded (suc (suc more)) basis h = absurd cc

basis-is : (column : ℤ) (basis : Basis) → basis_of column ≡ Some basis → column ≡ pos (basis_code basis)
basis-is column basis h = let b = bound (code_in column) basis_of_code basis h in code-is column b.0 b.1 ∙ ap pos (basis-coded b.0 basis b.2)

coupon-is : (column : ℤ) (coupon : ℕ) → coupon_of column ≡ Some coupon → column ≡ pos coupon
unfolding coupon_of
coupon-is column coupon h = let b = bound (natural column) if_coupon coupon h in natural-is column b.0 b.1 ∙ ap pos (tested _ b.0 coupon b.2)

written : (text : List ℕ) (found : Option (List Call)) (calls : List Call) → if_written text found ≡ Some calls → text ≡ calls_text calls
written text None calls h = absurd cc
written text (Some some) calls h = elim (branch (bytes_eq (calls_text some) text) (Some some) None calls h) [
  | inl same ↦ sym ((bytes_eq-Decides (calls_text some) text).0 same.0) ∙ ap calls_text (some-is some calls same.1)
  | inr other ↦ absurd (let e = other.1 in cc)
]

calls-is : (text : List ℕ) (calls : List Call) → calls_of text ≡ Some calls → text ≡ calls_text calls
calls-is text calls h = written text (calls_field text) calls h

name_of_issue-is : (text : List ℕ) (name : ArrayVec ℕ) → issue_name_reading text ≡ Some name → text ≡ name.items
name_of_issue-is text name h = ap (λ (n : ArrayVec ℕ). n.items) (tested _ (record { items = text }) name h)

cusip_of_issue-is : (text cusip : List ℕ) → cusip_reading text ≡ Some cusip → text ≡ cusip
cusip_of_issue-is text cusip h = tested _ text cusip h

passed-is : (row issue : IssueRow) (fault : Option TermsFault) → result_ok (Check.unless_fault row fault) ≡ Some issue → row ≡ issue
passed-is row issue None h = some-is row issue h
passed-is row issue (Some fault) h = absurd cc

issue_columns-same : {c c' n n' : List ℕ} {k k' : ℤ} {d d' f f' m m' : List ℕ} {x x' : ℤ} {l l' : List ℕ} {b b' : ℤ} → c ≡ c' → n ≡ n' → k ≡ k' → d ≡ d' → f ≡ f' → m ≡ m' → x ≡ x' → l ≡ l' → b ≡ b'
    → issues.columns_2 c n k d f m x l b ≡ issues.columns_2 c' n' k' d' f' m' x' l' b'
issue_columns-same c n k d f m x l b = rw (c, n, k, d, f, m, x, l, b) refl

pub issue-is : (columns : issues.Columns) (issue : IssueRow) → issues.issue_of columns ≡ Some issue → columns ≡ issues.columns_of issue
unfolding issues.issue_of issues.columns_of
issue-is columns issue h =
    let cusip = bound (cusip_reading columns.cusip) _ issue h in
    let name = bound (issue_name_reading columns.name) _ issue cusip.2 in
    let kind = bound (kind_of columns.kind columns.first) _ issue name.2 in
    let basis = bound (basis_of columns.basis) _ issue kind.2 in
    let dated = bound (day_in columns.dated) _ issue basis.2 in
    let maturity = bound (day_in columns.maturity) _ issue dated.2 in
    let coupon = bound (coupon_of columns.coupon) _ issue maturity.2 in
    let calls = bound (calls_of columns.calls) _ issue coupon.2 in
    let made : IssueRow = record { cusip = cusip.0; name = name.0; kind = kind.0; basis = basis.0; dated = dated.0; maturity = maturity.0; coupon = coupon.0; calls = record { items = calls.0 } } in
    let same = passed-is made issue (Check.fault_of made) calls.2 in
    let both = kind-is columns.kind columns.first kind.0 kind.1 in
    let e : issues.columns_2 columns.cusip columns.name columns.kind columns.dated columns.first columns.maturity columns.coupon columns.calls columns.basis ≡ issues.columns_of made =
    issue_columns-same
    (cusip_of_issue-is columns.cusip cusip.0 cusip.1)
    (name_of_issue-is columns.name name.0 name.1)
    both.0
    (day-is columns.dated dated.0 dated.1)
    both.1
    (day-is columns.maturity maturity.0 maturity.1)
    (coupon-is columns.coupon coupon.0 coupon.1)
    (calls-is columns.calls calls.0 calls.1)
    (basis-is columns.basis basis.0 basis.1) in
    e ∙ ap issues.columns_of same

pub numbered-is : (columns : issues.NumberedColumns) (number : ℕ) (issue : IssueRow) → issues.numbered_of columns ≡ Some (number, issue) → columns ≡ issues.numbered_columns number issue
unfolding issues.numbered_of issues.numbered_columns
numbered-is columns number issue h =
    let at = bound (count columns.number) _ (number, issue) h in
    let terms = bound (issues.issue_of columns.terms) _ (number, issue) at.2 in
    let same = some-is (at.0, terms.0) (number, issue) terms.2 in
    let by : ℤ → issues.Columns → issues.NumberedColumns = λ number terms. record { number = number; terms = terms } in
    let e : columns ≡ issues.numbered_columns at.0 terms.0 = ap (λ number. by number columns.terms) (count-is columns.number at.0 at.1) ∙ ap (by (pos at.0)) (issue-is columns.terms terms.0 terms.1) in
    e ∙ ap (λ (found : ℕ × IssueRow). issues.numbered_columns found.0 found.1) same
