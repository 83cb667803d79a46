-- What the words after the name of a command are read as, against the rule of the command line.
use Rattle.std.proofs.Common.{◌≡◌, ℕ, ◌≤◌, inl, inr, Bool, true, false, List, [], ◌∷◌, ◌++◌, Option, Some, None, length, drop, map, refl, sym, ap, ◌∙◌, subst, arith, Result, Ok, ℤ}
use Rattle.std.specs.Prelude.{All, codes, filter, if◌then◌else◌, nat_le, option_map, ◌==◌}
use Rattle.std.specs.List.{AllZip}
use Rattle.std.specs.Result.{result_ok}
use Rattle.std.specs.Str.{bytes_eq}
use Rattle.std.proofs.lemmas.Bool.Decides.{nat_tests, Decides-eqb}
use Rattle.std.proofs.lemmas.List.{append_cancel_left}
use Rattle.std.proofs.lemmas.Option.{none-some, same_Some}
use Rattle.std.proofs.lemmas.Slice.Eq.{bytes_eq-Decides}
use Rattle.muni_rule.specs.declared.basis.Basis.{Basis}
use Rattle.muni_rule.specs.declared.basis.Basis.TheVariants.{Thirty360, Actual365}
use Rattle.muni_dec.specs.Digits.{number_reading}
use Rattle.muni_dec.specs.Values.{coupon_reading, par_reading, price_reading, yield_reading}
use Rattle.muni_days.specs.Day.{civil, day_reading}
use Rattle.muni_days.specs.declared.day.Day.{Day}
use Rattle.muni_terms.specs.Check.{pays_interest}
use Rattle.muni_terms.specs.declared.row.Call.{Call}
use Rattle.muni_terms.specs.declared.row.Kind.{Kind}
use Rattle.muni_terms.specs.declared.row.Kind.TheVariants.{Periodic, Zero, AtRedemption, Discount}
use Rattle.muni_terms.specs.declared.row.IssueRow.{IssueRow}
use Rattle.muni_msg.specs.Fields.{day_in, kind_reading, call_reading}
use Rattle.muni_msg.specs.declared.asked.Asked.{Asked}
use Rattle.muni_msg.specs.declared.asked.Given.{Given}
use Rattle.muni_msg.specs.declared.asked.Given.TheVariants.{AtYield, AtPrice, AtRate}
use Rattle.muni_msg.specs.declared.shown.Shown.{Shown}
use Rattle.muni_msg.specs.declared.asked.Side.TheVariants.{Buy}
use Rattle.muni_desk.specs.Words.{◌>>=◌, word, is_option, are_options, are_options_beside, has_word, value_of, values_of}
use Rattle.muni_desk.specs.QuoteOptions.{date_of, bond_day_count, note_day_count, day_count_of, coupon_of, calls_reading, calls_of, par_of, one_given, given_of, workers_in, workers_of, row_of, asked_of, quote_of, each_word, risk_word, plain_words, shown_of, options, single_options}
use Rattle.muni_desk.specs.QuoteOptions as quote
use Rattle.muni_desk.specs.DrillOptions as drill
use Rattle.muni_desk.specs.DrillOptions.{drill_of}
use Rattle.muni_desk.specs.NextInterestDate.{is_next, if_next}
use Rattle.muni_desk.specs.QuoteOne.{values_reading, quote_one_of}
use Rattle.muni_desk.specs.declared.command.DeskCommand.TheVariants.{QuoteOne, Quote, Drill}
use Rattle.muni_desk.specs.declared.command.CommandLine.{CommandLine}
use Rattle.muni_desk.specs.declared.drill.options.DrillRequest.{DrillRequest}
use Rattle.muni_desk.specs.declared.one_period.QuoteOneRequest.{QuoteOneRequest}
use Rattle.muni_desk.specs.declared.request.QuoteRequest.{QuoteRequest}
use Rattle.muni_desk.specs.OptionLaws.{IsSingle, Says, Reads, Lacks, ReadsOr}
use Rattle.muni_desk.specs.WordLaws.{IsCall, IsCommandLine, IsDrill, IsQuote, IsQuoteOne, SaysAsked, SaysTerms, SaysKind, SaysNoteDays, SaysDays, SaysCoupon, SaysCalls, SaysGiven}
use Rattle.muni_desk.proofs.CallLawLemmas.{read-call, call-read}
use Rattle.muni_desk.proofs.OptionalLemmas.{bind-some, some-bind, map-some, ok-some, if-some, when-true}
use Rattle.muni_desk.proofs.WordLawLemmas.{both, option-joined, options-read, are-options, found-says, says-found, none-lacks, lacks-none, options-read-beside, are-options-beside, has-read, read-has}

-- ---- one option, read
pub read-option : {A : Type 0} (f : List ℕ → Option A) (words : List (List ℕ)) (name : List ℕ) (y : A) → (value_of name words >>= f) ≡ Some y → Reads words name (λ text. f text ≡ Some y)
read-option f words name y is =
    let found = bind-some f (value_of name words) y is in
    record { text = found.0; stands = found-says name found.0 words found.1; is_read = found.2 }

pub option-read : {A : Type 0} (f : List ℕ → Option A) (words : List (List ℕ)) (name : List ℕ) (y : A) → IsSingle words name → Reads words name (λ text. f text ≡ Some y) → (value_of name words >>= f) ≡ Some y
option-read f words name y single read = some-bind f (value_of name words) read.text y (says-found name read.text words single read.stands) read.is_read

pub read-ok : {A E : Type 0} (f : List ℕ → Result A E) (words : List (List ℕ)) (name : List ℕ) (y : A) → (value_of name words >>= λ text. result_ok (f text)) ≡ Some y → Reads words name (λ text. f text ≡ Ok y)
read-ok f words name y is =
    let read = read-option (λ text. result_ok (f text)) words name y is in
    record { text = read.text; stands = read.stands; is_read = ok-some (f read.text) y read.is_read }

pub ok-read : {A E : Type 0} (f : List ℕ → Result A E) (words : List (List ℕ)) (name : List ℕ) (y : A) → IsSingle words name → Reads words name (λ text. f text ≡ Ok y) → (value_of name words >>= λ text. result_ok (f text)) ≡ Some y
ok-read f words name y single read = some-bind (λ text. result_ok (f text)) (value_of name words) read.text y (says-found name read.text words single read.stands) (ap result_ok read.is_read)

-- ---- the kind
pub same-text : (text other : List ℕ) → bytes_eq text other ≡ true → text ≡ other
same-text text other test = (bytes_eq-Decides text other).0 test

plain-by : (words : List (List ℕ)) (zero redemption discount : Bool) (kind : Kind) → (if zero then Some Zero else (if redemption then Some AtRedemption else (if discount then Some Discount else None))) ≡ Some kind → ((zero ≡ true) → Says words (codes "--kind=") (codes "zero")) → ((redemption ≡ true) → Says words (codes "--kind=") (codes "at-redemption")) → ((discount ≡ true) → Says words (codes "--kind=") (codes "discount")) → Lacks words (codes "--first=") → SaysKind words kind
plain-by words true redemption discount kind is z r d lacks = subst (SaysKind words) (same_Some Zero kind is) (z refl, lacks)
plain-by words false true discount kind is z r d lacks = subst (SaysKind words) (same_Some AtRedemption kind is) (r refl, lacks)
plain-by words false false true kind is z r d lacks = subst (SaysKind words) (same_Some Discount kind is) (d refl, lacks)
plain-by words false false false kind is z r d lacks = absurd (none-some kind is)

says-kind : (words : List (List ℕ)) (text value : List ℕ) → Says words (codes "--kind=") text → bytes_eq text value ≡ true → Says words (codes "--kind=") value
says-kind words text value said test = subst (Says words (codes "--kind=")) (same-text text value test) said

kind-by : (words : List (List ℕ)) (text : List ℕ) (first : Option (List ℕ)) (kind : Kind) → value_of (codes "--first=") words ≡ first → Says words (codes "--kind=") text → kind_reading text first ≡ Some kind → SaysKind words kind
kind-by words text None kind is said read = plain-by words (bytes_eq text (codes "zero")) (bytes_eq text (codes "at-redemption")) (bytes_eq text (codes "discount")) kind read (says-kind words text (codes "zero") said) (says-kind words text (codes "at-redemption") said) (says-kind words text (codes "discount") said) (none-lacks (codes "--first=") words is)
kind-by words text (Some first) kind is said read =
    let periodic = if-some (bytes_eq text (codes "periodic")) (option_map (λ date. Periodic date) (day_in first)) kind read in
    let date = map-some (λ (date : Day). Periodic date) (day_in first) kind periodic.1 in
    subst (SaysKind words) date.2 (
      says-kind words text (codes "periodic") said periodic.0,
      record { text = first; stands = found-says (codes "--first=") first words is; is_read = ok-some (day_reading first) date.0 date.1 },
    )

-- the kind that words name
abbrev pub kind_of : List (List ℕ) → Option Kind
kind_of words = value_of (codes "--kind=") words >>= λ text. kind_reading text (value_of (codes "--first=") words)

pub read-kind : (words : List (List ℕ)) (kind : Kind) → kind_of words ≡ Some kind → SaysKind words kind
read-kind words kind is =
    let found = bind-some (λ text. kind_reading text (value_of (codes "--first=") words)) (value_of (codes "--kind=") words) kind is in
    kind-by words found.0 (value_of (codes "--first=") words) kind refl (found-says (codes "--kind=") found.0 words found.1) found.2

kind-found : (words : List (List ℕ)) (text : List ℕ) (first : Option (List ℕ)) (kind : Kind) → IsSingle words (codes "--kind=") → Says words (codes "--kind=") text → value_of (codes "--first=") words ≡ first → kind_reading text first ≡ Some kind → kind_of words ≡ Some kind
kind-found words text first kind single said is read = some-bind (λ text. kind_reading text (value_of (codes "--first=") words)) (value_of (codes "--kind=") words) text kind (says-found (codes "--kind=") text words single said) (ap (kind_reading text) is ∙ read)

pub kind-read : (words : List (List ℕ)) (kind : Kind) → IsSingle words (codes "--kind=") → IsSingle words (codes "--first=") → SaysKind words kind → kind_of words ≡ Some kind
kind-read words (Periodic date) single first said =
    let read = said.1 in
    kind-found words (codes "periodic") (Some read.text) (Periodic date) single said.0 (says-found (codes "--first=") read.text words first read.stands)
    (ap (λ r. option_map (λ (date : Day). Periodic date) (result_ok r)) read.is_read)
kind-read words Zero single first said = kind-found words (codes "zero") None Zero single said.0 (lacks-none (codes "--first=") words said.1) refl
kind-read words AtRedemption single first said = kind-found words (codes "at-redemption") None AtRedemption single said.0 (lacks-none (codes "--first=") words said.1) refl
kind-read words Discount single first said = kind-found words (codes "discount") None Discount single said.0 (lacks-none (codes "--first=") words said.1) refl

-- ---- the basis by which days are counted
bond-days : (words : List (List ℕ)) (basis : Basis) (found : Option (List ℕ)) → value_of (codes "--days=") words ≡ found → bond_day_count found ≡ Some basis → Lacks words (codes "--days=") × (basis ≡ Thirty360)
bond-days words basis None is read = (none-lacks (codes "--days=") words is, sym (same_Some Thirty360 basis read))
bond-days words basis (Some text) is read = absurd (none-some basis read)

days-by : (words : List (List ℕ)) (thirty actual : Bool) (basis : Basis) → (if thirty then Some Thirty360 else (if actual then Some Actual365 else None)) ≡ Some basis → ((thirty ≡ true) → Says words (codes "--days=") (codes "30/360")) → ((actual ≡ true) → Says words (codes "--days=") (codes "actual/365")) → SaysNoteDays words basis
days-by words true actual basis is t a = subst (SaysNoteDays words) (same_Some Thirty360 basis is) (inl (t refl))
days-by words false true basis is t a = subst (SaysNoteDays words) (same_Some Actual365 basis is) (a refl)
days-by words false false basis is t a = absurd (none-some basis is)

says-days : (words : List (List ℕ)) (text value : List ℕ) → Says words (codes "--days=") text → bytes_eq text value ≡ true → Says words (codes "--days=") value
says-days words text value said test = subst (Says words (codes "--days=")) (same-text text value test) said

note-days : (words : List (List ℕ)) (basis : Basis) (found : Option (List ℕ)) → value_of (codes "--days=") words ≡ found → note_day_count found ≡ Some basis → SaysNoteDays words basis
note-days words basis None is read = subst (SaysNoteDays words) (same_Some Thirty360 basis read) (inr (none-lacks (codes "--days=") words is))
note-days words basis (Some text) is read =
    let said = found-says (codes "--days=") text words is in
    days-by words (bytes_eq text (codes "30/360")) (bytes_eq text (codes "actual/365")) basis read (says-days words text (codes "30/360") said) (says-days words text (codes "actual/365") said)

pub read-days : (words : List (List ℕ)) (kind : Kind) (basis : Basis) → day_count_of kind (value_of (codes "--days=") words) ≡ Some basis → SaysDays words kind basis
read-days words (Periodic first) basis read = bond-days words basis (value_of (codes "--days=") words) refl read
read-days words Zero basis read = bond-days words basis (value_of (codes "--days=") words) refl read
read-days words AtRedemption basis read = note-days words basis (value_of (codes "--days=") words) refl read
read-days words Discount basis read = note-days words basis (value_of (codes "--days=") words) refl read

days-bond : (words : List (List ℕ)) (basis : Basis) → Lacks words (codes "--days=") × (basis ≡ Thirty360) → bond_day_count (value_of (codes "--days=") words) ≡ Some basis
days-bond words basis none = ap bond_day_count (lacks-none (codes "--days=") words none.0) ∙ ap Some (sym none.1)

days-note : (words : List (List ℕ)) (basis : Basis) → IsSingle words (codes "--days=") → SaysNoteDays words basis → note_day_count (value_of (codes "--days=") words) ≡ Some basis
days-note words Thirty360 single (inl said) = ap note_day_count (says-found (codes "--days=") (codes "30/360") words single said)
days-note words Thirty360 single (inr lacks) = ap note_day_count (lacks-none (codes "--days=") words lacks)
days-note words Actual365 single said = ap note_day_count (says-found (codes "--days=") (codes "actual/365") words single said)

pub days-read : (words : List (List ℕ)) (kind : Kind) (basis : Basis) → IsSingle words (codes "--days=") → SaysDays words kind basis → day_count_of kind (value_of (codes "--days=") words) ≡ Some basis
days-read words (Periodic first) basis single said = days-bond words basis said
days-read words Zero basis single said = days-bond words basis said
days-read words AtRedemption basis single said = days-note words basis single said
days-read words Discount basis single said = days-note words basis single said

-- ---- the coupon
coupon-here : (words : List (List ℕ)) (coupon : ℕ) (found : Option (List ℕ)) → value_of (codes "--coupon=") words ≡ found → coupon_of true found ≡ Some coupon → Reads words (codes "--coupon=") (λ text. coupon_reading text ≡ Ok coupon)
coupon-here words coupon None is read = absurd (none-some coupon read)
coupon-here words coupon (Some text) is read = record { text = text; stands = found-says (codes "--coupon=") text words is; is_read = ok-some (coupon_reading text) coupon read }

coupon-none : (words : List (List ℕ)) (coupon : ℕ) (found : Option (List ℕ)) → value_of (codes "--coupon=") words ≡ found → coupon_of false found ≡ Some coupon → Lacks words (codes "--coupon=") × (coupon ≡ 0)
coupon-none words coupon None is read = (none-lacks (codes "--coupon=") words is, sym (same_Some 0 coupon read))
coupon-none words coupon (Some text) is read = absurd (none-some coupon read)

pub read-coupon : (words : List (List ℕ)) (kind : Kind) (coupon : ℕ) → coupon_of (pays_interest kind) (value_of (codes "--coupon=") words) ≡ Some coupon → SaysCoupon words kind coupon
read-coupon words (Periodic first) coupon read = coupon-here words coupon (value_of (codes "--coupon=") words) refl read
read-coupon words Zero coupon read = coupon-none words coupon (value_of (codes "--coupon=") words) refl read
read-coupon words AtRedemption coupon read = coupon-here words coupon (value_of (codes "--coupon=") words) refl read
read-coupon words Discount coupon read = coupon-none words coupon (value_of (codes "--coupon=") words) refl read

here-coupon : (words : List (List ℕ)) (coupon : ℕ) → IsSingle words (codes "--coupon=") → Reads words (codes "--coupon=") (λ text. coupon_reading text ≡ Ok coupon) → coupon_of true (value_of (codes "--coupon=") words) ≡ Some coupon
here-coupon words coupon single read = ap (coupon_of true) (says-found (codes "--coupon=") read.text words single read.stands) ∙ ap result_ok read.is_read

none-coupon : (words : List (List ℕ)) (coupon : ℕ) → Lacks words (codes "--coupon=") × (coupon ≡ 0) → coupon_of false (value_of (codes "--coupon=") words) ≡ Some coupon
none-coupon words coupon none = ap (coupon_of false) (lacks-none (codes "--coupon=") words none.0) ∙ ap Some (sym none.1)

pub coupon-read : (words : List (List ℕ)) (kind : Kind) (coupon : ℕ) → IsSingle words (codes "--coupon=") → SaysCoupon words kind coupon → coupon_of (pays_interest kind) (value_of (codes "--coupon=") words) ≡ Some coupon
coupon-read words (Periodic first) coupon single said = here-coupon words coupon single said
coupon-read words Zero coupon single said = none-coupon words coupon said
coupon-read words AtRedemption coupon single said = here-coupon words coupon single said
coupon-read words Discount coupon single said = none-coupon words coupon said

-- ---- what is given
basis-read : {A E : Type 0} (f : List ℕ → Result A E) (words : List (List ℕ)) (name text : List ℕ) (basis : A → Given) (given : Given) → value_of name words ≡ Some text → option_map basis (result_ok (f text)) ≡ Some given → (x : A) × Reads words name (λ text. f text ≡ Ok x) × (basis x ≡ given)
basis-read f words name text basis given is read =
    let found = map-some basis (result_ok (f text)) given read in
    (found.0, record { text = text; stands = found-says name text words is; is_read = ok-some (f text) found.0 found.1 }, found.2)

given-by : (words : List (List ℕ)) (yld price rate : Option (List ℕ)) (given : Given) → value_of (codes "--yield=") words ≡ yld → value_of (codes "--price=") words ≡ price → value_of (codes "--rate=") words ≡ rate → one_given yld price rate ≡ Some given → SaysGiven words given
given-by words (Some text) None None given y p r read =
    let found = basis-read yield_reading words (codes "--yield=") text (λ y. AtYield y) given y read in
    subst (SaysGiven words) found.2 (found.1, none-lacks (codes "--price=") words p, none-lacks (codes "--rate=") words r)
given-by words None (Some text) None given y p r read =
    let found = basis-read price_reading words (codes "--price=") text (λ p. AtPrice p) given p read in
    subst (SaysGiven words) found.2 (none-lacks (codes "--yield=") words y, found.1, none-lacks (codes "--rate=") words r)
given-by words None None (Some text) given y p r read =
    let found = basis-read yield_reading words (codes "--rate=") text (λ r. AtRate r) given r read in
    subst (SaysGiven words) found.2 (none-lacks (codes "--yield=") words y, none-lacks (codes "--price=") words p, found.1)
given-by words None None None given y p r read = absurd (none-some given read)
given-by words (Some a) (Some b) rate given y p r read = absurd (none-some given read)
given-by words (Some a) None (Some c) given y p r read = absurd (none-some given read)
given-by words None (Some b) (Some c) given y p r read = absurd (none-some given read)

pub read-given : (words : List (List ℕ)) (given : Given) → given_of words ≡ Some given → SaysGiven words given
read-given words given read = given-by words (value_of (codes "--yield=") words) (value_of (codes "--price=") words) (value_of (codes "--rate=") words) given refl refl refl read

given-found : (words : List (List ℕ)) (yld price rate : Option (List ℕ)) (given : Given) → value_of (codes "--yield=") words ≡ yld → value_of (codes "--price=") words ≡ price → value_of (codes "--rate=") words ≡ rate → one_given yld price rate ≡ Some given → given_of words ≡ Some given
given-found words yld price rate given y p r read = (λ i. one_given (y i) (p i) (r i)) ∙ read

pub given-read : (words : List (List ℕ)) (given : Given) → IsSingle words (codes "--yield=") → IsSingle words (codes "--price=") → IsSingle words (codes "--rate=") → SaysGiven words given → given_of words ≡ Some given
given-read words (AtYield y) yields prices rates said =
    let read = said.0 in
    given-found words (Some read.text) None None (AtYield y) (says-found (codes "--yield=") read.text words yields read.stands) (lacks-none (codes "--price=") words said.1) (lacks-none (codes "--rate=") words said.2)
    (ap (λ r. option_map (λ y. AtYield y) (result_ok r)) read.is_read)
given-read words (AtPrice price) yields prices rates said =
    let read = said.1 in
    given-found words None (Some read.text) None (AtPrice price) (lacks-none (codes "--yield=") words said.0) (says-found (codes "--price=") read.text words prices read.stands) (lacks-none (codes "--rate=") words said.2)
    (ap (λ r. option_map (λ p. AtPrice p) (result_ok r)) read.is_read)
given-read words (AtRate rate) yields prices rates said =
    let read = said.2 in
    given-found words None None (Some read.text) (AtRate rate) (lacks-none (codes "--yield=") words said.0) (lacks-none (codes "--price=") words said.1) (says-found (codes "--rate=") read.text words rates read.stands)
    (ap (λ r. option_map (λ y. AtRate y) (result_ok r)) read.is_read)

-- ---- the calls
pub read-calls : (texts : List (List ℕ)) (calls : List Call) → calls_reading texts ≡ Some calls → AllZip IsCall texts calls
read-calls [] [] read = tt
read-calls [] (call ∷ calls) read = absurd (let none : Some [] ≡ Some (call ∷ calls) = read in cc)
read-calls (text ∷ texts) calls read =
    let one = bind-some (λ call. calls_reading texts >>= λ calls. Some (call ∷ calls)) (call_reading text) calls read in
    let rest = bind-some (λ calls. Some (one.0 ∷ calls)) (calls_reading texts) calls one.2 in
    subst (AllZip IsCall (text ∷ texts)) (same_Some (one.0 ∷ rest.0) calls rest.2) (read-call text one.0 one.1, read-calls texts rest.0 rest.1)

pub calls-read : (texts : List (List ℕ)) (calls : List Call) → AllZip IsCall texts calls → calls_reading texts ≡ Some calls
calls-read [] [] read = refl
calls-read [] (call ∷ calls) read = absurd read
calls-read (text ∷ texts) [] read = absurd read
calls-read (text ∷ texts) (call ∷ calls) read = some-bind (λ call. calls_reading texts >>= λ calls. Some (call ∷ calls)) (call_reading text) call (call ∷ calls) (call-read text call read.0) (some-bind (λ calls. Some (call ∷ calls)) (calls_reading texts) calls (call ∷ calls) (calls-read texts calls read.1) refl)

-- the values of an option in their order, and the words that have them
filter-here : (name text : List ℕ) (words : List (List ℕ)) → is_option name text ≡ true → filter (is_option name) (text ∷ words) ≡ text ∷ filter (is_option name) words
filter-here name text words is = rw is refl

filter-there : (name text : List ℕ) (words : List (List ℕ)) → is_option name text ≡ false → filter (is_option name) (text ∷ words) ≡ filter (is_option name) words
filter-there name text words is = rw is refl

values-here : (name text : List ℕ) (words : List (List ℕ)) → is_option name text ≡ true → values_of name (text ∷ words) ≡ drop (length name) text ∷ values_of name words
values-here name text words is = rw is refl

values-there : (name text : List ℕ) (words : List (List ℕ)) → is_option name text ≡ false → values_of name (text ∷ words) ≡ values_of name words
values-there name text words is = rw is refl

filter-by : (name text : List ℕ) (words : List (List ℕ)) (test : Bool) → is_option name text ≡ test → filter (is_option name) words ≡ map (λ value. name ++ value) (values_of name words) → filter (is_option name) (text ∷ words) ≡ map (λ value. name ++ value) (values_of name (text ∷ words))
filter-by name text words true is rest = filter-here name text words is ∙ (λ i. option-joined name text is i ∷ rest i) ∙ ap (map (λ value. name ++ value)) (sym (values-here name text words is))
filter-by name text words false is rest = filter-there name text words is ∙ rest ∙ ap (map (λ value. name ++ value)) (sym (values-there name text words is))

filter-values : (name : List ℕ) (words : List (List ℕ)) → filter (is_option name) words ≡ map (λ value. name ++ value) (values_of name words)
filter-values name [] = refl
filter-values name (text ∷ words) = filter-by name text words (is_option name text) refl (filter-values name words)

same-values : (name : List ℕ) (xs ys : List (List ℕ)) → map (λ value. name ++ value) xs ≡ map (λ value. name ++ value) ys → xs ≡ ys
same-values name [] [] is = refl
same-values name [] (y ∷ ys) is = absurd (let none : [] ≡ (name ++ y) ∷ map (λ value. name ++ value) ys = is in cc)
same-values name (x ∷ xs) [] is = absurd (let none : (name ++ x) ∷ map (λ value. name ++ value) xs ≡ [] = is in cc)
same-values name (x ∷ xs) (y ∷ ys) is =
    let both : (name ++ x) ∷ map (λ value. name ++ value) xs ≡ (name ++ y) ∷ map (λ value. name ++ value) ys = is in
    let head : name ++ x ≡ name ++ y = cc in
    let tail : map (λ value. name ++ value) xs ≡ map (λ value. name ++ value) ys = cc in
    (λ i. append_cancel_left name x y head i ∷ same-values name xs ys tail i)

-- texts as calls, at most 40 of them
abbrev calls_from : List (List ℕ) → Option (List Call)
calls_from texts = if nat_le (length texts) 40 then calls_reading texts else None

calls-few : (texts : List (List ℕ)) (test : Bool) → nat_le (length texts) 40 ≡ test → test ≡ true → calls_from texts ≡ calls_reading texts
calls-few texts test is few = ap (λ b. if b then calls_reading texts else None) (is ∙ few)

pub read-said_calls : (words : List (List ℕ)) (calls : List Call) → calls_of words ≡ Some calls → SaysCalls words calls
read-said_calls words calls is =
    let texts = values_of (codes "--call=") words in
    let parts = if-some (nat_le (length texts) 40) (calls_reading texts) calls is in
    let few : nat_le (length texts) 40 ≡ true = parts.0 in
    record { texts = texts; in_order = filter-values (codes "--call=") words; at_most = grind (arith, nat_tests); are_read = read-calls texts calls parts.1 }

pub said_calls-read : (words : List (List ℕ)) (calls : List Call) → SaysCalls words calls → calls_of words ≡ Some calls
said_calls-read words calls said =
    let same = same-values (codes "--call=") (values_of (codes "--call=") words) said.texts (sym (filter-values (codes "--call=") words) ∙ said.in_order) in
    let at_most = said.at_most in
    let few : nat_le (length said.texts) 40 ≡ true = grind (arith, nat_tests) in
    ap calls_from same ∙ calls-few said.texts true few refl ∙ calls-read said.texts calls said.are_read

-- ---- the terms
abbrev row_from : Kind → Basis → Day → Day → ℕ → List Call → IssueRow
row_from kind basis dated maturity coupon calls = record { cusip = codes "000000000"; name = record { items = codes "QUOTE" }; kind = kind; basis = basis; dated = dated; maturity = maturity; coupon = coupon; calls = record { items = calls } }

read-row : (words : List (List ℕ)) (row : IssueRow) → row_of words ≡ Some row → SaysTerms words row
read-row words row is =
    let kind = bind-some _ (kind_of words) row is in
    let days = bind-some _ (day_count_of kind.0 (value_of (codes "--days=") words)) row kind.2 in
    let dated = bind-some _ (date_of (codes "--dated=") words) row days.2 in
    let maturity = bind-some _ (date_of (codes "--maturity=") words) row dated.2 in
    let coupon = bind-some _ (coupon_of (pays_interest kind.0) (value_of (codes "--coupon=") words)) row maturity.2 in
    let calls = bind-some _ (calls_of words) row coupon.2 in
    subst (SaysTerms words) (same_Some (row_from kind.0 days.0 dated.0 maturity.0 coupon.0 calls.0) row calls.2)
    (record {
      kind = read-kind words kind.0 kind.1;
      days = read-days words kind.0 days.0 days.1;
      dated = read-ok day_reading words (codes "--dated=") dated.0 dated.1;
      maturity = read-ok day_reading words (codes "--maturity=") maturity.0 maturity.1;
      coupon = read-coupon words kind.0 coupon.0 coupon.1;
      calls = read-said_calls words calls.0 calls.1;
      cusip = refl;
      name = refl;
    })

row-same : (words : List (List ℕ)) (row : IssueRow) → SaysTerms words row → Some (row_from row.kind row.basis row.dated row.maturity row.coupon row.calls.items) ≡ Some row
row-same words row said = λ i. Some (record { cusip = sym said.cusip i; name = record { items = sym said.name i }; kind = row.kind; basis = row.basis; dated = row.dated; maturity = row.maturity; coupon = row.coupon; calls = row.calls })

row-read : (words : List (List ℕ)) (row : IssueRow) → All (IsSingle words) single_options → SaysTerms words row → row_of words ≡ Some row
row-read words row single said =
    some-bind _ (kind_of words) row.kind row (kind-read words row.kind (single 0 [] (omega arith)) (single 2 [] (omega arith)) said.kind)
    (some-bind _ (day_count_of row.kind (value_of (codes "--days=") words)) row.basis row (days-read words row.kind row.basis (single 11 [] (omega arith)) said.days)
    (some-bind _ (date_of (codes "--dated=") words) row.dated row (ok-read day_reading words (codes "--dated=") row.dated (single 1 [] (omega arith)) said.dated)
    (some-bind _ (date_of (codes "--maturity=") words) row.maturity row (ok-read day_reading words (codes "--maturity=") row.maturity (single 3 [] (omega arith)) said.maturity)
    (some-bind _ (coupon_of (pays_interest row.kind) (value_of (codes "--coupon=") words)) row.coupon row (coupon-read words row.kind row.coupon (single 4 [] (omega arith)) said.coupon)
    (some-bind _ (calls_of words) row.calls.items row (said_calls-read words row.calls.items said.calls)
    (row-same words row said))))))

-- ---- what is asked for
abbrev asked_from : ℕ → Day → Given → Asked
asked_from par settle given = record { cusip = codes "000000000"; par = par; settle = settle; given = given; side = Buy; fee = 0 }

read-par : (words : List (List ℕ)) (par : ℕ) (found : Option (List ℕ)) → value_of (codes "--par=") words ≡ found → par_of found ≡ Some par → ReadsOr words (codes "--par=") (λ text. par_reading text ≡ Ok par) (par ≡ 100)
read-par words par None is read = inr (none-lacks (codes "--par=") words is, sym (same_Some 100 par read))
read-par words par (Some text) is read = inl (record { text = text; stands = found-says (codes "--par=") text words is; is_read = ok-some (par_reading text) par read })

par-read : (words : List (List ℕ)) (par : ℕ) → IsSingle words (codes "--par=") → ReadsOr words (codes "--par=") (λ text. par_reading text ≡ Ok par) (par ≡ 100) → par_of (value_of (codes "--par=") words) ≡ Some par
par-read words par single (inl read) = ap par_of (says-found (codes "--par=") read.text words single read.stands) ∙ ap result_ok read.is_read
par-read words par single (inr lacks) = ap par_of (lacks-none (codes "--par=") words lacks.0) ∙ ap Some (sym lacks.1)

pub read-workers : (words : List (List ℕ)) (workers : ℕ) (found : Option (List ℕ)) → value_of (codes "--workers=") words ≡ found → workers_in found ≡ Some workers → ReadsOr words (codes "--workers=") (λ text. number_reading 20 1 16 text ≡ Some workers) (workers ≡ 1)
read-workers words workers None is read = inr (none-lacks (codes "--workers=") words is, sym (same_Some 1 workers read))
read-workers words workers (Some text) is read = inl (record { text = text; stands = found-says (codes "--workers=") text words is; is_read = read })

pub workers-read : (words : List (List ℕ)) (workers : ℕ) → IsSingle words (codes "--workers=") → ReadsOr words (codes "--workers=") (λ text. number_reading 20 1 16 text ≡ Some workers) (workers ≡ 1) → workers_of words ≡ Some workers
workers-read words workers single (inl read) = ap workers_in (says-found (codes "--workers=") read.text words single read.stands) ∙ read.is_read
workers-read words workers single (inr lacks) = ap workers_in (lacks-none (codes "--workers=") words lacks.0) ∙ ap Some (sym lacks.1)

read-asked : (words : List (List ℕ)) (asked : Asked) → asked_of words ≡ Some asked → SaysAsked words asked
read-asked words asked is =
    let par = bind-some _ (par_of (value_of (codes "--par=") words)) asked is in
    let settle = bind-some _ (date_of (codes "--settle=") words) asked par.2 in
    let given = bind-some _ (given_of words) asked settle.2 in
    subst (SaysAsked words) (same_Some (asked_from par.0 settle.0 given.0) asked given.2)
    (record {
      par = read-par words par.0 (value_of (codes "--par=") words) refl par.1;
      settle = read-ok day_reading words (codes "--settle=") settle.0 settle.1;
      given = read-given words given.0 given.1;
      cusip = refl;
      side = refl;
      fee = refl;
    })

asked-same : (words : List (List ℕ)) (asked : Asked) → SaysAsked words asked → Some (asked_from asked.par asked.settle asked.given) ≡ Some asked
asked-same words asked said = λ i. Some (record { cusip = sym said.cusip i; par = asked.par; settle = asked.settle; given = asked.given; side = sym said.side i; fee = sym said.fee i })

asked-read : (words : List (List ℕ)) (asked : Asked) → All (IsSingle words) single_options → SaysAsked words asked → asked_of words ≡ Some asked
asked-read words asked single said =
    some-bind _ (par_of (value_of (codes "--par=") words)) asked.par asked (par-read words asked.par (single 6 [] (omega arith)) said.par)
    (some-bind _ (date_of (codes "--settle=") words) asked.settle asked (ok-read day_reading words (codes "--settle=") asked.settle (single 5 [] (omega arith)) said.settle)
    (some-bind _ (given_of words) asked.given asked (given-read words asked.given (single 7 [] (omega arith)) (single 8 [] (omega arith)) (single 9 [] (omega arith)) said.given)
    (asked-same words asked said)))

-- ---- `quote`
abbrev quote_from : IssueRow → Asked → Shown → ℕ → CommandLine
quote_from row asked shown workers = record { command = Quote (record { row = row; asked = asked }) shown; workers = workers }

pub read-quote : (words : List (List ℕ)) (name : List ℕ) (line : CommandLine) → name ≡ codes "quote" → quote_of words ≡ Some line → IsCommandLine (name ∷ words) line
read-quote words name line named is =
    let options_read = if-some (are_options_beside plain_words options single_options words) (quote.command_line words) line is in
    let stand = options-read-beside plain_words options single_options words options_read.0 in
    let row = bind-some _ (row_of words) line options_read.1 in
    let asked = bind-some _ (asked_of words) line row.2 in
    let workers = bind-some _ (workers_of words) line asked.2 in
    subst (IsCommandLine (name ∷ words)) (same_Some (quote_from row.0 asked.0 (shown_of words) workers.0) line workers.2) (
      named,
      record {
        known = stand.0;
        once = stand.1;
        single = stand.2;
        each = has-read each_word words (has_word each_word words) refl;
        risk = has-read risk_word words (has_word risk_word words) refl;
        terms = read-row words row.0 row.1;
        asked = read-asked words asked.0 asked.1;
        at_once = read-workers words workers.0 (value_of (codes "--workers=") words) refl workers.1;
      },
    )

pub quote-read : (words : List (List ℕ)) (request : QuoteRequest) (shown : Shown) (workers : ℕ) → IsQuote words request shown workers → quote_of words ≡ Some (record { command = Quote request shown; workers = workers })
quote-read words request shown workers said =
    let line : CommandLine = record { command = Quote request shown; workers = workers } in
    when-true (are_options_beside plain_words options single_options words) (quote.command_line words) line (are-options-beside plain_words options single_options words said.known said.once said.single)
    (some-bind _ (row_of words) request.row line (row-read words request.row said.single said.terms)
    (some-bind _ (asked_of words) request.asked line (asked-read words request.asked said.single said.asked)
    (some-bind _ (workers_of words) workers line (workers-read words workers (said.single 10 [] (omega arith)) said.at_once)
    (λ i. Some (quote_from request.row request.asked (record { each = read-has each_word words shown.each said.each i; risk = read-has risk_word words shown.risk said.risk i }) workers)))))

-- ---- `drill`
abbrev drill_from : ℕ → ℕ → ℕ → CommandLine
drill_from count seed workers = record { command = Drill (record { seed = seed; count = count }); workers = workers }

pub read-drill : (words : List (List ℕ)) (name : List ℕ) (line : CommandLine) → name ≡ codes "drill" → drill_of words ≡ Some line → IsCommandLine (name ∷ words) line
read-drill words name line named is =
    let options_read = if-some (are_options drill.options drill.options words) (drill.command_line words) line is in
    let stand = options-read drill.options drill.options words options_read.0 in
    let count = bind-some _ (drill.number_of (codes "--count=") 0 1_000 words) line options_read.1 in
    let seed = bind-some _ (drill.number_of (codes "--seed=") 0 18_446_744_073_709_551_615 words) line count.2 in
    let workers = bind-some _ (drill.number_of (codes "--workers=") 1 16 words) line seed.2 in
    subst (IsCommandLine (name ∷ words)) (same_Some (drill_from count.0 seed.0 workers.0) line workers.2) (
      named,
      record {
        known = stand.0;
        single = stand.1;
        count = read-option (number_reading 20 0 1_000) words (codes "--count=") count.0 count.1;
        seed = read-option (number_reading 20 0 18_446_744_073_709_551_615) words (codes "--seed=") seed.0 seed.1;
        at_once = read-option (number_reading 20 1 16) words (codes "--workers=") workers.0 workers.1;
      },
    )

pub drill-read : (words : List (List ℕ)) (request : DrillRequest) (workers : ℕ) → IsDrill words request workers → drill_of words ≡ Some (record { command = Drill request; workers = workers })
drill-read words request workers said =
    let line : CommandLine = record { command = Drill request; workers = workers } in
    when-true (are_options drill.options drill.options words) (drill.command_line words) line (are-options drill.options drill.options words said.known said.single)
    (some-bind _ (drill.number_of (codes "--count=") 0 1_000 words) request.count line (option-read (number_reading 20 0 1_000) words (codes "--count=") request.count (said.single 0 [] (omega arith)) said.count)
    (some-bind _ (drill.number_of (codes "--seed=") 0 18_446_744_073_709_551_615 words) request.seed line (option-read (number_reading 20 0 18_446_744_073_709_551_615) words (codes "--seed=") request.seed (said.single 1 [] (omega arith)) said.seed)
    (some-bind _ (drill.number_of (codes "--workers=") 1 16 words) workers line (option-read (number_reading 20 1 16) words (codes "--workers=") workers (said.single 2 [] (omega arith)) said.at_once)
    refl)))

-- ---- `quote-one`
abbrev request_from : ℕ → Day → Day → ℕ → ℤ → QuoteOneRequest
request_from coupon next settlement redemption yld = record { coupon = coupon; next = next; settlement = settlement; redemption = redemption; yld = yld }

read-values : (words : List (List ℕ)) (name : List ℕ) (line : CommandLine) → name ≡ codes "quote-one" → length words ≡ 5 → values_reading (word words 0) (word words 1) (word words 2) (word words 3) (word words 4) ≡ Some line → IsCommandLine (name ∷ words) line
read-values words name line named five is =
    let coupon = bind-some _ (result_ok (coupon_reading (word words 0))) line is in
    let next = bind-some _ (result_ok (day_reading (word words 1))) line coupon.2 in
    let settlement = bind-some _ (result_ok (day_reading (word words 2))) line next.2 in
    let redemption = bind-some _ (result_ok (price_reading (word words 3))) line settlement.2 in
    let yld = bind-some _ (result_ok (yield_reading (word words 4))) line redemption.2 in
    let date = bind-some _ (if_next next.0) line yld.2 in
    let can_be = if-some (is_next (civil next.0)) (Some next.0) date.0 date.1 in
    let request = request_from coupon.0 date.0 settlement.0 redemption.0 yld.0 in
    let dates = both (nat_le date.0.day 28) (nat_le 1902 date.0.year) (subst (λ d. is_next (civil d) ≡ true) (same_Some next.0 date.0 can_be.1) can_be.0) in
    let day : nat_le date.0.day 28 ≡ true = dates.0 in
    let year : nat_le 1902 date.0.year ≡ true = dates.1 in
    subst (IsCommandLine (name ∷ words)) (same_Some (record { command = QuoteOne request; workers = 1 }) line date.2) (
      named,
      record {
        five = five;
        coupon = ok-some (coupon_reading (word words 0)) coupon.0 coupon.1;
        next = ok-some (day_reading (word words 1)) date.0 (next.1 ∙ can_be.1);
        settlement = ok-some (day_reading (word words 2)) settlement.0 settlement.1;
        redemption = ok-some (price_reading (word words 3)) redemption.0 redemption.1;
        yld = ok-some (yield_reading (word words 4)) yld.0 yld.1;
        day_at_most = grind (arith, nat_tests);
        year_at_least = grind (arith, nat_tests);
      },
      refl,
    )

pub read-quote_one : (words : List (List ℕ)) (name : List ℕ) (line : CommandLine) → name ≡ codes "quote-one" → quote_one_of words ≡ Some line → IsCommandLine (name ∷ words) line
read-quote_one words name line named is =
    let parts = if-some (length words == 5) (values_reading (word words 0) (word words 1) (word words 2) (word words 3) (word words 4)) line is in
    read-values words name line named ((Decides-eqb (length words) 5).0 parts.0) parts.1

pub quote_one-read : (words : List (List ℕ)) (request : QuoteOneRequest) → IsQuoteOne words request → quote_one_of words ≡ Some (record { command = QuoteOne request; workers = 1 })
quote_one-read words request said =
    let line : CommandLine = record { command = QuoteOne request; workers = 1 } in
    let day : request.next.day ≤ 28 = said.day_at_most in
    let year : 1902 ≤ request.next.year = said.year_at_least in
    let next : is_next (civil request.next) ≡ true = grind (arith, nat_tests) in
    when-true (length words == 5) (values_reading (word words 0) (word words 1) (word words 2) (word words 3) (word words 4)) line ((Decides-eqb (length words) 5).1 said.five)
    (some-bind _ (result_ok (coupon_reading (word words 0))) request.coupon line (ap result_ok said.coupon)
    (some-bind _ (result_ok (day_reading (word words 1))) request.next line (ap result_ok said.next)
    (some-bind _ (result_ok (day_reading (word words 2))) request.settlement line (ap result_ok said.settlement)
    (some-bind _ (result_ok (price_reading (word words 3))) request.redemption line (ap result_ok said.redemption)
    (some-bind _ (result_ok (yield_reading (word words 4))) request.yld line (ap result_ok said.yld)
    (some-bind _ (if_next request.next) request.next line (when-true (is_next (civil request.next)) (Some request.next) request.next next refl)
    refl))))))
