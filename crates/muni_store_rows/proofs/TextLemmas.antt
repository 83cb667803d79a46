-- The texts of days and of calls, read again.
use Rattle.std.proofs.Common.{◌≡◌, ◌≤◌, ◌<◌, ◌+◌, ◌-◌, ◌/◌, ◌%◌, ◌^◌, ◌*◌, ℕ, zero, suc, Bool, true, false, not, ◌&&◌, List, [], ◌∷◌, ◌++◌, length, map, decimal, position, take, Option, Some, None, refl, sym, ap, ◌∙◌, arith, append_assoc, Ok, Err}
use Rattle.std.specs.Prelude.{◌==◌, nat_lt, nat_le, if◌then◌else◌, ⊤}
use Rattle.std.specs.Char.{is_ascii_digit}
use Rattle.std.specs.List.{list_all, last_or, position_or_len}
use Rattle.std.specs.Option.{option_map}
use Rattle.std.specs.Result.{result_ok}
use Rattle.std.specs.Str.{bytes_eq}
use Rattle.std.proofs.lemmas.Bool.{and_parts}
use Rattle.std.proofs.lemmas.Bool.Decides.{nat_tests}
use Rattle.std.proofs.Math.Seq.{take-append_seam}
use Rattle.std.proofs.lemmas.List.{append-nil, length-map, length-append}
use Rattle.std.proofs.lemmas.List.Folds.{list_all-append}
use Rattle.std.proofs.lemmas.Slice.Eq.{bytes_eq-Decides}
use Rattle.muni_rule.specs.Civil.{Civil}
use Rattle.muni_rule.specs.declared.call_term.CallTerm.{CallTerm}
use Rattle.muni_rule.specs.declared.call_term.CallTerm.TheVariants.{OnDay, OnOrAfter, Called}
use Rattle.muni_dec.specs.Decimal.{decimal_text}
use Rattle.muni_dec.specs.Digits.{digits_end, last_digits, number}
use Rattle.muni_dec.specs.Values.{amount_reading, price_reading}
use Rattle.muni_dec.specs.declared.fault.DecFault.{DecFault}
use Rattle.muni_dec.specs.declared.fault.DecFault.TheVariants.{Empty, NotADigit}
use Rattle.muni_dec.proofs.RoundTripLemmas.{read-again, digits-read-again}
use Rattle.muni_days.specs.Day.{civil, day_text}
use Rattle.muni_days.specs.declared.day.Day.{Day}
use Rattle.muni_days.proofs.ReadingLemmas.{text-read}
use Rattle.muni_terms.specs.declared.row.Call.{Call}
use Rattle.muni_msg.specs.Fields.{day_in, split_by, split_mark, call_price_reading, call_reading}
use Rattle.muni_msg.specs.IssueFields.{calls_reading}
use Rattle.muni_msg.specs.Calls.{cut_at_blanks, calls_field}
use Rattle.muni_store_rows.specs.Calls.{mark_text, call_text, calls_behind_blanks, calls_text, calls_of}

-- ---- which bytes such a text has
all-last_digits : (p : ℕ → Bool) → ((n : ℕ) → p (48 + n % 10) ≡ true) → (count n : ℕ) → list_all p (last_digits count n) ≡ true
all-last_digits p digit zero n = refl
all-last_digits p digit (suc count) n =
    list_all-append p (last_digits count (n / 10)) ((48 + n % 10) ∷ []) ∙ rw (all-last_digits p digit count (n / 10), digit n) refl

all-day : (p : ℕ → Bool) → ((n : ℕ) → p (48 + n % 10) ≡ true) → p 45 ≡ true → (date : Civil) → list_all p (day_text date) ≡ true
all-day p digit dash date =
    rw (
      digit (date.year / 10 / 10 / 10),
      digit (date.year / 10 / 10),
      digit (date.year / 10),
      digit date.year,
      dash,
      digit (date.month / 10),
      digit date.month,
      digit (date.day / 10),
      digit date.day,
    ) refl

by-digits : (empty some all : Bool) (text : List ℕ) (units : ℕ) (fault : DecFault) → (if empty then Err Empty else (if some && all then Ok (number text * 10 ^ 0) else Err fault)) ≡ Ok units → all ≡ true
by-digits true some all text units fault is = absurd (cc is)
by-digits false true true text units fault is = refl
by-digits false true false text units fault is = absurd (cc is)
by-digits false false all text units fault is = absurd (cc is)

decimal-digits : (n : ℕ) → n < 2 ^ 64 → list_all is_ascii_digit (decimal n) ≡ true
decimal-digits n small =
    by-digits (length (decimal n) == 0) (nat_lt 0 (length (decimal n))) (list_all is_ascii_digit (decimal n)) (decimal n) n (NotADigit (digits_end (decimal n))) (digits-read-again n small)

-- a test that each digit passes
all-digits : (p : ℕ → Bool) → ((b : ℕ) → is_ascii_digit b ≡ true → p b ≡ true) → (text : List ℕ) → list_all is_ascii_digit text ≡ true → list_all p text ≡ true
all-digits p digit [] all = refl
all-digits p digit (b ∷ text) all =
    let parts = and_parts (is_ascii_digit b) (list_all is_ascii_digit text) all in
    rw (digit b parts.0, all-digits p digit text parts.1) refl

no-blank : (b : ℕ) → is_ascii_digit b ≡ true → not (b == 32) ≡ true
no-blank b is = grind (arith, nat_tests, is)

digit-no-blank : (n : ℕ) → not ((48 + n % 10) == 32) ≡ true
digit-no-blank n = grind (arith, nat_tests)

digit-no-colon : (n : ℕ) → not ((48 + n % 10) == 58) ≡ true
digit-no-colon n = grind (arith, nat_tests)

mark-no-blank : (term : CallTerm) → list_all (λ b. not (b == 32)) (mark_text term) ≡ true
mark-no-blank OnDay = refl
mark-no-blank OnOrAfter = refl
mark-no-blank Called = refl

-- a call has no blank
call-no-blank : (call : Call) → call.price < 2 ^ 64 → list_all (λ b. not (b == 32)) (call_text call) ≡ true
call-no-blank call small =
    let p : ℕ → Bool = λ b. not (b == 32) in
    let whole = all-digits p no-blank (decimal (call.price / 10 ^ 6)) (decimal-digits (call.price / 10 ^ 6) (omega (arith, small))) in
    let price : list_all p (decimal_text 6 call.price) ≡ true =
    list_all-append p (decimal (call.price / 10 ^ 6)) (46 ∷ last_digits 6 call.price) ∙ rw (whole, all-last_digits p digit-no-blank 6 call.price) refl in
    list_all-append p (day_text (civil call.date)) (58 ∷ (decimal_text 6 call.price ++ mark_text call.term))
    ∙ rw (all-day p digit-no-blank refl (civil call.date), list_all-append p (decimal_text 6 call.price) (mark_text call.term), price, mark-no-blank call.term) refl

-- ---- cut at blanks
not-true : (test : Bool) → not test ≡ true → test ≡ false
not-true true is = absurd (cc is)
not-true false is = refl

cut-front : (text rest : List ℕ) → list_all (λ b. not (b == 32)) text ≡ true → cut_at_blanks (text ++ 32 ∷ rest) ≡ text ∷ cut_at_blanks rest
unfolding cut_at_blanks
cut-front [] rest none = refl
cut-front (byte ∷ text) rest none =
    let parts = and_parts (not (byte == 32)) (list_all (λ b. not (b == 32)) text) none in
    rw (not-true (byte == 32) parts.0, cut-front text rest parts.1) refl

cut-last : (text : List ℕ) → list_all (λ b. not (b == 32)) text ≡ true → cut_at_blanks text ≡ text ∷ []
unfolding cut_at_blanks
cut-last [] none = refl
cut-last (byte ∷ text) none =
    let parts = and_parts (not (byte == 32)) (list_all (λ b. not (b == 32)) text) none in
    rw (not-true (byte == 32) parts.0, cut-last text parts.1) refl

-- each price lies in the range of prices
abbrev pub ArePriced : List Call → Type 0
ArePriced [] = ⊤
ArePriced (call ∷ calls) = (call.price ≤ 999_999_999) × ArePriced calls

cut-calls : (call : Call) (calls : List Call) → ArePriced (call ∷ calls) → cut_at_blanks (call_text call ++ calls_behind_blanks calls) ≡ call_text call ∷ map call_text calls
cut-calls call [] priced =
    rw (append-nil (call_text call)) (cut-last (call_text call) (call-no-blank call (omega (arith, priced.0))))
cut-calls call (next ∷ calls) priced =
    cut-front (call_text call) (call_text next ++ calls_behind_blanks calls) (call-no-blank call (omega (arith, priced.0)))
    ∙ ap (λ texts. call_text call ∷ texts) (cut-calls next calls priced.1)

-- ---- read again
pub day_again : (date : Day) → day_in (day_text (civil date)) ≡ Some date
day_again date = ap result_ok (text-read (day_text (civil date)) date refl)

price-again : (price : ℕ) → price ≤ 999_999_999 → price_reading (decimal_text 6 price) ≡ Ok price
unfolding price_reading amount_reading
price-again price few =
    let inside : nat_le price 999_999_999 ≡ true = grind (arith, nat_tests, few) in
    let least : nat_le 0 price ≡ true = grind (arith, nat_tests) in
    rw (read-again 6 price (omega arith) (omega (arith, few)), least, inside) refl

place-behind : (p : ℕ → Bool) (text rest : List ℕ) (byte : ℕ) → list_all (λ b. not (p b)) text ≡ true → p byte ≡ true → position_or_len p (text ++ byte ∷ rest) ≡ length text
place-behind p [] rest byte none is = rw is refl
place-behind p (b ∷ text) rest byte none is =
    let parts = and_parts (not (p b)) (list_all (λ b. not (p b)) text) none in
    rw (parts.0, place-behind p text rest byte parts.1 is) (omega arith)

colon-place : (call : Call) → position (λ b. b == 58) (call_text call) ≡ Some 10
colon-place call =
    let place : position_or_len (λ b. b == 58) (call_text call) ≡ 10 = place-behind (λ b. b == 58) (day_text (civil call.date)) (decimal_text 6 call.price ++ mark_text call.term) 58 (all-day (λ b. not (b == 58)) digit-no-colon refl (civil call.date)) refl in
    let inside : nat_lt 10 (length (call_text call)) ≡ true = grind (arith, nat_tests) in
    rw (place, inside) refl

-- ---- the mark after a price
last-pushed : (before : Option ℕ) (text : List ℕ) (byte : ℕ) → last_or before (text ++ byte ∷ []) ≡ Some byte
last-pushed before [] byte = refl
last-pushed before (first ∷ text) byte = last-pushed (Some first) text byte

price-last : (price : ℕ) → last_or None (decimal_text 6 price) ≡ Some (48 + price % 10)
price-last price =
    let front = decimal (price / 10 ^ 6) ++ 46 ∷ last_digits 5 (price / 10) in
    let whole : decimal_text 6 price ≡ front ++ (48 + price % 10) ∷ [] = sym (append_assoc (decimal (price / 10 ^ 6)) (46 ∷ last_digits 5 (price / 10)) ((48 + price % 10) ∷ [])) in
    rw whole (last-pushed None front (48 + price % 10))

split-marked : (text : List ℕ) (mark : ℕ) → split_mark (text ++ mark ∷ []) ≡ split_by (Some mark) (text ++ mark ∷ [])
split-marked text mark = ap (λ last. split_by last (text ++ mark ∷ [])) (last-pushed None text mark)

taken : (text : List ℕ) (mark : ℕ) → take (length (text ++ mark ∷ []) - 1) (text ++ mark ∷ []) ≡ text
taken text mark =
    let long : length (text ++ mark ∷ []) - 1 ≡ length text = omega (arith, length-append text (mark ∷ [])) in
    ap (λ n. take n (text ++ mark ∷ [])) long ∙ take-append_seam text (mark ∷ [])

split-again : (price : ℕ) (term : CallTerm) → split_mark (decimal_text 6 price ++ mark_text term) ≡ (decimal_text 6 price, term)
split-again price OnDay =
    let plus : ((48 + price % 10) == 43) ≡ false = grind (arith, nat_tests) in
    let called : ((48 + price % 10) == 33) ≡ false = grind (arith, nat_tests) in
    ap split_mark (append-nil (decimal_text 6 price)) ∙ ap (λ last. split_by last (decimal_text 6 price)) (price-last price) ∙ rw (plus, called) refl
split-again price OnOrAfter = split-marked (decimal_text 6 price) 43 ∙ (λ i. (taken (decimal_text 6 price) 43 i, OnOrAfter))
split-again price Called = split-marked (decimal_text 6 price) 33 ∙ (λ i. (taken (decimal_text 6 price) 33 i, Called))

marked-again : (price : ℕ) (term : CallTerm) → price ≤ 999_999_999 → call_price_reading (decimal_text 6 price ++ mark_text term) ≡ Some (price, term)
marked-again price term few =
    ap (λ (split : List ℕ × CallTerm). option_map (λ found. (found, split.1)) (result_ok (price_reading split.0))) (split-again price term)
    ∙ rw (price-again price few) refl

call-again : (call : Call) → call.price ≤ 999_999_999 → call_reading (call_text call) ≡ Some call
call-again call few =
    rw (colon-place call) (rw (day_again call.date, marked-again call.price call.term few) refl)

calls-again : (calls : List Call) → ArePriced calls → calls_reading (map call_text calls) ≡ Some calls
calls-again [] priced = refl
calls-again (call ∷ calls) priced = rw (call-again call priced.0, calls-again calls priced.1) refl

field-again : (calls : List Call) → ArePriced calls → length calls ≤ 40 → calls_field (calls_text calls) ≡ Some calls
unfolding calls_field
field-again [] priced few = refl
field-again (call ∷ calls) priced few =
    let some : (length (call_text call ++ calls_behind_blanks calls) == 0) ≡ false = grind (arith, nat_tests) in
    let count : nat_le (length (map call_text (call ∷ calls))) 40 ≡ true = grind (arith, nat_tests, length-map, few) in
    rw (some, cut-calls call calls priced, count) (calls-again (call ∷ calls) priced)

pub calls-read-again : (calls : List Call) → ArePriced calls → length calls ≤ 40 → calls_of (calls_text calls) ≡ Some calls
calls-read-again calls priced few =
    let same : bytes_eq (calls_text calls) (calls_text calls) ≡ true = grind (arith, bytes_eq-Decides (calls_text calls) (calls_text calls)) in
    rw (field-again calls priced few, same) refl
