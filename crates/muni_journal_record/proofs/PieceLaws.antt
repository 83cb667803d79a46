-- What was read was written so.
use Rattle.std.proofs.Common.{◌≡◌, ◌==◌, ◌&&◌, Bool, true, false, not, cond, ℕ, zero, suc, ◌+◌, ◌<◌, List, [], ◌∷◌, ◌++◌, length, get_or, Option, Some, None, Err, is_none, refl, sym, ◌∙◌, ap, arith, length-append, append-nil, append_assoc}
use Rattle.std.specs.Prelude.{ℤ, pos, negsuc, nat_le, nat_lt, position, IfSome}
use Rattle.std.specs.Char.{is_ascii_alphanumeric}
use Rattle.std.specs.Int.{w16, from_be_bytes}
use Rattle.std.specs.Option.{option_map}
use Rattle.std.specs.Result.{result_ok}
use Rattle.std.proofs.lemmas.Nat.{be_bytes_2}
use Rattle.std.proofs.lemmas.Option.{same_Some}
use Rattle.muni_rule.specs.Civil.{Civil}
use Rattle.muni_rule.specs.Ranges.{side_of, one_period_prints}
use Rattle.muni_rule.specs.declared.label.Label.{Label}
use Rattle.muni_rule.specs.declared.label.Label.TheVariants.{Maturity, ParOption, Call, Called}
use Rattle.muni_dec.specs.Values.{if_amount, if_percent, if_yield, if_printed_yield, if_money, if_printed_price, if_price, if_par, if_fee}
use Rattle.muni_days.specs.Calendar.{is_day}
use Rattle.muni_days.specs.Day.{civil, day_of, day_by, if_day}
use Rattle.muni_days.specs.declared.day.Day.{Day}
use Rattle.muni_msg.specs.Codes.{act_code, act_of_code, side_code, side_of_code, label_code, label_of_code, given_code, given_units, price_of_units, given_of_code}
use Rattle.muni_msg.specs.Names.{is_desk_letter}
use Rattle.muni_msg.specs.NameReading.{unless_bad, name_reading}
use Rattle.muni_msg.specs.declared.asked.Asked.{Asked}
use Rattle.muni_msg.specs.declared.command.Key.{Key}
use Rattle.muni_msg.specs.declared.figures.Figures.{Figures}
use Rattle.muni_msg.specs.declared.version.Version.{Version}
use Rattle.muni_msg.specs.declared.asked.Given.{Given}
use Rattle.muni_msg.specs.declared.asked.Given.TheVariants.{AtYield, AtPrice, AtRate}
use Rattle.muni_msg.specs.declared.asked.Side.{Side}
use Rattle.muni_msg.specs.declared.asked.Side.TheVariants.{Buy, Sell}
use Rattle.muni_msg.specs.declared.names.NameFault.TheVariants.{Empty, TooLong}
use Rattle.muni_msg.specs.declared.version.Act.{Act}
use Rattle.muni_msg.specs.declared.version.Act.TheVariants.{Entered, Corrected, Canceled}
use Rattle.muni_journal_record.specs.Words.{two, four, eight, signed}
use Rattle.muni_journal_record.specs.Fields.{day_bytes, text_bytes}
use Rattle.muni_journal_record.specs.VersionBody.{money_bytes, prices_bytes, figures_bytes, asked_bytes, version_bytes}
use Rattle.muni_journal_record.proofs.WordLaws.{length-four, length-eight, length-signed, length-day}

-- days
date_by : (date : Civil) (test : Bool) (is : is_day date ≡ test) (day : Day) → day_by date test is ≡ Some day → civil day ≡ date
date_by date true is day found = let same : day_of date is ≡ day = cc in ap civil (sym same)
date_by date false is day found = absurd (cc)

date_found : (date : Civil) (day : Day) → if_day date ≡ Some day → civil day ≡ date
unfolding if_day
date_found date day found = date_by date (is_day date) refl day found

pub day_written : (bytes : List ℕ) (date : Civil) → length bytes ≡ 4 → ((i : ℕ) → get_or bytes i 0 < 256) → date.year ≡ from_be_bytes w16 (get_or bytes 0 0 ∷ get_or bytes 1 0 ∷ []) → date.month ≡ get_or bytes 2 0 → date.day ≡ get_or bytes 3 0 → bytes ≡ two date.year ++ date.month ∷ date.day ∷ []
unfolding two
day_written [] date long small year month day = absurd (omega (arith, long))
day_written (a ∷ []) date long small year month day = absurd (omega (arith, long))
day_written (a ∷ b ∷ []) date long small year month day = absurd (omega (arith, long))
day_written (a ∷ b ∷ c ∷ []) date long small year month day = absurd (omega (arith, long))
day_written (a ∷ b ∷ c ∷ d ∷ e ∷ more) date long small year month day = absurd (omega (arith, long))
day_written (a ∷ b ∷ c ∷ d ∷ []) date long small year month day =
    let first : two date.year ≡ a ∷ b ∷ [] = be_bytes_2 (a ∷ b ∷ []) date.year refl below year in
    sym (λ i. first i ++ month i ∷ day i ∷ [])
  where
    below : (i : ℕ) → get_or (a ∷ b ∷ []) i 0 < 256
    below zero = small 0
    below (suc zero) = small 1
    below (suc (suc i)) = omega arith

pub day_read : (bytes : List ℕ) (date : Civil) (found : Option Day) → bytes ≡ two date.year ++ date.month ∷ date.day ∷ [] → found ≡ if_day date → IfSome found (λ day. bytes ≡ day_bytes day)
day_read bytes date None written is = tt
day_read bytes date (Some day) written is =
    written ∙ ap (λ (d : Civil). two d.year ++ d.month ∷ d.day ∷ []) (sym (date_found date day (sym is)))

-- ranges
kept_if : {A : Type 0} (test : Bool) (x y : A) → Some y ≡ cond test (Some x) None → x ≡ y
kept_if true x y is = sym (same_Some y x is)
kept_if false x y is = absurd (cc is)

pub amount_found : (least greatest n units : ℕ) → Some units ≡ if_amount least greatest n → n ≡ units
amount_found least greatest n units is = kept_if (nat_le least n && nat_le n greatest) n units is

pub percent_found : (below greatest : ℕ) (z units : ℤ) → Some units ≡ if_percent below greatest z → z ≡ units
percent_found below greatest (pos n) units is = kept_if (nat_le n greatest) (pos n) units is
percent_found below greatest (negsuc n) units is = kept_if (nat_lt n below) (negsuc n) units is

pub printed_yield_found : (z units : ℤ) → Some units ≡ if_printed_yield z → z ≡ units
printed_yield_found z units is = kept_if (is_none (side_of one_period_prints z)) z units is

-- codes
pub act_found : (code : ℕ) (act : Act) → Some act ≡ act_of_code code → code ≡ act_code act
act_found zero act is = ap act_code (same_Some Entered act (sym is))
act_found (suc zero) act is = ap act_code (same_Some Corrected act (sym is))
act_found (suc (suc zero)) act is = ap act_code (same_Some Canceled act (sym is))
act_found (suc (suc (suc more))) act is = absurd (cc is)

pub side_found : (code : ℕ) (side : Side) → Some side ≡ side_of_code code → code ≡ side_code side
side_found zero side is = ap side_code (same_Some Buy side (sym is))
side_found (suc zero) side is = ap side_code (same_Some Sell side (sym is))
side_found (suc (suc more)) side is = absurd (cc is)

pub label_found : (code : ℕ) (label : Label) → Some label ≡ label_of_code code → code ≡ label_code label
label_found zero label is = ap label_code (same_Some Maturity label (sym is))
label_found (suc zero) label is = ap label_code (same_Some ParOption label (sym is))
label_found (suc (suc zero)) label is = ap label_code (same_Some Call label (sym is))
label_found (suc (suc (suc zero))) label is = ap label_code (same_Some Called label (sym is))
label_found (suc (suc (suc (suc more)))) label is = absurd (cc is)

-- what is given
map_found : {A B : Type 0} (f : A → B) (o : Option A) (y : B) → Some y ≡ option_map f o → (x : A) × (Some x ≡ o) × (f x ≡ y)
map_found f None y is = absurd (cc is)
map_found f (Some x) y is = (x, refl, same_Some (f x) y (sym is))

price_found : (units : ℤ) (price : ℕ) → Some price ≡ price_of_units units → units ≡ pos price
price_found (pos n) price is = ap pos (amount_found 0 999_999_999 n price is)
price_found (negsuc n) price is = absurd (cc is)

pub given_found : (code : ℕ) (units : ℤ) (given : Given) → Some given ≡ given_of_code code units → (code ≡ given_code given) × (units ≡ given_units given)
given_found zero units given is =
    let found = map_found AtYield (if_yield units) given is in
    (ap given_code found.2, percent_found 999_999 9_999_999 units found.0 found.1 ∙ ap given_units found.2)
given_found (suc zero) units given is =
    let found = map_found AtPrice (price_of_units units) given is in
    (ap given_code found.2, price_found units found.0 found.1 ∙ ap given_units found.2)
given_found (suc (suc zero)) units given is =
    let found = map_found AtRate (if_yield units) given is in
    (ap given_code found.2, percent_found 999_999 9_999_999 units found.0 found.1 ∙ ap given_units found.2)
given_found (suc (suc (suc more))) units given is = absurd (cc is)

-- names
unless_bad_found : (text name : List ℕ) (bad : Option ℕ) → Some name ≡ result_ok (unless_bad text bad) → text ≡ name
unless_bad_found text name None is = same_Some text name (sym is)
unless_bad_found text name (Some place) is = absurd (cc is)

name_if_found : (none long : Bool) (text name : List ℕ) (bad : Option ℕ) → Some name ≡ result_ok (cond none (Err Empty) (cond long (Err TooLong) (unless_bad text bad))) → text ≡ name
name_if_found true long text name bad is = absurd (cc is)
name_if_found false true text name bad is = absurd (cc is)
name_if_found false false text name bad is = unless_bad_found text name bad is

pub name_found : (is_letter : ℕ → Bool) (most : ℕ) (text name : List ℕ) → Some name ≡ result_ok (name_reading is_letter most text) → text ≡ name
name_found is_letter most text name is =
    name_if_found (length text == 0) (nat_lt most (length text)) text name (position (λ b. not (is_letter b)) text) is

-- parts side by side
four_parts : (a b c d rest : List ℕ) → a ++ (b ++ (c ++ (d ++ rest))) ≡ (a ++ (b ++ (c ++ d))) ++ rest
four_parts a b c d rest = simp append_assoc

asked_parts : (cusip par day value fee rest : List ℕ) (side given : ℕ) → cusip ++ (side ∷ (par ++ (day ++ (given ∷ (value ++ (fee ++ rest)))))) ≡ (cusip ++ (side ∷ (par ++ (day ++ (given ∷ (value ++ fee)))))) ++ rest
asked_parts cusip par day value fee rest side given = simp append_assoc

-- a piece that is as long as all has nothing behind it
whole : (bytes piece rest : List ℕ) → bytes ≡ piece ++ rest → length bytes ≡ length piece → bytes ≡ piece
whole bytes piece [] is same = is ∙ append-nil piece
whole bytes piece (x ∷ rest) is same = absurd (omega (arith, ap length is, same, length-append piece (x ∷ rest)))

-- the money of figures
length-amounts : (a b c d : ℕ) → length (eight a ++ (eight b ++ (eight c ++ eight d))) ≡ 32
length-amounts a b c d =
    omega (
      arith,
      length-append (eight a) (eight b ++ (eight c ++ eight d)),
      length-append (eight b) (eight c ++ eight d),
      length-append (eight c) (eight d),
      length-eight a,
      length-eight b,
      length-eight c,
      length-eight d,
    )

pub money_written : {bytes r1 r2 r3 : List ℕ} {p q r s : ℕ} (r4 : List ℕ) (a b c d : ℕ) → bytes ≡ eight a ++ r1 → Some p ≡ if_money a → r1 ≡ eight b ++ r2 → Some q ≡ if_money b → r2 ≡ eight c ++ r3 → Some r ≡ if_money c → r3 ≡ eight d ++ r4 → Some s ≡ if_money d → length bytes ≡ 32
    → bytes ≡ eight p ++ (eight q ++ (eight r ++ eight s))
money_written {bytes} {r1} {r2} {r3} {p} {q} {r} {s} r4 a b c d first is_p second is_q third is_r fourth is_s long =
    let most : ℕ = 9_223_372_036_854_775_807 in
    let from_d : r3 ≡ eight s ++ r4 = fourth ∙ ap (λ n. eight n ++ r4) (amount_found 0 most d s is_s) in
    let from_c : r2 ≡ eight r ++ (eight s ++ r4) = third ∙ (λ i. eight (amount_found 0 most c r is_r i) ++ from_d i) in
    let from_b : r1 ≡ eight q ++ (eight r ++ (eight s ++ r4)) = second ∙ (λ i. eight (amount_found 0 most b q is_q i) ++ from_c i) in
    let from_a : bytes ≡ eight p ++ (eight q ++ (eight r ++ (eight s ++ r4))) = first ∙ (λ i. eight (amount_found 0 most a p is_p i) ++ from_b i) in
    whole bytes (eight p ++ (eight q ++ (eight r ++ eight s))) r4 (from_a ∙ four_parts (eight p) (eight q) (eight r) (eight s) r4) (long ∙ sym (length-amounts p q r s))

-- figures
length-figures : (f : Figures) → length (figures_bytes f) ≡ 57
length-figures f =
    omega (
      arith,
      length-append (prices_bytes f) (label_code f.label ∷ (signed f.days ++ money_bytes f)),
      length-append (eight f.price) (signed f.yld ++ (day_bytes f.redemption ++ four f.at)),
      length-append (signed f.yld) (day_bytes f.redemption ++ four f.at),
      length-append (day_bytes f.redemption) (four f.at),
      length-append (signed f.days) (money_bytes f),
      length-amounts f.principal f.accrued f.commission f.total,
      length-eight f.price,
      length-signed f.yld,
      length-day f.redemption,
      length-four f.at,
      length-signed f.days,
    )

figures_grouped : (price yld day at rest : List ℕ) → price ++ (yld ++ (day ++ (at ++ rest))) ≡ (price ++ (yld ++ (day ++ at))) ++ rest
figures_grouped price yld day at rest = simp append_assoc

pub figures_written : {bytes r1 r2 piece r3 r4 r5 r6 : List ℕ} {days : ℤ} {code : ℕ} (f : Figures) (price at : ℕ) (yld : ℤ) → bytes ≡ eight price ++ r1 → Some f.price ≡ if_printed_price price → r1 ≡ signed yld ++ r2 → Some f.yld ≡ if_printed_yield yld
    → r2 ≡ piece ++ r3 → piece ≡ day_bytes f.redemption → r3 ≡ four at ++ r4 → Some f.at ≡ if_price at → r4 ≡ code ∷ r5 → Some f.label ≡ label_of_code code → r5 ≡ signed days ++ r6 → f.days ≡ days
    → (length r6 ≡ 32 → r6 ≡ money_bytes f) → length bytes ≡ 57 → bytes ≡ figures_bytes f
figures_written {bytes} {r1} {r2} {piece} {r3} {r4} {r5} {r6} {days} {code} f price at yld first is_price second is_yld third day fourth is_at fifth is_label sixth is_days money long =
    let label = label_found code f.label is_label in
    let from_days : r5 ≡ signed f.days ++ r6 = sixth ∙ ap (λ z. signed z ++ r6) (sym is_days) in
    let from_label : r4 ≡ label_code f.label ∷ (signed f.days ++ r6) = fifth ∙ (λ i. label i ∷ from_days i) in
    let from_at : r3 ≡ four f.at ++ (label_code f.label ∷ (signed f.days ++ r6)) = fourth ∙ (λ i. four (amount_found 0 999_999_999 at f.at is_at i) ++ from_label i) in
    let from_day : r2 ≡ day_bytes f.redemption ++ (four f.at ++ (label_code f.label ∷ (signed f.days ++ r6))) = third ∙ (λ i. day i ++ from_at i) in
    let from_yld : r1 ≡ signed f.yld ++ (day_bytes f.redemption ++ (four f.at ++ (label_code f.label ∷ (signed f.days ++ r6)))) = second ∙ (λ i. signed (printed_yield_found yld f.yld is_yld i) ++ from_day i) in
    let all : bytes ≡ eight f.price ++ (signed f.yld ++ (day_bytes f.redemption ++ (four f.at ++ (label_code f.label ∷ (signed f.days ++ r6))))) = first ∙ (λ i. eight (amount_found 0 9_223_372_036_854_775_807 price f.price is_price i) ++ from_yld i) in
    let rest : length r6 ≡ 32 =
    omega (
      arith,
      long,
      ap length all,
      length-append (eight f.price) (signed f.yld ++ (day_bytes f.redemption ++ (four f.at ++ (label_code f.label ∷ (signed f.days ++ r6))))),
      length-append (signed f.yld) (day_bytes f.redemption ++ (four f.at ++ (label_code f.label ∷ (signed f.days ++ r6)))),
      length-append (day_bytes f.redemption) (four f.at ++ (label_code f.label ∷ (signed f.days ++ r6))),
      length-append (four f.at) (label_code f.label ∷ (signed f.days ++ r6)),
      length-append (signed f.days) r6,
      length-eight f.price,
      length-signed f.yld,
      length-day f.redemption,
      length-four f.at,
      length-signed f.days,
    ) in
    all ∙ ap (λ m. eight f.price ++ (signed f.yld ++ (day_bytes f.redemption ++ (four f.at ++ (label_code f.label ∷ (signed f.days ++ m)))))) (money rest)
    ∙ figures_grouped (eight f.price) (signed f.yld) (day_bytes f.redemption) (four f.at) (label_code f.label ∷ (signed f.days ++ money_bytes f))

-- what is asked
length-asked-of : (a : Asked) → length a.cusip ≡ 9 → length (asked_bytes a) ≡ 27
length-asked-of a nine =
    let value = signed (given_units a.given) ++ four a.fee in
    let day = day_bytes a.settle ++ (given_code a.given ∷ value) in
    omega (
      arith,
      nine,
      length-append a.cusip (side_code a.side ∷ (four a.par ++ day)),
      length-append (four a.par) day,
      length-four a.par,
      length-append (day_bytes a.settle) (given_code a.given ∷ value),
      length-day a.settle,
      length-append (signed (given_units a.given)) (four a.fee),
      length-signed (given_units a.given),
      length-four a.fee,
    )

pub asked_size : (a : Asked) {piece : List ℕ} → length piece ≡ 9 → a.cusip ≡ piece → length (asked_bytes a) ≡ 27
asked_size a nine is = length-asked-of a (ap length is ∙ nine)

pub asked_written : {bytes piece r1 r2 r3 place r4 r5 r6 : List ℕ} {side basis : ℕ} (a : Asked) (r7 : List ℕ) (par fee : ℕ) (units : ℤ) → bytes ≡ piece ++ r1 → length piece ≡ 9 → a.cusip ≡ piece → r1 ≡ side ∷ r2 → Some a.side ≡ side_of_code side
    → r2 ≡ four par ++ r3 → Some a.par ≡ if_par par → r3 ≡ place ++ r4 → place ≡ day_bytes a.settle → r4 ≡ basis ∷ r5 → r5 ≡ signed units ++ r6 → Some a.given ≡ given_of_code basis units → r6 ≡ four fee ++ r7 → Some a.fee ≡ if_fee fee
    → length bytes ≡ 27 → bytes ≡ asked_bytes a
asked_written {bytes} {piece} {r1} {r2} {r3} {place} {r4} {r5} {r6} {side} {basis} a r7 par fee units first nine cusip second is_side third is_par fourth day fifth sixth is_given seventh is_fee long =
    let given = given_found basis units a.given is_given in
    let side_is = side_found side a.side is_side in
    let from_fee : r6 ≡ four a.fee ++ r7 = seventh ∙ ap (λ n. four n ++ r7) (amount_found 0 10_000 fee a.fee is_fee) in
    let from_units : r5 ≡ signed (given_units a.given) ++ (four a.fee ++ r7) = sixth ∙ (λ i. signed (given.1 i) ++ from_fee i) in
    let from_basis : r4 ≡ given_code a.given ∷ (signed (given_units a.given) ++ (four a.fee ++ r7)) = fifth ∙ (λ i. given.0 i ∷ from_units i) in
    let from_day : r3 ≡ day_bytes a.settle ++ (given_code a.given ∷ (signed (given_units a.given) ++ (four a.fee ++ r7))) = fourth ∙ (λ i. day i ++ from_basis i) in
    let from_par : r2 ≡ four a.par ++ (day_bytes a.settle ++ (given_code a.given ∷ (signed (given_units a.given) ++ (four a.fee ++ r7)))) = third ∙ (λ i. four (amount_found 1 1_000_000_000 par a.par is_par i) ++ from_day i) in
    let from_side : r1 ≡ side_code a.side ∷ (four a.par ++ (day_bytes a.settle ++ (given_code a.given ∷ (signed (given_units a.given) ++ (four a.fee ++ r7))))) = second ∙ (λ i. side_is i ∷ from_par i) in
    let all : bytes ≡ a.cusip ++ (side_code a.side ∷ (four a.par ++ (day_bytes a.settle ++ (given_code a.given ∷ (signed (given_units a.given) ++ (four a.fee ++ r7)))))) = first ∙ (λ i. sym cusip i ++ from_side i) in
    whole bytes (asked_bytes a) r7 (all ∙ asked_parts a.cusip (four a.par) (day_bytes a.settle) (signed (given_units a.given)) (four a.fee) r7 (side_code a.side) (given_code a.given))
    (long ∙ sym (asked_size a nine cusip))

-- versions
pub version_size : (key : Key) (number : ℕ) (v : Version) → length (asked_bytes v.terms.asked) ≡ 27 → length (version_bytes key number v) ≡ 91 + length key.desk + length key.reference
version_size key number v asked =
    let tail = asked_bytes v.terms.asked ++ figures_bytes v.figures in
    let behind = four number ++ (act_code v.act ∷ tail) in
    omega (
      arith,
      asked,
      length-append key.desk (text_bytes key.reference ++ behind),
      length-append key.reference behind,
      length-append (four number) (act_code v.act ∷ tail),
      length-append (asked_bytes v.terms.asked) (figures_bytes v.figures),
      length-four number,
      length-figures v.figures,
    )

pub version_written : {bytes r1 r2 r3 r4 piece r5 : List ℕ} {code : ℕ} (key : Key) (v : Version) (desk reference : List ℕ) (number : ℕ) → bytes ≡ text_bytes desk ++ r1 → Some key.desk ≡ result_ok (name_reading is_desk_letter 16 desk)
    → r1 ≡ text_bytes reference ++ r2 → Some key.reference ≡ result_ok (name_reading is_ascii_alphanumeric 20 reference) → r2 ≡ four number ++ r3 → r3 ≡ code ∷ r4 → Some v.act ≡ act_of_code code
    → r4 ≡ piece ++ r5 → length piece ≡ 27 → (length piece ≡ 27 → piece ≡ asked_bytes v.terms.asked) → (length r5 ≡ 57 → r5 ≡ figures_bytes v.figures)
    → length bytes ≡ 91 + length key.desk + length key.reference → bytes ≡ version_bytes key number v
version_written {bytes} {r1} {r2} {r3} {r4} {piece} {r5} {code} key v desk reference number first is_desk second is_reference third fourth is_act fifth size asked figures long =
    let act = act_found code v.act is_act in
    let piece_is = asked size in
    let from_asked : r4 ≡ asked_bytes v.terms.asked ++ r5 = fifth ∙ ap (λ b. b ++ r5) piece_is in
    let from_act : r3 ≡ act_code v.act ∷ (asked_bytes v.terms.asked ++ r5) = fourth ∙ (λ i. act i ∷ from_asked i) in
    let from_number : r2 ≡ four number ++ (act_code v.act ∷ (asked_bytes v.terms.asked ++ r5)) = third ∙ ap (λ b. four number ++ b) from_act in
    let from_reference : r1 ≡ text_bytes key.reference ++ (four number ++ (act_code v.act ∷ (asked_bytes v.terms.asked ++ r5))) = second ∙ (λ i. text_bytes (name_found is_ascii_alphanumeric 20 reference key.reference is_reference i) ++ from_number i) in
    let all : bytes ≡ text_bytes key.desk ++ (text_bytes key.reference ++ (four number ++ (act_code v.act ∷ (asked_bytes v.terms.asked ++ r5)))) = first ∙ (λ i. text_bytes (name_found is_desk_letter 16 desk key.desk is_desk i) ++ from_reference i) in
    let rest : length r5 ≡ 57 =
    omega (
      arith,
      long,
      size,
      ap length all,
      ap length piece_is,
      length-append key.desk (text_bytes key.reference ++ (four number ++ (act_code v.act ∷ (asked_bytes v.terms.asked ++ r5)))),
      length-append key.reference (four number ++ (act_code v.act ∷ (asked_bytes v.terms.asked ++ r5))),
      length-append (four number) (act_code v.act ∷ (asked_bytes v.terms.asked ++ r5)),
      length-append (asked_bytes v.terms.asked) r5,
      length-four number,
    ) in
    all ∙ ap (λ f. text_bytes key.desk ++ (text_bytes key.reference ++ (four number ++ (act_code v.act ∷ (asked_bytes v.terms.asked ++ f))))) (figures rest)
