-- Which texts are read as calls.
use Rattle.std.proofs.Common.{◌≡◌, ℕ, ◌+◌, ◌%◌, true, false, List, ◌∷◌, ◌++◌, Some, None, length, take, drop, get_or, refl, sym, ap, ◌∙◌, subst, arith}
use Rattle.std.specs.Prelude.{position, ◌==◌, nat_lt, if◌then◌else◌, codes}
use Rattle.std.specs.List.{position_or_len}
use Rattle.std.specs.Result.{result_ok}
use Rattle.std.proofs.lemmas.Bool.Decides.{nat_tests, Decides-eqb}
use Rattle.std.proofs.lemmas.List.{append_assoc, drop_more, take-append-drop}
use Rattle.std.proofs.lemmas.List.Quantifiers.{position-Some}
use Rattle.std.proofs.lemmas.Option.{same_Some}
use Rattle.muni_dec.specs.Values.{price_reading}
use Rattle.muni_rule.specs.Civil.{Civil}
use Rattle.muni_days.specs.Day.{civil, day_reading, day_text}
use Rattle.muni_days.proofs.ReadingLemmas.{read-text, text-read}
use Rattle.muni_terms.specs.declared.row.Call.{Call}
use Rattle.muni_rule.specs.declared.call_term.CallTerm.{CallTerm}
use Rattle.muni_msg.specs.Fields.{day_in, split_mark, call_price_reading, call_reading, call_reading_at}
use Rattle.muni_desk.specs.Words.{◌>>=◌}
use Rattle.muni_desk.specs.WordLaws.{mark, IsCall}
use Rattle.muni_desk.proofs.OptionalLemmas.{bind-some, some-bind, map-some, ok-some}
use Rattle.muni_desk.proofs.MarkLemmas.{marked-read, splits}

-- a digit is no colon
digit-no_colon : (n : ℕ) → ((48 + n % 10) == 58) ≡ false
digit-no_colon n = grind (arith, nat_tests)

-- so the first colon comes after the date
colon-place : (date : Civil) (price : List ℕ) → position (λ b. b == 58) (day_text date ++ 58 ∷ price) ≡ Some 10
colon-place date price =
    let text = day_text date ++ 58 ∷ price in
    let place : position_or_len (λ b. b == 58) text ≡ 10 = simp digit-no_colon in
    let size : length text ≡ 11 + length price = omega arith in
    let inside : nat_lt 10 (length text) ≡ true = grind (arith, nat_tests) in
    ap (λ n. if nat_lt n (length text) then Some n else None) place ∙ ap (λ b. if b then Some 10 else None) inside

call-at : (date : Civil) (price : List ℕ) → call_reading (day_text date ++ 58 ∷ price) ≡ call_reading_at (day_text date ++ 58 ∷ price) 10
call-at date price = ap (λ place. place >>= λ colon. call_reading_at (day_text date ++ 58 ∷ price) colon) (colon-place date price)

pub call-read : (text : List ℕ) (call : Call) → IsCall text call → call_reading text ≡ Some call
call-read text call said =
    let date = read-text said.date call.date said.is_date in
    let marked = said.price ++ mark call.term in
    let joined : text ≡ day_text (civil call.date) ++ 58 ∷ marked = said.joined ∙ append_assoc said.date (codes ":") marked ∙ ap (λ it. it ++ 58 ∷ marked) date in
    ap call_reading joined ∙ call-at (civil call.date) marked
    ∙ some-bind _ (day_in (day_text (civil call.date))) call.date call (ap result_ok (text-read (day_text (civil call.date)) call.date refl))
    (some-bind _ (call_price_reading marked) (call.price, call.term) call (marked-read said.price call.term call.price said.is_price) refl)

pub read-call : (text : List ℕ) (call : Call) → call_reading text ≡ Some call → IsCall text call
read-call text call is =
    let colon = bind-some (λ colon. call_reading_at text colon) (position (λ b. b == 58) text) call is in
    let date = bind-some _ (day_in (take colon.0 text)) call colon.2 in
    let rest = drop (colon.0 + 1) text in
    let found = bind-some _ (call_price_reading rest) call date.2 in
    let price = map-some (λ price. (price, (split_mark rest).1)) (result_ok (price_reading (split_mark rest).0)) found.0 found.1 in
    let place = position-Some (λ b. b == 58) text colon.0 0 colon.1 in
    let byte : get_or text colon.0 0 ≡ 58 = (Decides-eqb (get_or text colon.0 0) 58).0 place.1 in
    let joined : text ≡ take colon.0 text ++ 58 ∷ drop (colon.0 + 1) text =
    sym (take-append-drop colon.0 text) ∙ ap (λ rest. take colon.0 text ++ rest) (drop_more text colon.0 0 place.0 ∙ ap (λ b. b ∷ drop (colon.0 + 1) text) byte) in
    let read : Call = record { date = date.0; price = price.0; term = (split_mark rest).1 } in
    let own : read ≡ call = ap (λ (it : ℕ × CallTerm). record { date = date.0; price = it.0; term = it.1 }) price.2 ∙ same_Some (record { date = date.0; price = found.0.0; term = found.0.1 }) call found.2 in
    subst (IsCall text) own
    (record {
      date = take colon.0 text;
      price = (split_mark rest).0;
      joined = joined ∙ sym (append_assoc (take colon.0 text) (codes ":") rest) ∙ ap (λ l. take colon.0 text ++ codes ":" ++ l) (splits rest);
      is_date = ok-some (day_reading (take colon.0 text)) date.0 date.1;
      is_price = ok-some (price_reading (split_mark rest).0) price.0 price.1;
    })
