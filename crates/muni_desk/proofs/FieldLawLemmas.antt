-- Texts with blanks between, and what they are cut into.
use Rattle.std.proofs.Common.{◌≡◌, ◌≢◌, ◌⊎◌, inl, inr, ℕ, Bool, true, false, List, [], ◌∷◌, length, Some, Ok, refl, sym, ap, ◌∙◌, arith}
use Rattle.std.specs.Prelude.{◌==◌, nat_le, if◌then◌else◌}
use Rattle.std.specs.List.{AllByRecursion}
use Rattle.std.specs.Result.{result_ok}
use Rattle.std.proofs.lemmas.Bool.Decides.{nat_tests, Decides-eqb}
use Rattle.std.proofs.lemmas.Option.{same_Some}
use Rattle.muni_dec.specs.Values.{fee_reading}
use Rattle.muni_terms.specs.declared.row.Call.{Call}
use Rattle.muni_msg.specs.Calls.{in_front, cut_at_blanks, few_calls, calls_field}
use Rattle.muni_msg.specs.Fields.{fee_field}
use Rattle.muni_msg.specs.IssueFields.{calls_reading}
use Rattle.muni_desk.specs.FieldLaws.{HasNoBlank, with_blanks, SaysCallsInField, CallFieldsAreRead, FeeFieldsAreRead}
use Rattle.muni_desk.proofs.CommandLawLemmas.{read-calls, calls-read}
use Rattle.muni_desk.proofs.OptionalLemmas.{if-some, when-true, ok-some}

-- ---- a text cut at its blanks
-- there is a first piece
abbrev HasFirst : List (List ℕ) → Type 0
HasFirst [] = ⊥
HasFirst (text ∷ texts) = Unit

abbrev cut-step : Bool → ℕ → List (List ℕ) → List (List ℕ)
cut-step b byte cut = if b then [] ∷ cut else in_front byte cut

first-by : (b : Bool) (byte : ℕ) (cut : List (List ℕ)) → HasFirst (cut-step b byte cut)
first-by true byte cut = tt
first-by false byte [] = tt
first-by false byte (text ∷ texts) = tt

has-first : (text : List ℕ) → HasFirst (cut_at_blanks text)
unfolding cut_at_blanks
has-first [] = tt
has-first (byte ∷ text) = first-by (byte == 32) byte (cut_at_blanks text)

joined-by : (b : Bool) (byte : ℕ) (cut : List (List ℕ)) (text : List ℕ) → (byte == 32) ≡ b → HasFirst cut → with_blanks cut ≡ text → with_blanks (cut-step b byte cut) ≡ byte ∷ text
joined-by b byte [] text is first joined = absurd first
joined-by true byte (piece ∷ pieces) text is first joined =
    let blank : byte ≡ 32 = (Decides-eqb byte 32).0 is in
    λ i. sym blank i ∷ joined i
joined-by false byte (piece ∷ []) text is first joined = ap (λ l. byte ∷ l) joined
joined-by false byte (piece ∷ next ∷ pieces) text is first joined = ap (λ l. byte ∷ l) joined

cut-joined : (text : List ℕ) → with_blanks (cut_at_blanks text) ≡ text
unfolding cut_at_blanks
cut-joined [] = refl
cut-joined (byte ∷ text) = joined-by (byte == 32) byte (cut_at_blanks text) text refl (has-first text) (cut-joined text)

no-blank : (byte : ℕ) → (byte == 32) ≡ false → byte ≢ 32
no-blank byte apart is = absurd (cc (apart, (Decides-eqb byte 32).1 is))

apart-by : (b : Bool) (byte : ℕ) (cut : List (List ℕ)) → (byte == 32) ≡ b → AllByRecursion HasNoBlank cut → AllByRecursion HasNoBlank (cut-step b byte cut)
apart-by true byte cut is are = (tt, are)
apart-by false byte [] is are = ((no-blank byte is, tt), tt)
apart-by false byte (text ∷ texts) is are = ((no-blank byte is, are.0), are.1)

cut-apart : (text : List ℕ) → AllByRecursion HasNoBlank (cut_at_blanks text)
unfolding cut_at_blanks
cut-apart [] = (tt, tt)
cut-apart (byte ∷ text) = apart-by (byte == 32) byte (cut_at_blanks text) refl (cut-apart text)

-- ---- pieces that are joined are cut again
in-front : (byte : ℕ) (text : List ℕ) (texts : List (List ℕ)) → with_blanks ((byte ∷ text) ∷ texts) ≡ byte ∷ with_blanks (text ∷ texts)
in-front byte text [] = refl
in-front byte text (next ∷ texts) = refl

not-blank : (byte : ℕ) → byte ≢ 32 → (byte == 32) ≡ false
not-blank byte apart = grind (arith, nat_tests)

cut-again : (text : List ℕ) (texts : List (List ℕ)) → HasNoBlank text → AllByRecursion HasNoBlank texts → cut_at_blanks (with_blanks (text ∷ texts)) ≡ text ∷ texts
unfolding cut_at_blanks
cut-again [] [] none are = refl
cut-again [] (next ∷ texts) none are = ap (λ l. [] ∷ l) (cut-again next texts are.0 are.1)
cut-again (byte ∷ text) texts none are =
    ap cut_at_blanks (in-front byte text texts)
    ∙ ap (λ b. cut-step b byte (cut_at_blanks (with_blanks (text ∷ texts)))) (not-blank byte none.0)
    ∙ ap (in_front byte) (cut-again text texts none.1 are)

cut-all : (texts : List (List ℕ)) → texts ≢ [] → AllByRecursion HasNoBlank texts → cut_at_blanks (with_blanks texts) ≡ texts
cut-all [] some are = absurd (some refl)
cut-all (text ∷ texts) some are = cut-again text texts are.0 are.1

not-empty : (texts : List (List ℕ)) → HasFirst texts → texts ≢ []
not-empty [] first is = absurd first
not-empty (text ∷ texts) first is = absurd (cc is)

-- ---- the field of calls
few-read : (text : List ℕ) (calls : List Call) → few_calls (cut_at_blanks text) ≡ Some calls → SaysCallsInField text calls
few-read text calls is =
    let texts = cut_at_blanks text in
    let parts = if-some (nat_le (length texts) 40) (calls_reading texts) calls is in
    let few : nat_le (length texts) 40 ≡ true = parts.0 in
    record {
      texts = texts;
      some = not-empty texts (has-first text);
      at_most = grind (arith, nat_tests);
      apart = cut-apart text;
      joined = sym (cut-joined text);
      are_read = read-calls texts calls parts.1;
    }

read-few : (text : List ℕ) (calls : List Call) → SaysCallsInField text calls → few_calls (cut_at_blanks text) ≡ Some calls
read-few text calls said =
    let same : cut_at_blanks text ≡ said.texts = ap cut_at_blanks said.joined ∙ cut-all said.texts said.some said.apart in
    let at_most = said.at_most in
    let few : nat_le (length said.texts) 40 ≡ true = grind (arith, nat_tests) in
    ap few_calls same ∙ when-true (nat_le (length said.texts) 40) (calls_reading said.texts) calls few (calls-read said.texts calls said.are_read)

some-bytes : (byte : ℕ) (text : List ℕ) → (byte ∷ text) ≢ []
some-bytes byte text is = absurd (cc is)

no-length : (byte : ℕ) (text : List ℕ) → (length (byte ∷ text) == 0) ≡ false
no-length byte text = grind (arith, nat_tests)

calls-of : (byte : ℕ) (text : List ℕ) → calls_field (byte ∷ text) ≡ few_calls (cut_at_blanks (byte ∷ text))
unfolding calls_field
calls-of byte text = ap (λ b. if b then Some [] else few_calls (cut_at_blanks (byte ∷ text))) (no-length byte text)

said-calls : (text : List ℕ) (calls : List Call) → (((text ≡ []) × (calls ≡ [])) ⊎ ((text ≢ []) × SaysCallsInField text calls)) → calls_field text ≡ Some calls
unfolding calls_field
said-calls [] calls (inl none) = ap Some (sym none.1)
said-calls [] calls (inr some) = absurd (some.0 refl)
said-calls (byte ∷ text) calls (inl none) = absurd (some-bytes byte text none.0)
said-calls (byte ∷ text) calls (inr some) = calls-of byte text ∙ read-few (byte ∷ text) calls some.1

pub call-fields : CallFieldsAreRead
unfolding calls_field
call-fields [] calls = (λ is. inl (refl, sym (same_Some [] calls is)), said-calls [] calls)
call-fields (byte ∷ text) calls = (λ is. inr (some-bytes byte text, few-read (byte ∷ text) calls (sym (calls-of byte text) ∙ is)), said-calls (byte ∷ text) calls)

-- ---- the field of the commission
fee-of : (byte : ℕ) (text : List ℕ) → fee_field (byte ∷ text) ≡ result_ok (fee_reading (byte ∷ text))
fee-of byte text = ap (λ b. if b then Some 0 else result_ok (fee_reading (byte ∷ text))) (no-length byte text)

said-fee : (text : List ℕ) (fee : ℕ) → (((text ≡ []) × (fee ≡ 0)) ⊎ ((text ≢ []) × (fee_reading text ≡ Ok fee))) → fee_field text ≡ Some fee
said-fee [] fee (inl none) = ap Some (sym none.1)
said-fee [] fee (inr some) = absurd (some.0 refl)
said-fee (byte ∷ text) fee (inl none) = absurd (some-bytes byte text none.0)
said-fee (byte ∷ text) fee (inr some) = fee-of byte text ∙ ap result_ok some.1

pub fee-fields : FeeFieldsAreRead
fee-fields [] fee = (λ is. inl (refl, sym (same_Some 0 fee is)), said-fee [] fee)
fee-fields (byte ∷ text) fee = (λ is. inr (some-bytes byte text, ok-some (fee_reading (byte ∷ text)) fee (sym (fee-of byte text) ∙ is)), said-fee (byte ∷ text) fee)
