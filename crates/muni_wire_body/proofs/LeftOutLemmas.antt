-- A body asks for the same without a member that may be left out.
use Rattle.std.proofs.Common.{◌≡◌, ◌≢◌, ◌⊎◌, inl, inr, ℕ, List, bytes_eq, codes, option_map, Some, true, false, refl, sym, ap, subst, arith, ◌∙◌}
use Rattle.std.proofs.lemmas.Slice.Eq.{bytes_eq-Decides}
use Rattle.muni_dec.specs.Decimal.{reading}
use Rattle.muni_dec.specs.Values.{fee_reading, amount_reading}
use Rattle.serde_json.specs.Data.{Data}
use Rattle.serde_json.specs.Find.{get}
use Rattle.muni_msg.specs.Fields.{◌>>=◌, basis_field, fee_field}
use Rattle.muni_msg.specs.declared.asked.Side.TheVariants.{Buy}
use Rattle.muni_wire_body.specs.Body.{request_of, request_in, command_in, key_in, number_in, asked_in, shown_in, fee_in, terms_in, calendar_in, basis_in, issue_with, issue_in}
use Rattle.muni_wire_body.specs.Members.{text_or_empty}
use Rattle.muni_wire_body.specs.LeftOut.{HasOneMore, NamesOneMore}
use Rattle.muni_wire_body.proofs.BodyLemmas.{request-of-book}
use Rattle.muni_wire_body.specs.declared.form.Form.{Form}
use Rattle.muni_wire_body.specs.declared.look.Request.TheVariants.{Book}
use Rattle.muni_wire_body.specs.declared.form.Form.TheVariants as form

-- two values have the same day count basis, commission and other members
record AreAlike (part whole : Data) : Type 0 where
  others : (name : List ℕ) → bytes_eq name (codes "days") ≡ false → bytes_eq name (codes "fee") ≡ false → get name part ≡ get name whole
  basis : basis_in part ≡ basis_in whole
  fee : fee_in part ≡ fee_in whole

-- two texts that test differently are not the same
unlike : (a b : List ℕ) → bytes_eq a b ≡ false → a ≢ b
unlike a b test same =
    let alike : bytes_eq b b ≡ true = grind (arith, bytes_eq-Decides b b) in
    let tested : bytes_eq b b ≡ false = subst (λ text. bytes_eq text b ≡ false) same test in
    cc

no-fee : fee_field (codes "0") ≡ Some 0
unfolding fee_reading amount_reading reading
no-fee = refl

days-alike : (whole part : Data) → HasOneMore (codes "days") (codes "30/360") whole part → AreAlike part whole
unfolding basis_in fee_in
days-alike whole part more = record {
  others = λ name not_days not_fee. more.others name (unlike name (codes "days") not_days);
  basis = rw (more.left_out, more.there) refl;
  fee = ap (λ found. text_or_empty found >>= fee_field) (more.others (codes "fee") (unlike (codes "fee") (codes "days") refl));
}

fee-alike : (whole part : Data) → HasOneMore (codes "fee") (codes "0") whole part → AreAlike part whole
unfolding basis_in fee_in
fee-alike whole part more = record {
  others = λ name not_days not_fee. more.others name (unlike name (codes "fee") not_fee);
  basis = ap (λ found. text_or_empty found >>= basis_field) (more.others (codes "days") (unlike (codes "days") (codes "fee") refl));
  fee = rw (more.left_out, more.there) (sym no-fee);
}

same-key : (part whole : Data) → AreAlike part whole → key_in part ≡ key_in whole
same-key part whole alike =
    rw (alike.others (codes "desk") refl refl, alike.others (codes "reference") refl refl) refl

same-number : (part whole : Data) → AreAlike part whole → number_in part ≡ number_in whole
same-number part whole alike = rw (alike.others (codes "number") refl refl) refl

same-quote : (part whole : Data) → AreAlike part whole → asked_in Buy 0 part ≡ asked_in Buy 0 whole
unfolding asked_in
same-quote part whole alike =
    rw (
      alike.others (codes "cusip") refl refl,
      alike.others (codes "par") refl refl,
      alike.others (codes "settle") refl refl,
      alike.others (codes "basis") refl refl,
      alike.others (codes "value") refl refl,
    ) refl

same-shown : (part whole : Data) → AreAlike part whole → shown_in part ≡ shown_in whole
unfolding shown_in
same-shown part whole alike = rw (alike.others (codes "each") refl refl, alike.others (codes "risk") refl refl) refl

same-terms : (part whole : Data) → AreAlike part whole → terms_in part ≡ terms_in whole
unfolding terms_in asked_in
same-terms part whole alike =
    rw (
      alike.fee,
      alike.others (codes "side") refl refl,
      alike.others (codes "cusip") refl refl,
      alike.others (codes "par") refl refl,
      alike.others (codes "settle") refl refl,
      alike.others (codes "basis") refl refl,
      alike.others (codes "value") refl refl,
    ) refl

same-issue : (part whole : Data) → AreAlike part whole → issue_in part ≡ issue_in whole
unfolding issue_with calendar_in
same-issue part whole alike =
    rw (
      alike.basis,
      alike.others (codes "kind") refl refl,
      alike.others (codes "first") refl refl,
      alike.others (codes "dated") refl refl,
      alike.others (codes "maturity") refl refl,
      alike.others (codes "cusip") refl refl,
      alike.others (codes "name") refl refl,
      alike.others (codes "coupon") refl refl,
      alike.others (codes "calls") refl refl,
    ) refl

same-command : (form : Form) (part whole : Data) → AreAlike part whole → command_in form part ≡ command_in form whole
unfolding command_in
same-command form.Issue part whole alike = rw (same-issue part whole alike) refl
same-command form.Amendment part whole alike = rw (same-number part whole alike, same-issue part whole alike) refl
same-command form.Trade part whole alike = rw (same-key part whole alike, same-terms part whole alike, alike.others (codes "issue") refl refl) refl
same-command form.Correction part whole alike =
    rw (same-key part whole alike, same-number part whole alike, same-terms part whole alike, alike.others (codes "issue") refl refl) refl
same-command form.Cancellation part whole alike = rw (same-key part whole alike, same-number part whole alike) refl
same-command form.Quote part whole alike = rw (same-quote part whole alike, same-shown part whole alike) refl
same-command form.Check part whole alike = refl

same-request : (posted : Form) (part whole : Data) → posted ≢ form.Check → AreAlike part whole → request_in posted part ≡ request_in posted whole
same-request posted part whole other alike =
    request-of-book posted part other ∙ ap (option_map (λ command. Book command)) (same-command posted part whole alike) ∙ sym (request-of-book posted whole other)

of-bodies : (name text : List ℕ) (posted : Form) (whole part : List ℕ) (more : NamesOneMore name text whole part) → posted ≢ form.Check
    → AreAlike more.part_data more.whole_data → request_of posted part ≡ request_of posted whole
of-bodies name text posted whole part more other alike =
    ap (λ value. value >>= request_in posted) more.part_is ∙ same-request posted more.part_data more.whole_data other alike
    ∙ sym (ap (λ value. value >>= request_in posted) more.whole_is)

pub left-out : (posted : Form) (whole part : List ℕ) → posted ≢ form.Check
    → NamesOneMore (codes "days") (codes "30/360") whole part ⊎ NamesOneMore (codes "fee") (codes "0") whole part
    → request_of posted part ≡ request_of posted whole
left-out posted whole part other (inl more) = of-bodies (codes "days") (codes "30/360") posted whole part more other (days-alike more.whole_data more.part_data more.more)
left-out posted whole part other (inr more) = of-bodies (codes "fee") (codes "0") posted whole part more other (fee-alike more.whole_data more.part_data more.more)
