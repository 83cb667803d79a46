use Rattle.std.proofs.Common.{◌≡◌, ◌++◌, [], ◌∷◌, List, ℕ, ◌∙◌, ap, append_assoc, rules}
use Rattle.muni_msg.specs.Codes.{label_code}
use Rattle.muni_journal_record.specs.Words.{signed}
use Rattle.muni_journal_record.specs.VersionBody.{prices_bytes, money_bytes}
use Rattle.muni_journal_record.proofs.version_body.push_figures.Goals as goal

joined : (old prices days money : List ℕ) (code : ℕ) → (((old ++ prices) ++ code ∷ []) ++ days) ++ money ≡ old ++ (prices ++ (code ∷ (days ++ money)))
joined old prices days money code = simp append_assoc

pub returns-clause-items : goal.returns-clause-items
returns-clause-items c =
    let f = c.args.figures.now in
    let old = c.args.body.now.items in
    let code = c.label_code.ensures in
    let byte : c.push_byte.new.body.items ≡ (old ++ prices_bytes f) ++ label_code f.label ∷ [] = c.push_byte.ensures.items ∙ (λ i. c.push_prices.ensures.items i ++ code i ∷ []) in
    let days : c.push_signed.new.body.items ≡ c.push_byte.new.body.items ++ signed f.days = search rules in
    c.push_money.ensures.items
    ∙ ap (λ (b : List ℕ). b ++ money_bytes f) (days ∙ ap (λ (b : List ℕ). b ++ signed f.days) byte)
    ∙ joined old (prices_bytes f) (signed f.days) (money_bytes f) (label_code f.label)
