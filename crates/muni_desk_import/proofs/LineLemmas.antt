-- The lines of a report have right figures.
use Rattle.std.proofs.Common.{◌≡◌, ℕ, ◌+◌, List, [], ◌∷◌, ◌++◌, Ok, Err, refl, ap, ◌∙◌}
use Rattle.std.specs.Prelude.{All, codes, decimal}
use Rattle.std.proofs.lemmas.List.{append_assoc}
use Rattle.std.proofs.lemmas.List.Elements.{All-head, All-tail}
use Rattle.muni_dec.specs.Decimal.{decimal_text, signed_text}
use Rattle.muni_days.specs.Day.{civil, day_text}
use Rattle.muni_msg.specs.declared.command.Key.{Key}
use Rattle.muni_msg.specs.declared.command.Reply.{Reply}
use Rattle.muni_msg.specs.declared.command.Reply.TheVariants.{Added, Amended, Quoted, Listed, Confirmed, Refused}
use Rattle.muni_msg.specs.declared.figures.Figures.{Figures}
use Rattle.muni_keep.specs.Tables.{Tables}
use Rattle.muni_import.specs.Line.{behind_commas}
use Rattle.muni_import.specs.Report.{Said, price_fields, total_fields, confirmed_fields, row_line}
use Rattle.muni_answer.specs.RightFigures.{AreRightFigures}
use Rattle.muni_book.specs.RightReplies.{IsRightReply}
use Rattle.muni_book.specs.RunLaws.{ConfirmedFiguresAreRight}
use Rattle.muni_desk_import.specs.Import.{report}
use Rattle.muni_desk_import.specs.Laws.{commands_of, replies_of, ReportsAreRight}
use Rattle.muni_desk_import.specs.RightLines.{IsLineOf, HasLinesOf}
use Rattle.muni_desk_import.proofs.RunLemmas.{imports-run}

-- ---- the fields of a confirmation
commas-append : (fields others : List (List ℕ)) → behind_commas fields ++ behind_commas others ≡ behind_commas (fields ++ others)
commas-append [] others = refl
commas-append (field ∷ fields) others =
    ap (λ (text : List ℕ). 44 ∷ text) (append_assoc field (behind_commas fields) (behind_commas others) ∙ ap (λ text. field ++ text) (commas-append fields others))

fields-are : (key : Key) (number : ℕ) (figures : Figures) → confirmed_fields key number figures
    ≡ behind_commas (codes "confirmed" ∷ key.reference ∷ decimal number ∷ decimal_text 3 figures.price ∷ signed_text 3 figures.yld ∷ day_text (civil figures.redemption) ∷ decimal_text 2 figures.total ∷ [])
unfolding confirmed_fields price_fields total_fields
fields-are key number figures =
    let which = codes "confirmed" ∷ key.reference ∷ decimal number ∷ [] in
    let price = decimal_text 3 figures.price ∷ signed_text 3 figures.yld ∷ [] in
    let total = day_text (civil figures.redemption) ∷ decimal_text 2 figures.total ∷ [] in
    ap (λ text. text ++ behind_commas total) (commas-append which price) ∙ commas-append (which ++ price) total

-- ---- lines
line-of : (t : Tables) (place : ℕ) (reply : Reply) → IsRightReply AreRightFigures t reply → IsLineOf t place (Ok reply) (row_line place (Ok reply))
line-of t place (Added cusip) right = refl
line-of t place (Amended cusip number) right = refl
line-of t place (Quoted issue asked figures shown) right = refl
line-of t place (Listed lines) right = refl
line-of t place (Confirmed issue key number version) right =
    record { right = right; printed = ap (λ fields. decimal place ++ fields ++ 10 ∷ []) (fields-are key number version.figures) }
line-of t place (Refused why) right = refl

lines-of : (t : Tables) (place : ℕ) (said : List Said) → All (IsRightReply AreRightFigures t) (replies_of said) → HasLinesOf t place said (report place said)
lines-of t place [] all = refl
lines-of t place (Ok reply ∷ more) all =
    (row_line place (Ok reply), report (place + 1) more, refl, line-of t place reply (All-head (IsRightReply AreRightFigures t) reply (replies_of more) all), lines-of t (place + 1) more (All-tail (IsRightReply AreRightFigures t) reply (replies_of more) all))
lines-of t place (Err fault ∷ more) all = (row_line place (Err fault), report (place + 1) more, refl, refl, lines-of t (place + 1) more all)

pub reports-right : ConfirmedFiguresAreRight → ReportsAreRight
reports-right right limit ends old new rows said few sound is =
    lines-of new 1 said (right.runs limit ends few old new (commands_of rows) (replies_of said) sound (imports-run limit ends old new rows said is))
