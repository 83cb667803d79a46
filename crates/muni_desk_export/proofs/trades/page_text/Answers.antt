use Rattle.std.proofs.Common.{◌∙◌, ◌≡◌}
use Rattle.muni_desk_export.specs.Trades.{rows_of, trade_texts}
use Rattle.muni_desk_export.specs.declared.trades.Style.TheVariants as style
use Rattle.muni_desk_export.proofs.TextLemmas.{any-rows, any-lines}
use Rattle.muni_desk_export.proofs.ToldLemmas.{told-all, told-as}
use Rattle.muni_desk_export.proofs.trades.page_text.Goals as goal

pub returns-in-Rows-clause-text : goal.returns-in-Rows-clause-text
returns-in-Rows-clause-text g c =
    rw c.in-Rows.is (told-as c.rows_of.result (λ text. text.items) (g.K.Keeper.tables c.args.keeper.now)
    (λ t. rows_of t c.args.desk.now c.args.page.now) (λ t. trade_texts t style.Rows c.args.is_first c.args.desk.now c.args.page.now)
    (λ t. any-rows t c.args.is_first c.args.desk.now c.args.page.now) c.rows_of.ensures.text)

pub returns-in_ok-lines_of-in-Line-clause-text : goal.returns-in_ok-lines_of-in-Line-clause-text
returns-in_ok-lines_of-in-Line-clause-text g c =
    rw c.in-Line.is (told-all (g.K.Keeper.tables c.args.keeper.now) (λ t. c.in_ok-lines_of-in-Line.field-0.items ≡ trade_texts t style.Line c.args.is_first c.args.desk.now c.args.page.now)
    (λ t. c.in_ok-lines_of-in-Line.ensures ∙ any-lines t c.args.is_first c.args.desk.now c.args.page.now))
