use Rattle.std.proofs.Common.{◌≡◌, ◌∙◌, Some, ap, rules}
use Rattle.std.specs.Int.{w32, w64, cast_signed, cast_unsigned}
use Rattle.muni_dec.specs.Values.{if_price, if_printed_yield}
use Rattle.muni_msg.specs.declared.figures.Figures.{Figures}
use Rattle.muni_journal_record.proofs.PieceLaws.{figures_written}
use Rattle.muni_journal_record.proofs.version_body.figures_of.Goals as goal

pub returns-clause-bytes : goal.returns-clause-bytes
returns-clause-bytes c long =
    let days : cast_signed w32 (cast_unsigned w32 c.in_ok-days.days) ≡ c.in_ok-days.days = search rules in
    let money = c.in_ok-money.money in
    let figures : Figures = record {
      price = c.in_ok-price-2.price;
      yld = c.in_ok-yld-2.yld;
      redemption = c.in_ok-redemption-2.redemption;
      at = c.in_ok-at-2.at;
      label = c.in_ok-label-2.label;
      days = cast_signed w32 (cast_unsigned w32 c.in_ok-days.days);
      principal = money.principal;
      accrued = money.accrued;
      commission = money.commission;
      total = money.total;
    } in
    let same : cast_signed w64 (cast_unsigned w64 c.from.result) ≡ c.in_ok-yld.yld = search rules in
    let yld : Some c.in_ok-yld-2.yld ≡ if_printed_yield c.in_ok-yld.yld = c.in_ok-yld-2.ensures ∙ ap if_printed_yield same in
    let at : Some c.in_ok-at-2.at ≡ if_price c.in_ok-at.at = c.in_ok-at-2.ensures ∙ ap if_price c.from-2.ensures in
    figures_written figures c.in_ok-price.price c.in_ok-at.at c.in_ok-yld.yld c.in_ok-price.ensures.parts c.in_ok-price-2.ensures c.in_ok-yld.ensures.parts yld c.in_ok-redemption.ensures.parts c.in_ok-redemption-2.ensures.bytes
    c.in_ok-at.ensures.parts at c.in_ok-label.ensures.parts c.in_ok-label-2.ensures c.in_ok-days.ensures.parts days c.in_ok-money.ensures.bytes long
