use Rattle.std.proofs.Common.{◌≡◌, ◌∙◌, Some, ap, rules}
use Rattle.std.specs.Int.{w64, cast_signed, cast_unsigned}
use Rattle.muni_dec.specs.Values.{if_par, if_fee}
use Rattle.muni_msg.specs.Codes.{given_of_code}
use Rattle.muni_msg.specs.declared.asked.Asked.{Asked}
use Rattle.muni_journal_record.proofs.PieceLaws.{asked_size, asked_written}
use Rattle.muni_journal_record.proofs.version_body.asked_of.Goals as goal

pub returns-clause-size : goal.returns-clause-size
returns-clause-size c =
    let asked : Asked = record { cusip = c.cusip_of.result; par = c.in_ok-par-2.par; settle = c.in_ok-settle-2.settle; given = c.in_ok-given.given; side = c.in_ok-side-2.side; fee = c.in_ok-fee-2.fee } in
    asked_size asked c.in_ok-cusip.ensures.long c.cusip_of.ensures

pub returns-clause-bytes : goal.returns-clause-bytes
returns-clause-bytes c long =
    let asked : Asked = record { cusip = c.cusip_of.result; par = c.in_ok-par-2.par; settle = c.in_ok-settle-2.settle; given = c.in_ok-given.given; side = c.in_ok-side-2.side; fee = c.in_ok-fee-2.fee } in
    let par : Some c.in_ok-par-2.par ≡ if_par c.in_ok-par.par = c.in_ok-par-2.ensures ∙ ap if_par c.from.ensures in
    let same : cast_signed w64 (cast_unsigned w64 c.from-2.result) ≡ c.in_ok-units.units = search rules in
    let given : Some c.in_ok-given.given ≡ given_of_code c.in_ok-basis.basis c.in_ok-units.units = c.in_ok-given.ensures ∙ ap (given_of_code c.in_ok-basis.basis) same in
    let fee : Some c.in_ok-fee-2.fee ≡ if_fee c.in_ok-fee.fee = c.in_ok-fee-2.ensures ∙ ap if_fee c.from-3.ensures in
    asked_written asked c.in_ok-fee.field-0-1.now c.in_ok-par.par c.in_ok-fee.fee c.in_ok-units.units c.in_ok-cusip.ensures.parts c.in_ok-cusip.ensures.long c.cusip_of.ensures c.in_ok-side.ensures.parts c.in_ok-side-2.ensures c.in_ok-par.ensures.parts par
    c.in_ok-settle.ensures.parts c.in_ok-settle-2.ensures.bytes c.in_ok-basis.ensures.parts c.in_ok-units.ensures.parts given c.in_ok-fee.ensures.parts fee long
