use Rattle.muni_journal_record.proofs.PieceLaws.{money_written}
use Rattle.muni_journal_record.proofs.version_body.money_of.Goals as goal

pub returns-clause-bytes : goal.returns-clause-bytes
returns-clause-bytes c long =
    money_written c.in_ok-total.field-0-1.now c.in_ok-principal.principal c.in_ok-accrued.accrued c.in_ok-commission.commission c.in_ok-total.total
    c.in_ok-principal.ensures.parts c.in_ok-principal-2.ensures c.in_ok-accrued.ensures.parts c.in_ok-accrued-2.ensures c.in_ok-commission.ensures.parts c.in_ok-commission-2.ensures
    c.in_ok-total.ensures.parts c.in_ok-total-2.ensures long
