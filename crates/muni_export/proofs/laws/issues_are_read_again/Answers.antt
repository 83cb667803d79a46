use Rattle.muni_export.proofs.IssueLemmas.{issue-row-again}
use Rattle.muni_export.proofs.laws.issues_are_read_again.Goals as goal

pub returns : goal.returns
returns c =
    let row = c.row-row.ensures.value in
    issue-row-again c.args.number c.args.issue.now
    c.requires
    (rw row at c.nine_characters.ensures)
    (rw (c.as_slice-name.ensures.value, row) at c.as_slice-name.ensures.fits)
    (rw (c.units-coupon.ensures.value, row) at c.units-coupon.ensures.range.1)
    (rw (c.as_slice-calls.ensures.value, row) at c.as_slice-calls.ensures.fits)
    c.row-row.ensures.passed
