use Rattle.muni_export.proofs.VersionLemmas.{version-again}
use Rattle.muni_export.proofs.laws.versions_are_read_again.Goals as goal

pub returns : goal.returns
returns c =
    let version = c.args.version.now in
    let can = c.requires in
    version-again version.act c.args.key.now c.args.number version.terms c.args.issue_number
    c.names_are_names.ensures.desk
    c.names_are_names.ensures.reference
    can.number_fits
    can.issue_number_fits
    (record {
      nine = c.nine_characters.ensures;
      characters = can.cusip_reads;
      par = c.par_is_read_again.ensures;
      given = c.given_is_read_again.ensures;
      fee = c.fee_is_read_again.ensures;
    })
