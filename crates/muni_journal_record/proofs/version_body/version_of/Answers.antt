use Rattle.std.proofs.Common.{◌≡◌, ◌∙◌, Some, ap}
use Rattle.std.specs.Result.{result_ok}
use Rattle.std.specs.Char.{is_ascii_alphanumeric}
use Rattle.muni_msg.specs.Names.{is_desk_letter}
use Rattle.muni_msg.specs.NameReading.{name_reading}
use Rattle.muni_msg.specs.declared.command.Key.{Key}
use Rattle.muni_msg.specs.declared.version.Version.{Version}
use Rattle.muni_journal_record.proofs.PieceLaws.{version_size, version_written}
use Rattle.muni_journal_record.proofs.version_body.version_of.Goals as goal

pub returns-clause-size : goal.returns-clause-size
returns-clause-size c =
    let key : Key = record { desk = c.in_ok-desk-2.desk; reference = c.in_ok-reference-2.reference } in
    let version : Version = record { act = c.in_ok-act-2.act; terms = record { asked = c.in_ok-asked-2.asked }; issue_number = c.args.issue_number; figures = c.in_ok-figures.figures } in
    version_size key c.in_ok-number.number version c.in_ok-asked-2.ensures.size

pub returns-clause-bytes : goal.returns-clause-bytes
returns-clause-bytes c long =
    let key : Key = record { desk = c.in_ok-desk-2.desk; reference = c.in_ok-reference-2.reference } in
    let version : Version = record { act = c.in_ok-act-2.act; terms = record { asked = c.in_ok-asked-2.asked }; issue_number = c.args.issue_number; figures = c.in_ok-figures.figures } in
    let desk : Some key.desk ≡ result_ok (name_reading is_desk_letter 16 c.in_ok-desk.desk.now) = c.in_ok-desk-2.ensures.value ∙ ap result_ok c.read.ensures in
    let reference : Some key.reference ≡ result_ok (name_reading is_ascii_alphanumeric 20 c.in_ok-reference.reference.now) = c.in_ok-reference-2.ensures.value ∙ ap result_ok c.read-2.ensures in
    version_written key version c.in_ok-desk.desk.now c.in_ok-reference.reference.now c.in_ok-number.number c.in_ok-desk.ensures.parts desk c.in_ok-reference.ensures.parts reference c.in_ok-number.ensures.parts c.in_ok-act.ensures.parts c.in_ok-act-2.ensures
    c.in_ok-asked.ensures.parts c.in_ok-asked.ensures.long c.in_ok-asked-2.ensures.bytes c.in_ok-figures.ensures.bytes long
