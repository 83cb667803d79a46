use Rattle.std.proofs.Common.{◌≡◌, ◌∷◌, rules}
use Rattle.muni_journal_record.proofs.BodyLaws.{later_has_size, later_is_whole}
use Rattle.muni_journal_record.proofs.body.begun_version.Goals as goal

pub returns-in_ok-issue_number-in-5-clause-size : goal.returns-in_ok-issue_number-in-5-clause-size
returns-in_ok-issue_number-in-5-clause-size c =
    let later = c.in_ok-issue_number-in-5 in
    later_has_size later.issue_number later.ensures.later c.version_of-in-5.result c.version_of-in-5.ensures.number c.version_of-in-5.ensures.size

pub returns-in_ok-issue_number-in-5-clause-bytes : goal.returns-in_ok-issue_number-in-5-clause-bytes
returns-in_ok-issue_number-in-5-clause-bytes c =
    let later = c.in_ok-issue_number-in-5 in
    let begins : c.args.bytes.now ≡ 5 ∷ c.in_ok-kind.rest.now = search rules in
    later_is_whole later.issue_number later.ensures.later c.args.bytes.now c.in_ok-kind.rest.now later.rest.now c.version_of-in-5.result begins later.ensures.parts c.version_of-in-5.ensures.number c.version_of-in-5.ensures.bytes
