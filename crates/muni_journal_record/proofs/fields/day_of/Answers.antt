use Rattle.std.proofs.Common.{◌<◌, ◌∙◌, ℕ, get_or, rules}
use Rattle.muni_rule.specs.Civil.{Civil}
use Rattle.muni_journal_record.proofs.PieceLaws.{day_written, day_read}
use Rattle.muni_journal_record.proofs.fields.day_of.Goals as goal

pub returns-clause-bytes : goal.returns-clause-bytes
returns-clause-bytes c =
    let bytes = c.args.bytes.now in
    let small : (i : ℕ) → get_or bytes i 0 < 256 = λ i. search rules in
    let date : Civil = record { year = c.from.result; month = c.from-2.result; day = c.from-3.result } in
    day_read bytes date c.of.result (day_written bytes date c.requires small (c.from.ensures ∙ c.from_be_bytes-year.ensures) c.from-2.ensures c.from-3.ensures) c.of.ensures
