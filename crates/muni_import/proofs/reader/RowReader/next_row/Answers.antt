use Rattle.csv.specs.Records.{fields_of}
use Rattle.muni_import.proofs.RowLemmas.{left-next, left-none, still-sound}
use Rattle.muni_import.proofs.reader.RowReader.next_row.Goals as goal

pub returns-then-not-found-clause-next : goal.returns-then-not-found-clause-next
returns-then-not-found-clause-next c =
    let sound = still-sound c.self.inside.ended c.self.inside.reader c.if-self.false c.self.invariant in
    let reads = rw c.if-not-found.true at c.in-Ok.ensures.reads in
    let left = left-none c.self.inside.reader c.read_byte_record.new.self (fields_of c.read_byte_record.new.row) sound reads in
    rw (← c.self.view_is, c.if-self.false) left

pub returns-clause-next : goal.returns-clause-next
returns-clause-next c =
    let sound = still-sound c.self.inside.ended c.self.inside.reader c.if-self.false c.self.invariant in
    let reads = rw c.if-not-found.false at c.in-Ok.ensures.reads in
    let left = left-next c.self.inside.reader c.read_byte_record.new.self (fields_of c.read_byte_record.new.row) sound reads in
    rw (← c.self.view_is, c.if-self.false, c.read_row.ensures) left
