use Rattle.std.proofs.Common.{◌≡◌, ◌-◌}
use Rattle.arrayvec.specs.ArrayVec.{array_vec_len}
use Rattle.muni_journal_record.specs.IssueBody as spec
use Rattle.muni_journal_record.proofs.CallLemmas.{behind}
use Rattle.muni_journal_record.proofs.issue_body.calls_of.Given as goal

abbrev pub invariant-loop-i : goal.invariant-loop-i
invariant-loop-i l = record {
  found : behind l.calls.items (spec.calls_of l.marked (l.count - l.i) l.rest) ≡ spec.calls_of l.marked l.count l.bytes;
  room : array_vec_len l.calls ≡ l.i;
}
