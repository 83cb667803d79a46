use Rattle.std.proofs.Common.{◌≡◌, ◌≤◌, ◌++◌, ◌+◌, ◌*◌, take}
use Rattle.std.specs.List.{flat_map, All}
use Rattle.arrayvec.specs.ArrayVec.{array_vec_len}
use Rattle.muni_journal_record.specs.IssueBody.{call_bytes, CallFits}
use Rattle.muni_journal_record.proofs.issue_body.push_calls.Given as goal

abbrev pub invariant-loop-i : goal.invariant-loop-i
invariant-loop-i l = record {
  items : l.body.items ≡ l.fn.body.items ++ flat_map (call_bytes l.marked) (take l.i l.calls);
  len : array_vec_len l.body ≤ array_vec_len l.fn.body + 9 * l.i;
  fits : All CallFits (take l.i l.calls);
}
