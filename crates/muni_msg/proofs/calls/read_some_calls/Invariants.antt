use Rattle.std.proofs.Common.{◌≡◌, ◌+◌, length}
use Rattle.arrayvec.specs.ArrayVec.{array_vec_len}
use Rattle.muni_msg.specs.IssueFields.{calls_reading}
use Rattle.muni_msg.proofs.CallLemmas.{with_more}
use Rattle.muni_msg.specs.Calls.{cut_at_blanks}
use Rattle.muni_msg.proofs.calls.read_some_calls.Given as goal

-- what is read, and what is left
abbrev pub invariant-loop-count : goal.invariant-loop-count
invariant-loop-count l = record {
  counted : array_vec_len l.calls ≡ l.count;
  pieces : l.count + length (cut_at_blanks l.rest) ≡ length (cut_at_blanks l.fn.text);
  read : with_more l.calls.items (calls_reading (cut_at_blanks l.rest)) ≡ calls_reading (cut_at_blanks l.fn.text);
}
