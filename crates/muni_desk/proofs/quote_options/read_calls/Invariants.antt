use Rattle.std.proofs.Common.{◌≡◌, ◌+◌, ◌≤◌, map, length, drop}
use Rattle.std.specs.Prelude.{codes, string_bytes}
use Rattle.arrayvec.specs.ArrayVec.{array_vec_len}
use Rattle.muni_desk.specs.QuoteOptions.{calls_reading}
use Rattle.muni_desk.specs.Words.{values_of}
use Rattle.muni_desk.proofs.CallLemmas.{with_more}
use Rattle.muni_desk.proofs.quote_options.read_calls.Given as goal

-- what is read, and what is left
abbrev pub invariant-loop-word : goal.invariant-loop-word
invariant-loop-word l =
    let words = map string_bytes l.words in
    let left = values_of (codes "--call=") (drop l.word-index words) in
    record {
      room : array_vec_len l.calls ≤ 40;
      count : array_vec_len l.calls + length left ≡ length (values_of (codes "--call=") words);
      read : with_more l.calls.items (calls_reading left) ≡ calls_reading (values_of (codes "--call=") words);
    }
