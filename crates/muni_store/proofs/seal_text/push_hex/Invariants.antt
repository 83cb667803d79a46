use Rattle.std.proofs.Common.{◌≡◌, ◌+◌, ◌*◌, ◌++◌, drop}
use Rattle.arrayvec.specs.ArrayVec.{array_vec_len}
use Rattle.muni_store.specs.SealText as spec
use Rattle.muni_store.proofs.seal_text.push_hex.Given as goal

-- the digits so far and those of the bytes that are left are those of all
abbrev pub invariant-loop-byte : goal.invariant-loop-byte
invariant-loop-byte l = record {
  told : l.text.items ++ spec.hex (drop l.byte-index l.bytes) ≡ l.fn.text.items ++ spec.hex l.bytes;
  len : array_vec_len l.text ≡ array_vec_len l.fn.text + 2 * l.byte-index;
}
