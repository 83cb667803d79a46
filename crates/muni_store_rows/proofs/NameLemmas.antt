-- Names that are read again.
use Rattle.std.proofs.Common.{◌≡◌, ◌==◌, ℕ, Bool, false, nat_lt, List, length, Ok, refl, arith}
use Rattle.std.proofs.lemmas.Bool.Decides.{nat_tests}
use Rattle.muni_msg.specs.Names.{IsName}
use Rattle.muni_msg.specs.NameReading.{name_reading}

pub name_again : (is_letter : ℕ → Bool) (most : ℕ) (bytes : List ℕ) → IsName is_letter most bytes → name_reading is_letter most bytes ≡ Ok bytes
name_again is_letter most bytes is =
    let some : (length bytes == 0) ≡ false = grind (arith, nat_tests, is.some) in
    let few : nat_lt most (length bytes) ≡ false = grind (arith, nat_tests, is.few) in
    rw (is.letters, some, few) refl
