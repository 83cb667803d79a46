-- What `==` says of keys.
use Rattle.std.proofs.Common.{◌≡◌, ap}
use Rattle.std.specs.Bool.{Decides}
use Rattle.std.proofs.lemmas.Bool.Decides.{Decides-and, Decides-like}
use Rattle.muni_msg.specs.Key.{key_eq}
use Rattle.muni_msg.specs.declared.command.Key.{Key}
use Rattle.muni_msg.proofs.AskedLemmas.{numbers_decide}

pub key_decides : (key other : Key) → Decides (key_eq key other) (key ≡ other)
key_decides key other =
    Decides-like (key_eq key other)
    (λ same. λ i. record { desk = same.0 i; reference = same.1 i })
    (λ same. (ap (λ it. it.desk) same, ap (λ it. it.reference) same))
    (Decides-and _ _ (numbers_decide key.desk other.desk) (numbers_decide key.reference other.reference))
