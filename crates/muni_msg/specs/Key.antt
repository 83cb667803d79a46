-- What `==` says of keys.
use Rattle.std.specs.Prelude.{Bool, nat_eq}
use Rattle.std.specs.Ordering.{on, eq_of_both}
use lib.Pointwise.{pointwise}
use Rattle.muni_msg.specs.declared.command.Key.{Key}

-- both parts are equal
abbrev pub key_eq : Key → Key → Bool
key_eq = eq_of_both (on (λ key. key.desk) (pointwise nat_eq)) (on (λ key. key.reference) (pointwise nat_eq))
