-- Puts with a condition.
use Rattle.std.specs.Prelude.{◌≡◌, Bool, true, false, Result, Ok, IfOk, OnErr}

-- A put says whether its condition holds. If so it leaves the edited value, and else, or after an error, the old one.
pub record PutsIf {T E : Type 0} (holds : Bool) (edited : T) (result : Result Bool E) (old new : T) : Type 0 where
  pub answer : IfOk result (λ put. put ≡ holds)
  pub kept : result ≡ Ok true → new ≡ edited
  pub refused : result ≡ Ok false → new ≡ old
  pub unchanged : OnErr result (new ≡ old)
