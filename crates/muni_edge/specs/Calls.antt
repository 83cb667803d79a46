-- The calls of an object in memory, numbered from 0.
use Rattle.std.specs.Prelude.{ℕ, ◌+◌, ◌-◌, ◌^◌, ◌==◌, Bool, min, List, if◌then◌else◌}
use Rattle.std.specs.List.{list_any}

-- the numbers of the calls that fail, how many calls were made, and the count of faults
pub record CallState : Type 0 where
  pub failing : List ℕ
  pub made : ℕ
  pub faults : ℕ

-- before the first call
abbrev pub none_made : List ℕ → CallState
none_made failing = record { failing = failing; made = 0; faults = 0 }

-- so many more; a count stays at the last value of its type
abbrev pub raised : ℕ → ℕ → ℕ
raised count more = min (count + more) (2 ^ 64 - 1)

-- one more
abbrev pub one_more : ℕ → ℕ
one_more count = raised count 1

-- the next call is one of those that fail
abbrev pub is_listed : CallState → Bool
is_listed calls = list_any (λ number. number == calls.made) calls.failing

-- one more fault was counted
abbrev pub after_fault : CallState → CallState
after_fault calls = record calls { faults = one_more calls.faults }

-- one more call was made, and counted as a fault if it was listed
abbrev pub after_call : CallState → CallState
after_call calls =
    record calls {
      made = one_more calls.made;
      faults = if is_listed calls then one_more calls.faults else calls.faults;
    }
