-- What a source in memory does.
use Rattle.std.specs.Prelude.{ℕ, List, drop, if◌then◌else◌}
use Rattle.muni_edge.specs.Calls.{CallState, none_made, is_listed, after_call}

-- the bytes that are left, and the calls
pub record SourceState : Type 0 where
  pub left : List ℕ
  pub calls : CallState

-- nothing was taken yet
abbrev pub new_source : List ℕ → List ℕ → SourceState
new_source bytes failing = record { left = bytes; calls = none_made failing }

-- after a take into so much room: the bytes that fit there are gone, but none at a listed call
abbrev pub after_take : SourceState → ℕ → SourceState
after_take source room =
    record {
      left = if is_listed source.calls then source.left else drop room source.left;
      calls = after_call source.calls;
    }
