-- What a sink in memory does.
use Rattle.std.specs.Prelude.{ℕ, ◌-◌, Bool, ◌||◌, nat_lt, List, [], ◌++◌, take, length, if◌then◌else◌}
use Rattle.muni_edge.specs.Calls.{CallState, one_more, none_made, is_listed}

-- the bytes that were written, the room for all of them, and the calls
pub record SinkState : Type 0 where
  pub bytes : List ℕ
  pub room : ℕ
  pub calls : CallState

-- nothing was written yet
abbrev pub new_sink : ℕ → List ℕ → SinkState
new_sink room failing = record { bytes = []; room = room; calls = none_made failing }

-- so many more bytes go past the room
abbrev pub is_past_room : SinkState → ℕ → Bool
is_past_room sink count = nat_lt (sink.room - length sink.bytes) count

-- the next put fails, for so many bytes
abbrev pub fails_to_put : SinkState → ℕ → Bool
fails_to_put sink count = is_listed sink.calls || is_past_room sink count

-- the bytes after a put: all that fits was appended, but nothing at a listed call
abbrev pub bytes_after : SinkState → List ℕ → List ℕ
bytes_after sink piece =
    if is_listed sink.calls then sink.bytes
    else sink.bytes ++ take (sink.room - length sink.bytes) piece

-- the calls after a put of so many bytes: one fault was counted if it failed
abbrev pub calls_after : SinkState → ℕ → CallState
calls_after sink count =
    record sink.calls {
      made = one_more sink.calls.made;
      faults = if fails_to_put sink count then one_more sink.calls.faults else sink.calls.faults;
    }

-- after a put
abbrev pub after_put : SinkState → List ℕ → SinkState
after_put sink piece =
    record sink { bytes = bytes_after sink piece; calls = calls_after sink (length piece) }
