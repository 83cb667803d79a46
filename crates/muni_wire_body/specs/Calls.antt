-- The calls of an issue in a body.
use Rattle.std.specs.Prelude.{List, [], ◌∷◌, length, nat_le, codes, Option, Some, None, if◌then◌else◌}
use Rattle.serde_json.specs.Data.{Data, Items, no_items, item}
use Rattle.serde_json.specs.Find.{get, as_array}
use Rattle.muni_terms.specs.declared.row.Call.{Call}
use Rattle.muni_msg.specs.Fields.{◌>>=◌, day_in, call_price_reading}
use Rattle.muni_wire_body.specs.Members.{member}

-- a call: a date, and a price with its mark
abbrev pub call_in : Data → Option Call
call_in value = do
  date ← member (codes "date") value
  date ← day_in date
  price ← member (codes "price") value
  found ← call_price_reading price
  Some (record { date = date; price = found.0; term = found.1 })

-- the items of an array, as a list
abbrev pub listed : Items → List Data
listed no_items = []
listed (item value items) = value ∷ listed items

-- values as calls, if each of them is one
unfoldable pub each_call : List Data → Option (List Call)
each_call [] = Some []
each_call (value ∷ values) = do
  call ← call_in value
  calls ← each_call values
  Some (call ∷ calls)

-- at most forty
abbrev pub few_calls : List Data → Option (List Call)
few_calls values = if nat_le (length values) 40 then each_call values else None

-- none if they are left out
abbrev pub calls_at : Option Data → Option (List Call)
calls_at None = Some []
calls_at (Some found) = as_array found >>= λ items. few_calls (listed items)

abbrev pub calls_in : Data → Option (List Call)
calls_in value = calls_at (get (codes "calls") value)
