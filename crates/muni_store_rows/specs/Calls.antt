-- The calls of an issue in one column.
use Rattle.std.specs.Prelude.{ℕ, List, [], ◌∷◌, ◌++◌, drop, if◌then◌else◌, Option, Some, None}
use Rattle.std.specs.List.{flat_map}
use Rattle.std.specs.Str.{bytes_eq}
use Rattle.muni_rule.specs.declared.call_term.CallTerm.{CallTerm}
use Rattle.muni_rule.specs.declared.call_term.CallTerm.TheVariants.{OnDay, OnOrAfter, Called}
use Rattle.muni_dec.specs.Decimal.{decimal_text}
use Rattle.muni_days.specs.Day.{civil, day_text}
use Rattle.muni_terms.specs.declared.row.Call.{Call}
use Rattle.muni_msg.specs.Calls.{calls_field}

-- the mark that says on which days a call stands: none, `+` or `!`
abbrev pub mark_text : CallTerm → List ℕ
mark_text OnDay = []
mark_text OnOrAfter = 43 ∷ []
mark_text Called = 33 ∷ []

-- a call: its date, a colon, its price with six decimals, and its mark
abbrev pub call_text : Call → List ℕ
call_text call =
    day_text (civil call.date) ++ 58 ∷ (decimal_text 6 call.price ++ mark_text call.term)

-- calls with a blank before each
abbrev pub call_behind_blank : Call → List ℕ
call_behind_blank call = 32 ∷ call_text call

abbrev pub calls_behind_blanks : List Call → List ℕ
calls_behind_blanks calls = flat_map call_behind_blank calls

-- calls with one blank between
abbrev pub calls_text : List Call → List ℕ
calls_text calls = drop 1 (calls_behind_blanks calls)

-- calls, if this is the text of them
abbrev pub if_written : List ℕ → Option (List Call) → Option (List Call)
if_written text None = None
if_written text (Some calls) = if bytes_eq (calls_text calls) text then Some calls else None

-- the calls that have this text, if there are any
abbrev pub calls_of : List ℕ → Option (List Call)
calls_of text = if_written text (calls_field text)
