-- The texts of the terms of an issue, in rows and messages.
use Rattle.std.specs.Prelude.{ℕ, ◌==◌, ◌&&◌, Bool, nat_le, not, if◌then◌else◌, List, [], ◌∷◌, length, Option, Some, None}
use Rattle.std.specs.List.{list_all}
use Rattle.std.specs.Result.{result_ok}
use Rattle.arrayvec.specs.ArrayVec.{ArrayVec}
use Rattle.muni_rule.specs.Cusip.{is_cusip_character}
use Rattle.muni_dec.specs.Values.{coupon_reading}
use Rattle.muni_terms.specs.declared.row.Call.{Call}
use Rattle.muni_msg.specs.Fields.{call_reading, ◌>>=◌}

-- nine digits and capital letters; the check digit is a test of the terms
abbrev pub cusip_reading : List ℕ → Option (List ℕ)
cusip_reading text =
    if (length text == 9) && list_all is_cusip_character text then Some text else None

-- a name of 1 to 60 bytes; what they may be is a test of the terms
abbrev pub issue_name_reading : List ℕ → Option (ArrayVec ℕ)
issue_name_reading text =
    if nat_le 1 (length text) && nat_le (length text) 60 then Some (record { items = text })
    else None

-- a coupon, which may be left out if no interest is paid
abbrev pub coupon_by : Bool → List ℕ → Option ℕ
coupon_by pays text =
    if not pays && (length text == 0) then Some 0 else result_ok (coupon_reading text)

-- texts as calls, if each of them reads as one
abbrev pub calls_reading : List (List ℕ) → Option (List Call)
calls_reading [] = Some []
calls_reading (text ∷ texts) = do
  call ← call_reading text
  calls ← calls_reading texts
  Some (call ∷ calls)
