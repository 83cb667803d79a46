-- The statuses of refusals, by their numbers.
use Rattle.std.specs.Prelude.{◌≡◌, ℕ, ◌==◌, ◌||◌, ◌&&◌, nat_le, if◌then◌else◌}
use Rattle.muni_msg.specs.Refusal.{number_of}
use Rattle.muni_msg.specs.declared.command.Reply.TheVariants.{Refused}
use Rattle.muni_msg.specs.declared.refusal.Refusal.{Refusal}
use Rattle.muni_wire.specs.HttpStatus.{code, status_of_reply}

-- 404 for 1 and 2, 409 for 3 and 11 to 14, and else 422
abbrev pub refusal_code : ℕ → ℕ
refusal_code number =
    if nat_le number 2 then 404
    else (if number == 3 || (nat_le 11 number && nat_le number 14) then 409 else 422)

abbrev pub RefusalsHaveCodes : Type 0
RefusalsHaveCodes =
    (why : Refusal) → code (status_of_reply (Refused why)) ≡ refusal_code (number_of why)
