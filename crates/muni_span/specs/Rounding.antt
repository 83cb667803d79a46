-- Which way an end is rounded.
use Rattle.std.specs.Prelude.{ℕ, ◌-◌, ◌^◌}
use Rattle.muni_span.specs.declared.rounding.Rounding.{Rounding}
use Rattle.muni_span.specs.declared.rounding.Rounding.TheVariants.{Down, Up}

-- what is added to a number before its part below 2^60 is cut off: nothing, or all but one
abbrev pub carry_of : Rounding → ℕ
carry_of Down = 0
carry_of Up = 2 ^ 60 - 1
