-- The figures of a trade that another firm printed, and where others differ from them.
use Rattle.std.specs.Prelude.{not, Bool, false, nat_eq, List, [], ◌∷◌, find, Option, Some, None}
use Rattle.std.specs.Ordering.{on, int_eq}
use Rattle.muni_days.specs.Day.{place_of}
use Rattle.muni_msg.specs.declared.figures.Figures.{Figures}
use Rattle.muni_readings.specs.declared.stated.Stated.{Stated}
use Rattle.muni_readings.specs.declared.stated.Field.{Field}
use Rattle.muni_readings.specs.declared.stated.Field.TheVariants.{Price, Yield, Redemption, Days, Principal, Accrued, Total}

-- whether a figure is the stated one, if one is stated
abbrev pub is_stated : {A : Type 0} → (A → A → Bool) → A → Option A → Option Bool
is_stated eq figure None = None
is_stated eq figure (Some other) = Some (eq figure other)

abbrev pub is_as_stated : Field → Figures → Stated → Option Bool
is_as_stated Price figures stated = is_stated nat_eq figures.price stated.price
is_as_stated Yield figures stated = is_stated int_eq figures.yld stated.yld
is_as_stated Redemption figures stated =
    is_stated (on place_of nat_eq) figures.redemption stated.redemption
is_as_stated Days figures stated = is_stated int_eq figures.days stated.days
is_as_stated Principal figures stated = is_stated nat_eq figures.principal stated.principal
is_as_stated Accrued figures stated = is_stated nat_eq figures.accrued stated.accrued
is_as_stated Total figures stated = is_stated nat_eq figures.total stated.total

-- it is stated, and it is the same
abbrev pub is_same : Option Bool → Bool
is_same None = false
is_same (Some same) = same

-- it is stated, and it is another
abbrev pub is_other : Option Bool → Bool
is_other None = false
is_other (Some same) = not same

-- the fields in the order in which they are compared
abbrev pub fields : List Field
fields = Price ∷ Yield ∷ Redemption ∷ Days ∷ Principal ∷ Accrued ∷ Total ∷ []

-- the first of them in which another figure is stated
abbrev pub first_difference : Figures → Stated → Option Field
first_difference figures stated = find (λ of. is_other (is_as_stated of figures stated)) fields

-- some figures have what is stated of a field
abbrev pub is_given : Option Figures → Field → Stated → Bool
is_given None of stated = false
is_given (Some figures) of stated = is_same (is_as_stated of figures stated)
