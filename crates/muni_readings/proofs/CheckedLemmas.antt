-- The first reading that gives a figure, one reading after another.
use Rattle.std.proofs.Common.{◌≡◌, ◌≤◌, ℕ, zero, suc, length, arith, true, false, refl, sym, subst, List, [], ◌∷◌, drop, Option, Some, None}
use Rattle.std.specs.Prelude.{MatchBool}
use Rattle.std.specs.List.{slice_get}
use Rattle.std.proofs.lemmas.Option.{same_Some}
use Rattle.muni_msg.specs.declared.figures.Figures.{Figures}
use Rattle.muni_readings.specs.Checked.{Gives, IsFirstOf}
use Rattle.muni_readings.specs.Stated.{is_given}
use Rattle.muni_readings.specs.declared.reading.Reading.{Reading}
use Rattle.muni_readings.specs.declared.stated.Field.{Field}
use Rattle.muni_readings.specs.declared.stated.Stated.{Stated}

-- a reading that gives another figure is passed over
pass : (By : Gives) (of : Field) (stated : Stated) (rs : List Reading) (i : ℕ) (reading : Reading) (theirs : Option Figures) (first : Option Reading) → slice_get rs i ≡ Some reading → By reading theirs → is_given theirs of stated ≡ false
    → IsFirstOf By of stated (drop (suc i) rs) first → IsFirstOf By of stated (drop i rs) first
pass By of stated [] i reading theirs first there gives test later = absurd (let never : None ≡ Some reading = there in cc)
pass By of stated (r ∷ rs) zero reading theirs first there gives test later =
    (theirs, subst (λ it. By it theirs) (sym (same_Some r reading there)) gives, subst (λ b. MatchBool b (first ≡ Some r) (IsFirstOf By of stated rs first)) (sym test) later)
pass By of stated (r ∷ rs) (suc i) reading theirs first there gives test later = pass By of stated rs i reading theirs first there gives test later

pub passed-over : (By : Gives) (of : Field) (stated : Stated) (rs : List Reading) (i next : ℕ) (reading : Reading) (theirs : Option Figures) (first : Option Reading) → next ≡ suc i → slice_get rs i ≡ Some reading → By reading theirs → is_given theirs of stated ≡ false
    → IsFirstOf By of stated (drop next rs) first → IsFirstOf By of stated (drop i rs) first
passed-over By of stated rs i next reading theirs first is there gives test later =
    pass By of stated rs i reading theirs first there gives test (subst (λ n. IsFirstOf By of stated (drop n rs) first) is later)

-- one that gives the figure is the first
pub first-here : (By : Gives) (of : Field) (stated : Stated) (rs : List Reading) (i : ℕ) (reading : Reading) (theirs : Option Figures) → slice_get rs i ≡ Some reading → By reading theirs → is_given theirs of stated ≡ true
    → IsFirstOf By of stated (drop i rs) (Some reading)
first-here By of stated [] i reading theirs there gives test = absurd (let never : None ≡ Some reading = there in cc)
first-here By of stated (r ∷ rs) zero reading theirs there gives test =
    let same = same_Some r reading there in
    (theirs, subst (λ it. By it theirs) (sym same) gives, subst (λ b. MatchBool b (Some reading ≡ Some r) (IsFirstOf By of stated rs (Some reading))) (sym test) (subst (λ it. Some reading ≡ Some it) (sym same) refl))
first-here By of stated (r ∷ rs) (suc i) reading theirs there gives test = first-here By of stated rs i reading theirs there gives test

-- none is left after the last
drop-past : (rs : List Reading) (i : ℕ) → length rs ≤ i → drop i rs ≡ []
drop-past [] zero past = refl
drop-past [] (suc i) past = refl
drop-past (r ∷ rs) zero past = absurd (omega arith)
drop-past (r ∷ rs) (suc i) past = drop-past rs i (omega arith)

pub none-left : (By : Gives) (of : Field) (stated : Stated) (rs : List Reading) (i : ℕ) → length rs ≤ i → IsFirstOf By of stated (drop i rs) None
none-left By of stated rs i past = subst (λ it. IsFirstOf By of stated it None) (sym (drop-past rs i past)) refl
