-- The next number of a trade or of an issue.
use Rattle.std.proofs.Common.{◌≡◌, ◌≢◌, ◌==◌, ℕ, zero, suc, ◌+◌, ◌-◌, true, false, List, [], ◌∷◌, ◌++◌, length, Option, Some, None, refl, ap, sym, ◌∙◌, arith}
use Rattle.std.specs.Prelude.{◌<◌, ◌≤◌, nat_lt, get_or, slice_get, if◌then◌else◌, is_some, IfSome}
use Rattle.std.proofs.lemmas.Option.{slice_get_past, slice_get_read}
use Rattle.std.proofs.lemmas.Bool.Decides.{nat_tests}
use Rattle.std.specs.Option.{option_map, unwrap_or}
use Rattle.muni_keep.specs.History.{History, count, next_number, version_in}

-- the last version of a trade that is kept or not, with its number
abbrev pub last_of : {V : Type 0} → Option (History V) → Option (ℕ × V)
last_of trade = option_map (λ history. (count history, history.last)) trade

-- one follows the number of the last version
pub next_after_last : {V : Type 0} (trade : Option (History V)) (number : ℕ) (version : V) → Some (number, version) ≡ last_of trade → number + 1 ≡ next_number trade
next_after_last None number version last = absurd (cc)
next_after_last {V} (Some history) number version last = ap (λ found. (unwrap_or {T = ℕ × V} found (number, version)).0 + 1) last

-- whether a number is the first one
pub is_first : (number : ℕ) → number ≡ 1 → true ≡ (number == 1)
is_first number is = grind (arith, nat_tests)

pub not_first : (number : ℕ) → number ≢ 1 → false ≡ (number == 1)
not_first number apart = grind (arith, nat_tests)

at_end : {V : Type 0} (earlier : List V) (last : V) → Some last ≡ slice_get (earlier ++ last ∷ []) (length earlier)
at_end [] last = refl
at_end (x ∷ earlier) last = at_end earlier last

before_end : {V : Type 0} (earlier : List V) (last : V) (place : ℕ) → place ≢ length earlier → slice_get earlier place ≡ slice_get (earlier ++ last ∷ []) place
before_end [] last zero apart = absurd (apart refl)
before_end [] last (suc place) apart = refl
before_end (x ∷ earlier) last zero apart = refl
before_end (x ∷ earlier) last (suc place) apart = before_end earlier last place (λ is. apart (ap suc is))

not_zero : (number : ℕ) → number ≢ 0 → false ≡ (number == 0)
not_zero number some = grind (arith, nat_tests)

-- the last ones are found by the number after those before them
pub last_in : {V : Type 0} (history : History V) (number : ℕ) → number ≢ 0 → number - 1 ≡ length history.earlier → Some history.last ≡ version_in history number
last_in history number some is =
    at_end history.earlier history.last ∙ ap (slice_get (history.earlier ++ history.last ∷ [])) (sym is)
    ∙ ap (λ none. if none then None else slice_get (history.earlier ++ history.last ∷ []) (number - 1)) (not_zero number some)

-- and those before them by their own
pub earlier_in : {V : Type 0} (history : History V) (number : ℕ) → number ≢ 0 → number - 1 ≢ length history.earlier → slice_get history.earlier (number - 1) ≡ version_in history number
earlier_in history number some apart =
    before_end history.earlier history.last (number - 1) apart
    ∙ ap (λ none. if none then None else slice_get (history.earlier ++ history.last ∷ []) (number - 1)) (not_zero number some)

past_end : (place count : ℕ) → false ≡ nat_lt place count → count ≤ place
past_end place count is = grind (arith, nat_tests)

within : (place count : ℕ) → true ≡ nat_lt place count → place < count
within place count is = grind (arith, nat_tests)

-- what a look-up in a list found, as the list's own
pub looked_up : {V W : Type 0} (now : W → V) (found : Option W) (list : List V) (place : ℕ) → is_some found ≡ nat_lt place (length list) → IfSome found (λ x. now x ≡ get_or list place (now x))
    → option_map now found ≡ slice_get list place
looked_up now None list place is at = sym (slice_get_past list place (past_end place (length list) is))
looked_up now (Some x) list place is at = sym (slice_get_read list (length list) place (now x) refl (within place (length list) is) at)
