-- The versions of a trade by their numbers, or the terms of an issue.
use Rattle.std.proofs.Common.{◌≡◌, ◌⊎◌, inl, inr, ◌≤◌, ◌+◌, ◌-◌, ◌==◌, ℕ, zero, suc, true, false, List, [], ◌∷◌, ◌++◌, length, Option, Some, None, refl, sym, ap, ◌∙◌, arith, append_assoc}
use Rattle.std.specs.Prelude.{⊤, if◌then◌else◌, slice_get}
use Rattle.std.specs.Option.{option_and_then, option_map}
use Rattle.std.proofs.lemmas.Bool.{eqb-true}
use Rattle.std.proofs.lemmas.Option.{none-some, same_Some, slice_get_within}
use Rattle.muni_msg.specs.declared.version.Act.TheVariants.{Corrected, Canceled}
use Rattle.muni_msg.specs.declared.version.Version.{Version}
use Rattle.muni_keep.specs.History.{History, count, grown, next_number, version_in, versions}
use Rattle.muni_book.proofs.PutLemmas.{length-behind}

-- ---- lists with an element at their end
has-first : {A : Type 0} (xs : List A) (last : A) → (x : A) × (slice_get (xs ++ last ∷ []) 0 ≡ Some x)
has-first [] last = (last, refl)
has-first (x ∷ xs) last = (x, refl)

-- one that is read is the last, or is before it
read-with : {A : Type 0} (xs : List A) (last : A) (i : ℕ) (x : A) → slice_get (xs ++ last ∷ []) i ≡ Some x → (slice_get xs i ≡ Some x) ⊎ ((i ≡ length xs) × (last ≡ x))
read-with [] last zero x is = inr (refl, same_Some last x is)
read-with [] last (suc i) x is = absurd (none-some x is)
read-with (y ∷ xs) last zero x is = inl is
read-with (y ∷ xs) last (suc i) x is = elim (read-with xs last i x is) [
  | inl before ↦ inl before
  | inr end ↦ inr (ap suc end.0, end.1)
]

-- one after which none is read is the last
read-end : {A : Type 0} (xs : List A) (last : A) (i : ℕ) (x : A) → slice_get (xs ++ last ∷ []) i ≡ Some x → slice_get (xs ++ last ∷ []) (suc i) ≡ None → (i ≡ length xs) × (last ≡ x)
read-end [] last zero x is none = (refl, same_Some last x is)
read-end [] last (suc i) x is none = absurd (none-some x is)
read-end (y ∷ xs) last zero x is none = let first = has-first xs last in absurd (none-some first.0 (sym none ∙ first.1))
read-end (y ∷ xs) last (suc i) x is none = let rest = read-end xs last i x is none in (ap suc rest.0, rest.1)

-- ---- a version with a number is at the place before it
pub numbered : {V : Type 0} (history : History V) (number i : ℕ) → number ≡ i + 1 → version_in history number ≡ slice_get (versions history) i
numbered history number i next =
    elim (number == 0) as (λ b. (number == 0) ≡ b → (if b then None else slice_get (versions history) (number - 1)) ≡ slice_get (versions history) i) [
      | true ↦ λ none. let zero_is : number ≡ 0 = eqb-true number 0 none in absurd (omega arith)
      | false ↦ λ _. let place : number - 1 ≡ i = omega arith in ap (slice_get (versions history)) place
    ] refl

pub place-of : {V : Type 0} (history : History V) (number : ℕ) (version : V) → version_in history number ≡ Some version → (i : ℕ) × (number ≡ i + 1) × (slice_get (versions history) i ≡ Some version)
place-of history zero version is = absurd (none-some version is)
place-of history (suc i) version is =
    let next : suc i ≡ i + 1 = omega arith in
    (i, next, sym (numbered history (suc i) i next) ∙ is)

-- a trade that has a version is kept, and one that is kept has a first one
pub kept-trade : {V : Type 0} (trade : Option (History V)) (number : ℕ) (version : V) → option_and_then (λ history. version_in history number) trade ≡ Some version → (history : History V) × (trade ≡ Some history)
kept-trade None number version is = absurd (none-some version is)
kept-trade (Some history) number version is = (history, refl)

pub first-version : {V : Type 0} (history : History V) → (version : V) × (version_in history 1 ≡ Some version)
first-version history = has-first history.earlier history.last

-- ---- the last version
-- a version after which there is none is the last
pub last-of : {V : Type 0} (trade : Option (History V)) (number : ℕ) (version : V) → option_and_then (λ history. version_in history number) trade ≡ Some version
    → option_and_then (λ history. version_in history (number + 1)) trade ≡ None → option_map {U = ℕ × V} (λ history. (count history, history.last)) trade ≡ Some (number, version)
last-of None number version is none = absurd (none-some version is)
last-of (Some history) number version is none =
    let at = place-of history number version is in
    let after : slice_get (versions history) (suc at.0) ≡ None = let next : number + 1 ≡ suc at.0 + 1 = omega arith in sym (numbered history (number + 1) (suc at.0) next) ∙ none in
    let end = read-end history.earlier history.last at.0 version at.2 after in
    let counted : count history ≡ number = omega arith in
    λ i. Some (counted i, end.1 i)

-- a version that corrects is no cancel, and so among the first 99
pub few-corrected : (history : History Version) (number : ℕ) (version : Version) → (count history ≤ 99) ⊎ ((count history ≤ 100) × (history.last.act ≡ Canceled))
    → version_in history number ≡ Some version → version.act ≡ Corrected → number ≤ 99
few-corrected history number version few is corrected =
    let at = place-of history number version is in
    elim (read-with history.earlier history.last at.0 version at.2) [
      | inl before ↦ let inside = slice_get_within history.earlier at.0 version before in
          elim few [
            | inl few ↦ omega arith
            | inr full ↦ omega arith
          ]
      | inr end ↦ elim few [
        | inl few ↦ omega arith
        | inr full ↦ absurd (let never : Canceled ≡ Corrected = sym full.1 ∙ ap (λ (v : Version). v.act) end.1 ∙ corrected in cc)
      ]
    ]

-- ---- a trade with one version more has that, and those that it had
pub grown-has : {V : Type 0} (trade : Option (History V)) (added : V) (number : ℕ) (version : V) → version_in (grown trade added) number ≡ Some version
    → (option_and_then (λ history. version_in history number) trade ≡ Some version) ⊎ ((number ≡ next_number trade) × (added ≡ version))
grown-has None added number version is =
    let at = place-of (grown None added) number version is in
    elim (read-with [] added at.0 version at.2) [
      | inl before ↦ absurd (none-some version before)
      | inr end ↦ inr (omega arith, end.1)
    ]
grown-has (Some history) added number version is =
    let at = place-of (grown (Some history) added) number version is in
    elim (read-with (versions history) added at.0 version at.2) [
      | inl before ↦ inl (numbered history number at.0 at.1 ∙ before)
      | inr end ↦ let all = length-behind history.earlier history.last in inr (omega arith, end.1)
    ]

-- ---- versions that are found under numbers that are counted on
abbrev pub AreKept : {V : Type 0} → (ℕ → Option V) → ℕ → List V → Type 0
AreKept look number [] = ⊤
AreKept look number (version ∷ more) = (look number ≡ Some version) × AreKept look (number + 1) more

pub still-kept : {V : Type 0} (old new : ℕ → Option V) → ((number : ℕ) (version : V) → old number ≡ Some version → new number ≡ Some version)
    → (number : ℕ) (list : List V) → AreKept old number list → AreKept new number list
still-kept old new keeps number [] kept = tt
still-kept old new keeps number (version ∷ more) kept =
    (keeps number version kept.0, still-kept old new keeps (number + 1) more kept.1)

-- each of them is found
pub kept-at : {V : Type 0} (look : ℕ → Option V) (number : ℕ) (list : List V) (i at : ℕ) (version : V) → AreKept look number list → slice_get list i ≡ Some version → at ≡ number + i → look at ≡ Some version
kept-at look number [] i at version kept is place = absurd (none-some version is)
kept-at look number (first ∷ more) zero at version kept is place =
    let here : at ≡ number = omega arith in
    ap look here ∙ kept.0 ∙ is
kept-at look number (first ∷ more) (suc i) at version kept is place =
    kept-at look (number + 1) more i at version kept.1 is (omega arith)

read-middle : {A : Type 0} (front : List A) (x : A) (back : List A) → slice_get (front ++ x ∷ back) (length front) ≡ Some x
read-middle [] x back = refl
read-middle (y ∷ front) x back = read-middle front x back

-- those of a history are
kept-from : {V : Type 0} (history : History V) (front list : List V) (number : ℕ) → front ++ list ≡ versions history → number ≡ length front + 1 → AreKept (version_in history) number list
kept-from history front [] number cut place = tt
kept-from {V} history front (version ∷ more) number cut place =
    let longer = length-behind front version in (
      numbered history number (length front) place ∙ ap (λ (list : List V). slice_get list (length front)) (sym cut) ∙ read-middle front version more,
      kept-from history (front ++ version ∷ []) more (number + 1) (append_assoc front (version ∷ []) more ∙ cut) (omega arith),
    )

pub all-kept : {V : Type 0} (kept : Option (History V)) (history : History V) → kept ≡ Some history → AreKept (λ number. option_and_then (λ history. version_in history number) kept) 1 (versions history)
all-kept kept history is =
    still-kept (version_in history) (λ number. option_and_then (λ history. version_in history number) kept) (λ number version found. ap (option_and_then (λ history. version_in history number)) is ∙ found)
    1 (versions history) (kept-from history [] (versions history) 1 refl refl)
