-- Lines of blocks that are written one after another.
use Rattle.std.proofs.Common.{◌≡◌, ◌<◌, ◌≤◌, ◌+◌, ◌∙◌, ℕ, zero, suc, List, [], ◌∷◌, ◌++◌, length, take, drop, get_or, Option, Some, None, Ok, refl, sym, ap, subst, arith}
use Rattle.std.specs.Prelude.{All, IfOk, IfSome}
use Rattle.std.specs.List.{AllZip}
use Rattle.std.proofs.lemmas.Slice.Zip.{AllZip-long}
use Rattle.std.proofs.lemmas.List.{append-nil, append_assoc, length-append}
use Rattle.muni_edge.specs.Sink.{HasWritten, HasWrittenPart}
use Rattle.muni_figures.specs.Done.{AreDone, IsFirstText, no_tally, tally_sum}
use Rattle.muni_figures.specs.Rows.{Row}
use Rattle.muni_figures.specs.Shares.{AreNumbered, HasPlaces, IsPricedShare, rows_of_share, rows_of_shares}
use Rattle.muni_figures.specs.declared.pricing.BlockLines.{BlockLines}
use Rattle.muni_figures.specs.declared.said.FiguresSaid.{FiguresSaid}
use Rattle.muni_figures.specs.declared.shares.Share.{Share}
use Rattle.muni_figures.specs.declared.tally.Tally.{Tally}
use Rattle.muni_figures.proofs.DoneLemmas.{done-joined, done-rows}
use Rattle.muni_figures.proofs.ShareLemmas.{rows-more, rows-split, rows-within}

-- ---- one text after another
pub written-none : (had : Option (List ℕ)) → HasWritten had had []
written-none None = tt
written-none (Some text) = ap Some (sym (append-nil text))

pub written-then : (a b c : Option (List ℕ)) (xs ys : List ℕ) → HasWritten a b xs → HasWritten b c ys → HasWritten a c (xs ++ ys)
written-then None b c xs ys first then = tt
written-then (Some had) b c xs ys first then =
    let second = subst (λ b. IfSome b (λ text. c ≡ Some (text ++ ys))) first then in
    second ∙ ap Some (append_assoc had xs ys)

take-past : (xs ys : List ℕ) (n : ℕ) → take (length xs + n) (xs ++ ys) ≡ xs ++ take n ys
take-past [] ys n =
    let none : 0 + n ≡ n = omega arith in
    ap (λ n. take n ys) none
take-past (x ∷ xs) ys n =
    let next : length (x ∷ xs) + n ≡ suc (length xs + n) = omega arith in
    ap (λ n. take n (x ∷ xs ++ ys)) next ∙ ap (λ l. x ∷ l) (take-past xs ys n)

pub part-then : (a b c : Option (List ℕ)) (xs ys : List ℕ) → HasWritten a b xs → HasWrittenPart b c ys → HasWrittenPart a c (xs ++ ys)
part-then None b c xs ys first then = tt
part-then (Some had) b c xs ys first then =
    let second = subst (λ b. IfSome b (λ text. (count : ℕ) × (c ≡ Some (text ++ take count ys)))) first then in
    (length xs + second.0, second.1 ∙ ap Some (append_assoc had xs (take second.0 ys) ∙ ap (λ l. had ++ l) (sym (take-past xs ys second.0))))

-- ---- the lines of a block
numbered-at : (place : ℕ) (xs : List Share) (i : ℕ) (d : Share) → AreNumbered place xs → i < length xs → (get_or xs i d).place ≡ place + length (rows_of_shares (take i xs))
numbered-at place [] i d numbered within = absurd (omega (arith, within))
numbered-at place (x ∷ xs) zero d numbered within = omega (arith, numbered.0)
numbered-at place (x ∷ xs) (suc i) d numbered within =
    omega (arith, numbered-at (place + length (rows_of_share x)) xs i d numbered.2 (omega (arith, within)), length-append (rows_of_share x) (rows_of_shares (take i xs)))

zip-at : {X : Type 0} (R : X → X → Type 0) (xs ys : List X) (i : ℕ) (d : X) → AllZip R xs ys → i < length xs → R (get_or xs i d) (get_or ys i d)
zip-at R [] ys i d are within = absurd (omega (arith, within))
zip-at R (x ∷ xs) [] i d are within = absurd are
zip-at R (x ∷ xs) (y ∷ ys) zero d are within = are.0
zip-at R (x ∷ xs) (y ∷ ys) (suc i) d are within = zip-at R xs ys i d are.1 (omega (arith, within))

pub priced-within : (Answers : Row → FiguresSaid → Type 0) (xs ys : List Share) (i : ℕ) → AllZip (IsPricedShare Answers) xs ys → i < length ys → i < length xs
priced-within Answers xs ys i priced within = omega (arith, within, AllZip-long (IsPricedShare Answers) xs ys priced)

pub share-done : (Answers : Row → FiguresSaid → Type 0) (place : ℕ) (xs ys : List Share) (i : ℕ) (share : Share) (lines : BlockLines) → AreNumbered place xs → AllZip (IsPricedShare Answers) xs ys → i < length xs
    → share ≡ get_or ys i share → share.lines ≡ Ok lines → AreDone Answers (place + length (rows_of_shares (take i xs))) (rows_of_share (get_or xs i share)) lines.text.items lines.tally
share-done Answers place xs ys i share lines numbered priced within is some =
    let at = zip-at (IsPricedShare Answers) xs ys i share priced within in
    let old = get_or xs i share in
    let found = sym (ap (λ (s : Share). s.lines) is) ∙ some in
    let done = subst (λ l. IfOk l (λ lines. AreDone Answers old.place (rows_of_share old) lines.text.items lines.tally)) found at.lines in
    subst (λ n. AreDone Answers n (rows_of_share old) lines.text.items lines.tally) (numbered-at place xs i share numbered within) done

-- the lines of one block more
pub next-done : (Answers : Row → FiguresSaid → Type 0) (place : ℕ) (xs : List Share) (i : ℕ) (d : Share) (lines more : List ℕ) (these those : Tally) → i < length xs
    → AreDone Answers place (rows_of_shares (take i xs)) lines these → AreDone Answers (place + length (rows_of_shares (take i xs))) (rows_of_share (get_or xs i d)) more those
    → AreDone Answers place (rows_of_shares (take (i + 1) xs)) (lines ++ more) (tally_sum these those)
next-done Answers place xs i d lines more these those within done then =
    subst (λ rows. AreDone Answers place rows (lines ++ more) (tally_sum these those)) (sym (rows-more xs i d within))
    (done-joined Answers place (place + length (rows_of_shares (take i xs))) (rows_of_shares (take i xs)) (rows_of_share (get_or xs i d)) lines more these those
    (ap (λ n. place + n) (sym (done-rows Answers place (rows_of_shares (take i xs)) lines these done))) done then)

-- they are those of the first rows
pub first-text : (Answers : Row → FiguresSaid → Type 0) (place : ℕ) (xs : List Share) (i : ℕ) (lines : List ℕ) (these : Tally) → AreDone Answers place (rows_of_shares (take i xs)) lines these → IsFirstText Answers [] place (rows_of_shares xs) lines
first-text Answers place xs i lines these done = record {
  rows = rows_of_shares (take i xs);
  left = rows_of_shares (drop i xs);
  split = rows-split xs i;
  lines = lines;
  tally = these;
  done = done;
  written = refl;
}

pub tally-assoc : (a b c : Tally) → tally_sum (tally_sum a b) c ≡ tally_sum a (tally_sum b c)
tally-assoc a b c =
    let rows : a.rows + b.rows + c.rows ≡ a.rows + (b.rows + c.rows) = omega arith in
    let priced : a.priced + b.priced + c.priced ≡ a.priced + (b.priced + c.priced) = omega arith in
    let sum : a.sum + b.sum + c.sum ≡ a.sum + (b.sum + c.sum) = omega arith in
    λ i. record { rows = rows i; priced = priced i; sum = sum i }

pub all-places : (place : ℕ) (xs : List Share) → AreNumbered place xs → All HasPlaces xs
all-places place [] numbered k d within = absurd (omega (arith, within))
all-places place (x ∷ xs) numbered zero d within = numbered.1
all-places place (x ∷ xs) numbered (suc k) d within = all-places (place + length (rows_of_share x)) xs numbered.2 k d (omega (arith, within))

pub none-more : (tally : Tally) → tally ≡ tally_sum tally no_tally
none-more tally =
    let rows : tally.rows ≡ tally.rows + 0 = omega arith in
    let priced : tally.priced ≡ tally.priced + 0 = omega arith in
    let sum : tally.sum ≡ tally.sum + 0 = omega arith in
    λ i. record { rows = rows i; priced = priced i; sum = sum i }

-- no row more has a place than there are rows
pub few-more : (Answers : Row → FiguresSaid → Type 0) (place : ℕ) (xs : List Share) (i : ℕ) (lines : List ℕ) (these : Tally) → AreDone Answers place (rows_of_shares (take i xs)) lines these → these.rows ≤ length (rows_of_shares xs)
few-more Answers place xs i lines these done =
    omega (arith, done-rows Answers place (rows_of_shares (take i xs)) lines these done, rows-within xs i)
