use Rattle.std.proofs.Common.{◌≡◌, ℕ, suc, List, [], ◌∷◌, length, drop, refl, sym, ap, ◌∙◌, arith}
use Rattle.std.specs.Prelude.{min}
use native.Mathlib.Numerals.{unary_clauses}
use Rattle.std.specs.Ordering.{nat_cmp}
use Rattle.std.specs.declared.cmp.Ordering.TheVariants.{Less, Greater}
use Rattle.std.proofs.lemmas.Bool.Decides.{nat_tests}
use Rattle.std.specs.Cmp.Lexicographic.{slice_cmp}
use Rattle.muni_msg.proofs.names.order.Goals as goal

none_below : (n : ℕ) → nat_cmp 0 (suc n) ≡ Less
none_below n = grind (arith, nat_tests)

none_above : (n : ℕ) → nat_cmp (suc n) 0 ≡ Greater
none_above n = grind (arith, nat_tests)

both_more : (m n : ℕ) → nat_cmp (suc m) (suc n) ≡ nat_cmp m n
both_more m n = grind (arith, nat_tests)

-- past the shorter of two names, the lengths answer
past_shorter : (xs ys : List ℕ) → nat_cmp (length xs) (length ys) ≡ slice_cmp nat_cmp (drop (min (length xs) (length ys)) xs) (drop (min (length xs) (length ys)) ys)
past_shorter [] [] = refl
past_shorter [] (y ∷ ys) = simp unary_clauses (none_below (length ys))
past_shorter (x ∷ xs) [] = simp unary_clauses (none_above (length xs))
past_shorter (x ∷ xs) (y ∷ ys) = simp unary_clauses (both_more (length xs) (length ys) ∙ past_shorter xs ys)

pub returns : goal.returns
returns c =
    let xs = c.args.first.now in
    let ys = c.args.second.now in
    let at_end : c.loop-place.place ≡ min (length xs) (length ys) = omega arith in
    c.cmp-2.ensures ∙ past_shorter xs ys ∙ ap (λ (i : ℕ). slice_cmp nat_cmp (drop i xs) (drop i ys)) (sym at_end) ∙ c.loop-place.invariant
