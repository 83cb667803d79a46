-- One trade more of a share, the shares of a book together, and the summary of its sums.
use Rattle.std.proofs.Common.{◌≡◌, ℕ, zero, suc, ◌+◌, ◌*◌, ◌%◌, ◌≤◌, fold, arith, cond, Bool, true, false, eqb, ltb, List, [], ◌∷◌, ◌++◌, length, refl, ap, sym, subst, ◌∙◌, add-one, inl, inr, Result, ℤ, pos, ◌+ℤ◌}
use Rattle.std.specs.Prelude.{count_by, sum_by, MatchBool}
use Rattle.std.proofs.Math.Nat.{mod-lt}
use Rattle.std.proofs.lemmas.Bool.{cases_Bool, cases_order, lt-ltb, le-ltb, eq-eqb, ne_eqb, MatchBool-at_true, MatchBool-at_false}
use Rattle.std.proofs.lemmas.Int.{ints}
use Rattle.std.proofs.lemmas.List.{length-append}
use Rattle.std.proofs.lemmas.List.Sums.{sum_by_push, fold_push}
use Rattle.muni_rule.specs.Payments.{PaymentSeries}
use Rattle.muni_rule.specs.WorthEnds.{WorthEnds}
use Rattle.muni_days.specs.Day.{civil}
use Rattle.muni_msg.specs.declared.figures.Figures.{Figures}
use Rattle.muni_msg.specs.declared.refusal.Refusal.{Refusal}
use Rattle.muni_desk.specs.Drill.{IsDrilled, IsBook, IsFollowed, IsPart, IsShare, is_dealt, IsSummed, IsSummary}
use Rattle.muni_desk.specs.Generator.{IsGenerated, state_after}
use Rattle.muni_desk.specs.Request.{IsAnswerOf}
use Rattle.muni_desk.specs.Sums.{Answered, AreSums, AreSmall, AreTogether, HaveAnswer, is_printed, is_undecided, is_outside, is_called_early, yield_of, accrued_of, summary_lines}
use Rattle.muni_desk.specs.declared.drill.options.DrillRequest.{DrillRequest}
use Rattle.muni_desk.specs.declared.drill.sums.Sums.{Sums}
use Rattle.muni_desk.specs.declared.request.QuoteRequest.{QuoteRequest}

-- a count with one trade more
count-more : (p : Answered → Bool) (book : List Answered) (it : Answered) (before after : ℕ) → after ≡ before + cond (p it) 1 0 → before ≡ count_by p book → after ≡ count_by p (book ++ it ∷ [])
count-more p book it before after more so_far =
    more ∙ ap (λ n. n + cond (p it) 1 0) so_far ∙ sym (sum_by_push (λ x. cond (p x) 1 0) book it)

sums-more : (book : List Answered) (it : Answered) (before after : Sums) → AreSums book before → HaveAnswer before (civil it.request.row.maturity) it.answer after → AreSums (book ++ it ∷ []) after
sums-more book it before after so_far more = record {
  trades = more.trades ∙ ap (λ n. n + 1) so_far.trades ∙ sym (length-append book (it ∷ []));
  printed = count-more (λ x. is_printed x.answer) book it before.printed after.printed more.printed so_far.printed;
  undecided = count-more (λ x. is_undecided x.answer) book it before.undecided after.undecided more.undecided so_far.undecided;
  outside = count-more (λ x. is_outside x.answer) book it before.outside after.outside more.outside so_far.outside;
  yields = more.yields ∙ ap (λ z. z +ℤ yield_of it.answer) so_far.yields ∙ sym (fold_push (λ total x. total +ℤ yield_of x.answer) (pos 0) book it);
  accrued = more.accrued ∙ ap (λ n. n + accrued_of it.answer) so_far.accrued ∙ sym (sum_by_push (λ x. accrued_of x.answer) book it);
  called = count-more is_called_early book it before.called after.called more.called so_far.called;
}

-- the part with the trade at a place, and without it
part-more : (ends : PaymentSeries → ℤ → WorthEnds) (chosen : ℕ → Bool) (seed place : ℕ) (earlier : List Answered) (it : Answered) → chosen place ≡ true → IsPart ends chosen seed place earlier → IsDrilled ends seed place it → IsPart ends chosen seed (suc place) (earlier ++ it ∷ [])
part-more ends chosen seed place earlier it here is drilled =
    let all = earlier ++ it ∷ [] in
    let followed : IsFollowed ends seed place earlier all = (it, drilled, refl) in
    (earlier, is, subst (λ b. MatchBool b (IsFollowed ends seed place earlier all) (all ≡ earlier)) (sym here) followed)

part-passed : (ends : PaymentSeries → ℤ → WorthEnds) (chosen : ℕ → Bool) (seed place : ℕ) (part : List Answered) → chosen place ≡ false → IsPart ends chosen seed place part → IsPart ends chosen seed (suc place) part
part-passed ends chosen seed place part not_here is =
    let same : part ≡ part = refl in
    (part, is, subst (λ b. MatchBool b (IsFollowed ends seed place part part) (part ≡ part)) (sym not_here) same)

-- no trade, one trade more, and one that is passed over
pub share-none : (ends : PaymentSeries → ℤ → WorthEnds) (chosen : ℕ → Bool) (seed : ℕ) (sums : Sums) → AreSums [] sums → AreSmall sums → IsShare ends chosen seed 0 sums
share-none ends chosen seed sums none small = record { part = []; is_part = refl; summed = none; small = small }

pub share-more : (ends : PaymentSeries → ℤ → WorthEnds) (chosen : ℕ → Bool) (seed place : ℕ) (request : QuoteRequest) (answer : Result Figures Refusal) (before after : Sums) → chosen place ≡ true → IsShare ends chosen seed place before → IsGenerated (state_after seed (7 * place)) request → IsAnswerOf ends request.row request.asked answer → HaveAnswer before (civil request.row.maturity) answer after → AreSmall after → IsShare ends chosen seed (place + 1) after
share-more ends chosen seed place request answer before after here so_far generated answered more small =
    let it : Answered = record { request = request; answer = answer } in
    let earlier = so_far.part in
    let is = part-more ends chosen seed place earlier it here so_far.is_part (record { generated = generated; answered = answered }) in
    record {
      part = earlier ++ it ∷ [];
      is_part = subst (λ n. IsPart ends chosen seed n (earlier ++ it ∷ [])) (sym (add-one place)) is;
      summed = sums-more earlier it before after so_far.summed more;
      small = small;
    }

pub share-passed : (ends : PaymentSeries → ℤ → WorthEnds) (chosen : ℕ → Bool) (seed place : ℕ) (sums : Sums) → chosen place ≡ false → IsShare ends chosen seed place sums → IsShare ends chosen seed (place + 1) sums
share-passed ends chosen seed place sums not_here so_far = record {
  part = so_far.part;
  is_part = subst (λ n. IsPart ends chosen seed n so_far.part) (sym (add-one place)) (part-passed ends chosen seed place so_far.part not_here so_far.is_part);
  summed = so_far.summed;
  small = so_far.small;
}

-- a share has no more trades than the book
part-length : (ends : PaymentSeries → ℤ → WorthEnds) (chosen : ℕ → Bool) (seed count : ℕ) (part : List Answered) → IsPart ends chosen seed count part → length part ≤ count
part-length ends chosen seed zero part none =
    let len : length part ≡ 0 = ap length none in
    omega (arith, len)
part-length ends chosen seed (suc count) part more =
    let earlier = more.0 in
    let before : length earlier ≤ count = part-length ends chosen seed count earlier more.1 in
    elim (cases_Bool (chosen count)) [
      | inl here ↦
          let followed = MatchBool-at_true (IsFollowed ends seed count earlier part) (part ≡ earlier) here more.2 in
          let len : length part ≡ length earlier + 1 = ap length followed.2 ∙ length-append earlier (followed.0 ∷ []) in
          omega (arith, len, before)
      | inr not_here ↦
          let same : part ≡ earlier = MatchBool-at_false (IsFollowed ends seed count earlier part) (part ≡ earlier) not_here more.2 in
          let len : length part ≡ length earlier = ap length same in
          omega (arith, len, before)
    ]

pub share-room : (ends : PaymentSeries → ℤ → WorthEnds) (chosen : ℕ → Bool) (seed count : ℕ) (sums : Sums) → IsShare ends chosen seed count sums → sums.trades ≤ count
share-room ends chosen seed count sums share =
    let len = part-length ends chosen seed count share.part share.is_part in
    omega (arith, len, share.summed.trades)

-- A list has the trades of two others, in some order.
abbrev total : (Answered → ℤ) → List Answered → ℤ
total g xs = fold (λ sum it. sum +ℤ g it) (pos 0) xs

total-push : (g : Answered → ℤ) (xs : List Answered) (it : Answered) → total g (xs ++ it ∷ []) ≡ total g xs +ℤ g it
total-push g xs it = fold_push (λ sum x. sum +ℤ g x) (pos 0) xs it

record AreMixed (ones others all : List Answered) : Type 0 where
  trades : length all ≡ length ones + length others
  sums : (g : Answered → ℕ) → sum_by g all ≡ sum_by g ones + sum_by g others
  totals : (g : Answered → ℤ) → total g all ≡ total g ones +ℤ total g others

mixed-none : (ones others : List Answered) → ones ≡ [] → others ≡ [] → AreMixed ones others []
mixed-none ones others a b =
    let none : AreMixed [] [] [] = record { trades = refl; sums = λ g. refl; totals = λ g. refl } in
    subst (λ xs. AreMixed xs others []) (sym a) (subst (λ ys. AreMixed [] ys []) (sym b) none)

mixed-first : (ones others all more same : List Answered) (it : Answered) → AreMixed ones others all → more ≡ ones ++ it ∷ [] → same ≡ others → AreMixed more same (all ++ it ∷ [])
mixed-first ones others all more same it mixed a b =
    let len : length (all ++ it ∷ []) ≡ length all + 1 = length-append all (it ∷ []) in
    let len_one : length (ones ++ it ∷ []) ≡ length ones + 1 = length-append ones (it ∷ []) in
    let next : AreMixed (ones ++ it ∷ []) others (all ++ it ∷ []) = record {
      trades = omega (arith, len, len_one, mixed.trades);
      sums = λ g. omega (arith, mixed.sums g, sum_by_push g all it, sum_by_push g ones it);
      totals = λ g. omega (arith, ints, mixed.totals g, total-push g all it, total-push g ones it);
    } in
    subst (λ xs. AreMixed xs same (all ++ it ∷ [])) (sym a) (subst (λ ys. AreMixed (ones ++ it ∷ []) ys (all ++ it ∷ [])) (sym b) next)

mixed-turned : (ones others all : List Answered) → AreMixed ones others all → AreMixed others ones all
mixed-turned ones others all mixed = record {
  trades = omega (arith, mixed.trades);
  sums = λ g. omega (arith, mixed.sums g);
  totals = λ g. omega (arith, ints, mixed.totals g);
}

sums-mixed : (ones others all : List Answered) (one other sums : Sums) → AreMixed ones others all → AreSums ones one → AreSums others other → AreTogether one other sums → AreSums all sums
sums-mixed ones others all one other sums mixed a b both = record {
  trades = both.trades ∙ (λ i. a.trades i + b.trades i) ∙ sym mixed.trades;
  printed = both.printed ∙ (λ i. a.printed i + b.printed i) ∙ sym (mixed.sums (λ x. cond (is_printed x.answer) 1 0));
  undecided = both.undecided ∙ (λ i. a.undecided i + b.undecided i) ∙ sym (mixed.sums (λ x. cond (is_undecided x.answer) 1 0));
  outside = both.outside ∙ (λ i. a.outside i + b.outside i) ∙ sym (mixed.sums (λ x. cond (is_outside x.answer) 1 0));
  yields = both.yields ∙ (λ i. a.yields i +ℤ b.yields i) ∙ sym (mixed.totals (λ x. yield_of x.answer));
  accrued = both.accrued ∙ (λ i. a.accrued i + b.accrued i) ∙ sym (mixed.sums (λ x. accrued_of x.answer));
  called = both.called ∙ (λ i. a.called i + b.called i) ∙ sym (mixed.sums (λ x. cond (is_called_early x) 1 0));
}

small-join : (one other sums : Sums) → AreSmall one → AreSmall other → AreTogether one other sums → AreSmall sums
small-join one other sums a b both = record {
  printed = omega (arith, a.printed, b.printed, both.printed, both.trades);
  undecided = omega (arith, a.undecided, b.undecided, both.undecided, both.trades);
  outside = omega (arith, a.outside, b.outside, both.outside, both.trades);
  yields_from = omega (arith, ints, a.yields_from, b.yields_from, both.yields, both.trades);
  yields_to = omega (arith, ints, a.yields_to, b.yields_to, both.yields, both.trades);
  accrued = omega (arith, a.accrued, b.accrued, both.accrued, both.trades);
  called = omega (arith, a.called, b.called, both.called, both.trades);
}

-- the trades of the first workers up to a number, and those of the next one
abbrev pub is_among : (workers first place : ℕ) → Bool
is_among workers first place = ltb (place % workers) first

record IsMixedPart (ends : PaymentSeries → ℤ → WorthEnds) (chosen : ℕ → Bool) (seed count : ℕ) (ones others : List Answered) : Type 0 where
  all : List Answered
  is_part : IsPart ends chosen seed count all
  mixed : AreMixed ones others all

parts-mixed : (ends : PaymentSeries → ℤ → WorthEnds) (workers worker seed count : ℕ) (ones others : List Answered) → IsPart ends (is_among workers worker) seed count ones → IsPart ends (is_dealt workers worker) seed count others → IsMixedPart ends (is_among workers (worker + 1)) seed count ones others
parts-mixed ends workers worker seed zero ones others a b = record { all = []; is_part = refl; mixed = mixed-none ones others a b }
parts-mixed ends workers worker seed (suc count) ones others a b =
    let k = count % workers in
    let next = is_among workers (worker + 1) in
    let before = parts-mixed ends workers worker seed count a.0 b.0 a.1 b.1 in
    let with_one = λ (here : ltb k worker ≡ true). MatchBool-at_true (IsFollowed ends seed count a.0 ones) (ones ≡ a.0) here a.2 in
    let not_one = λ (not_here : ltb k worker ≡ false). MatchBool-at_false (IsFollowed ends seed count a.0 ones) (ones ≡ a.0) not_here a.2 in
    let with_other = λ (here : eqb k worker ≡ true). MatchBool-at_true (IsFollowed ends seed count b.0 others) (others ≡ b.0) here b.2 in
    let not_other = λ (not_here : eqb k worker ≡ false). MatchBool-at_false (IsFollowed ends seed count b.0 others) (others ≡ b.0) not_here b.2 in
    elim (cases_order k worker) [
      | inl same ↦
          let one = not_one (le-ltb k worker (omega (arith, same))) in
          let other = with_other (eq-eqb k worker same) in
          record {
            all = before.all ++ other.0 ∷ [];
            is_part = part-more ends next seed count before.all other.0 (lt-ltb k (worker + 1) (omega (arith, same))) before.is_part other.1;
            mixed = mixed-turned others ones (before.all ++ other.0 ∷ []) (mixed-first b.0 a.0 before.all others ones other.0 (mixed-turned a.0 b.0 before.all before.mixed) other.2 one);
          }
      | inr (inl less) ↦
          let one = with_one (lt-ltb k worker less) in
          let other = not_other (ne_eqb k worker (λ e. omega (arith, e, less))) in
          record {
            all = before.all ++ one.0 ∷ [];
            is_part = part-more ends next seed count before.all one.0 (lt-ltb k (worker + 1) (omega (arith, less))) before.is_part one.1;
            mixed = mixed-first a.0 b.0 before.all ones others one.0 before.mixed one.2 other;
          }
      | inr (inr more) ↦
          let one = not_one (le-ltb k worker (omega (arith, more))) in
          let other = not_other (ne_eqb k worker (λ e. omega (arith, e, more))) in
          record {
            all = before.all;
            is_part = part-passed ends next seed count before.all (le-ltb k (worker + 1) (omega (arith, more))) before.is_part;
            mixed = subst (λ xs. AreMixed xs others before.all) (sym one) (subst (λ ys. AreMixed a.0 ys before.all) (sym other) before.mixed);
          }
    ]

-- The sums of the first workers up to a number, together.
pub joined-none : (ends : PaymentSeries → ℤ → WorthEnds) (workers seed count : ℕ) (sums : Sums) → AreSums [] sums → AreSmall sums → IsShare ends (is_among workers 0) seed count sums
joined-none ends workers seed zero sums none small = share-none ends (is_among workers 0) seed sums none small
joined-none ends workers seed (suc count) sums none small =
    let before = joined-none ends workers seed count sums none small in
    let not_here : is_among workers 0 count ≡ false = le-ltb (count % workers) 0 (omega arith) in
    subst (λ n. IsShare ends (is_among workers 0) seed n sums) (add-one count) (share-passed ends (is_among workers 0) seed count sums not_here before)

pub joined-room : (ends : PaymentSeries → ℤ → WorthEnds) (workers worker seed count : ℕ) (one other : Sums) → IsShare ends (is_among workers worker) seed count one → IsShare ends (is_dealt workers worker) seed count other → one.trades + other.trades ≤ count
joined-room ends workers worker seed count one other a b =
    let both = parts-mixed ends workers worker seed count a.part b.part a.is_part b.is_part in
    let len = part-length ends (is_among workers (worker + 1)) seed count both.all both.is_part in
    omega (arith, len, both.mixed.trades, a.summed.trades, b.summed.trades)

pub joined-more : (ends : PaymentSeries → ℤ → WorthEnds) (workers worker seed count : ℕ) (one other sums : Sums) → IsShare ends (is_among workers worker) seed count one → IsShare ends (is_dealt workers worker) seed count other → AreTogether one other sums → IsShare ends (is_among workers (worker + 1)) seed count sums
joined-more ends workers worker seed count one other sums a b together =
    let both = parts-mixed ends workers worker seed count a.part b.part a.is_part b.is_part in
    record {
      part = both.all;
      is_part = both.is_part;
      summed = sums-mixed a.part b.part both.all one other sums both.mixed a.summed b.summed together;
      small = small-join one other sums a.small b.small together;
    }

-- the trades of all workers are the book
book-whole : (ends : PaymentSeries → ℤ → WorthEnds) (workers seed count : ℕ) (part : List Answered) → 1 ≤ workers → IsPart ends (is_among workers workers) seed count part → IsBook ends seed count part
book-whole ends workers seed zero part some none = none
book-whole ends workers seed (suc count) part some more =
    let here : is_among workers workers count ≡ true = lt-ltb (count % workers) workers (mod-lt count some) in
    let followed = MatchBool-at_true (IsFollowed ends seed count more.0 part) (part ≡ more.0) here more.2 in
    (more.0, followed.0, book-whole ends workers seed count more.0 some more.1, followed.1, followed.2)

pub joined-all : (ends : PaymentSeries → ℤ → WorthEnds) (workers seed count : ℕ) (sums : Sums) → 1 ≤ workers → IsShare ends (is_among workers workers) seed count sums → IsSummed ends seed count sums
joined-all ends workers seed count sums some share = record {
  book = share.part;
  is_book = book-whole ends workers seed count share.part some share.is_part;
  summed = share.summed;
}

-- the lines of the sums are the summary of their book
pub summary-shown : (ends : PaymentSeries → ℤ → WorthEnds) (request : DrillRequest) (sums : Sums) (text : List ℕ) → IsSummed ends request.seed request.count sums → text ≡ summary_lines sums.trades sums.printed sums.undecided sums.outside sums.yields sums.accrued sums.called → IsSummary ends request text
summary-shown ends request sums text summed is =
    let s = summed.summed in
    (summed.book, summed.is_book, is ∙ (λ i. summary_lines (s.trades i) (s.printed i) (s.undecided i) (s.outside i) (s.yields i) (s.accrued i) (s.called i)))
