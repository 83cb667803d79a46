-- What pieces that are taken one after another say of all bytes.
use Rattle.std.proofs.Common.{◌≡◌, ◌<◌, ◌≤◌, ◌+◌, inl, inr, ◌∙◌, ℕ, List, [], ◌++◌, Option, Some, None, Result, Err, length, refl, sym, ap, subst, IfErr, IfSome, arith}
use Rattle.std.proofs.lemmas.List.{append-nil, append_assoc, length-append}
use Rattle.std.specs.Io.KnownBytes.{Consumes, IsAtEnd}
use Rattle.muni_edge.specs.Faults.{Rose}
use Rattle.muni_edge.specs.declared.source.Source.{Ghosts}
use Rattle.muni_desk_io.specs.Input.{CountsReads, IsNotTooLarge, ReadsAll}
use Rattle.muni_desk_io.specs.declared.input.InputFault.{InputFault}
use Rattle.muni_desk_io.specs.declared.input.InputFault.TheVariants.{Failed, TooLarge, NoMemory}

-- one piece after another
pub taken-then : (a b c : Option (List ℕ)) (xs ys zs : List ℕ) → Consumes a b xs → Consumes b c ys → zs ≡ xs ++ ys → Consumes a c zs
taken-then None b c xs ys zs first second is = tt
taken-then (Some all) None c xs ys zs first second is = absurd first
taken-then (Some all) (Some left) None xs ys zs first second is = absurd second
taken-then (Some all) (Some left) (Some rest) xs ys zs first second is =
    rw is (first ∙ ap (λ l. xs ++ l) second ∙ sym (append_assoc xs ys rest))

-- at the end they are all
pub taken-whole : (old new : Option (List ℕ)) (bytes : List ℕ) → Consumes old new bytes → IsAtEnd new → IfSome old (λ all. (all ≡ bytes) × (new ≡ Some []))
taken-whole None new bytes taken end = tt
taken-whole (Some all) None bytes taken end = absurd taken
taken-whole (Some all) (Some rest) bytes taken end = (taken ∙ ap (λ l. bytes ++ l) end ∙ append-nil bytes, ap Some end)

-- an input that is read whole has no more bytes than the limit
pub few-read : (left : Option (List ℕ)) (items rest : List ℕ) (n : ℕ) (after : Option (List ℕ)) → IfSome left (λ all. (all ≡ items) × (after ≡ Some rest)) → length items ≤ n → IfSome left (λ all. length all ≤ n)
few-read None items rest n after whole few = tt
few-read (Some all) items rest n after whole few = subst (λ l. length l ≤ n) (sym whole.0) few

-- there are no fewer than were taken
pub taken-more : (n : ℕ) (old new : Option (List ℕ)) (bytes : List ℕ) → Consumes old new bytes → n < length bytes → IfSome old (λ all. n < length all)
taken-more n None new bytes taken many = tt
taken-more n (Some all) None bytes taken many = absurd taken
taken-more n (Some all) (Some rest) bytes taken many = omega (arith, many, ap length taken, length-append bytes rest)

-- nothing is read if one take more is refused
pub none-read : {I V : Type 0} (source : Ghosts I) (limit : ℕ) (items : V → List ℕ) (r : Result ℕ InputFault) (fault : InputFault) (out : Result V InputFault) (first mid last : I) (bytes piece : List ℕ)
    → r ≡ Err fault → out ≡ Err fault → IfErr r IsNotTooLarge → Consumes (source.left first) (source.left mid) bytes → source.faults mid ≡ source.faults first
    → Consumes (source.left mid) (source.left last) piece → length bytes + length piece ≤ limit + 1
    → CountsReads r (source.faults mid) (source.faults last) → source.faults mid ≤ source.faults last → ReadsAll source limit out items first last
none-read source limit items r Failed out first mid last bytes piece is ends other taken none more few counts later =
    let rose : Rose (source.faults mid) (source.faults last) = rw is at counts in
    rw ends record {
      whole = tt;
      few = tt;
      too_large = λ never. absurd (cc never);
      limited = (bytes ++ piece, taken-then (source.left first) (source.left mid) (source.left last) bytes piece (bytes ++ piece) taken more refl, omega (arith, few, length-append bytes piece));
      later = omega (arith, none, later);
      failed = λ _. subst (λ n. Rose n (source.faults last)) none rose;
      uncounted = inr refl;
    }
none-read source limit items r NoMemory out first mid last bytes piece is ends other taken none more few counts later =
    let same : source.faults last ≡ source.faults mid = rw is at counts in
    rw ends record {
      whole = tt;
      few = tt;
      too_large = λ never. absurd (cc never);
      limited = (bytes ++ piece, taken-then (source.left first) (source.left mid) (source.left last) bytes piece (bytes ++ piece) taken more refl, omega (arith, few, length-append bytes piece));
      later = omega (arith, none, later);
      failed = λ never. absurd (cc never);
      uncounted = inl (same ∙ none);
    }
none-read source limit items r TooLarge out first mid last bytes piece is ends other taken none more few counts later = absurd (rw is at other)
