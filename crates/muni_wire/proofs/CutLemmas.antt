-- What holds of the first bytes of a connection holds when more come.
use Rattle.std.proofs.Common.{◌≡◌, ◌≤◌, ◌-◌, ◌+◌, ℕ, List, ◌++◌, length, take, arith, subst, ap, ◌∙◌, inr}
use Rattle.std.proofs.Math.Seq.{take-append-add}
use Rattle.std.proofs.lemmas.List.{append_assoc}
use Rattle.httparse.specs.Grammar.{NeverHasRequest, ReadsRequest}
use Rattle.httparse.specs.Spans.{RequestExceeds}
use Rattle.muni_wire.specs.Head.{IsNoHead, IsHeadTooLarge, head_limit, field_limit}

pub cut : (n : ℕ) (xs ys : List ℕ) → length xs ≤ n → take n (xs ++ ys) ≡ xs ++ take (n - length xs) ys
cut n xs ys short =
    let all : length xs + (n - length xs) ≡ n = omega arith in
    subst (λ k. take k (xs ++ ys) ≡ xs ++ take (n - length xs) ys) all (take-append-add xs ys (n - length xs))

pub never-later : (bytes more : List ℕ) → length bytes ≤ head_limit → NeverHasRequest bytes → IsNoHead (bytes ++ more)
never-later bytes more short never behind head rest reads =
    never (take (head_limit - length bytes) more ++ behind) head rest
    (subst (λ l. ReadsRequest l head rest) (ap (λ l. l ++ behind) (cut head_limit bytes more short) ∙ append_assoc bytes (take (head_limit - length bytes) more) behind) reads)

pub exceeds-later : (bytes more : List ℕ) → length bytes ≤ head_limit → RequestExceeds field_limit bytes → IsHeadTooLarge (bytes ++ more)
exceeds-later bytes more short (front, rest, is, head, reads, many) =
    let behind = take (head_limit - length bytes) more in
    inr (front, rest ++ behind, cut head_limit bytes more short ∙ ap (λ l. l ++ behind) is ∙ append_assoc front rest behind, head, reads, many)
