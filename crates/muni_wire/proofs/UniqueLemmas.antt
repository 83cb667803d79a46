-- The bytes of a connection are read in one way.
use Rattle.std.proofs.Common.{◌≡◌, ◌<◌, ◌-◌, ℕ, List, Option, Some, None, Result, Ok, Err, ◌⊎◌, ◌++◌, length, take, refl, sym, subst, ap, IfSome, arith, ◌∙◌, inl, inr, []}
use Rattle.std.proofs.lemmas.List.{append-nil, take_all}
use Rattle.httparse.specs.Grammar.{RequestHead, ReadsRequest, HasNoRequest, print_request, MayBecomeRequest}
use Rattle.httparse.specs.Spans.{RequestExceeds}
use Rattle.httparse.proofs.GrammarLemmas.{request_unique}
use Rattle.muni_wire.specs.Head.{HasHead, IsNoHead, IsUnfinished, EndsInHead, head_limit, field_limit}
use Rattle.muni_wire.specs.Laws.{IsAmbiguous, IsCutOff, IsTheAnswer, answer_to}
use Rattle.muni_wire.specs.Awaited.{plan_of}
use Rattle.muni_wire.specs.Reading.{Reading, Whole, Faulty, Short, HeadAsks, carried_out, Reads, Allows}
use Rattle.muni_wire_body.specs.declared.look.Request.{Request}
use Rattle.muni_wire_body.specs.declared.fault.WireFault.{WireFault}
use Rattle.muni_wire_body.specs.declared.fault.WireFault.TheVariants as fault
use Rattle.muni_wire.proofs.CutLemmas.{cut}
use Rattle.muni_wire.proofs.FieldCountLemmas.{overflows}

-- what is left of the first bytes after a head
behind : RequestHead → List ℕ → List ℕ
behind h rest = take (head_limit - length (print_request h)) rest

-- a head within the limit is in the first bytes
in-front : (bytes : List ℕ) (h : RequestHead) (rest : List ℕ) → HasHead bytes h rest → ReadsRequest (take head_limit bytes) h (behind h rest)
unfolding behind
in-front bytes h rest has =
    (has.reads.0, ap (take head_limit) has.reads.1 ∙ cut head_limit (print_request h) rest has.short)

in-front-alone : (bytes : List ℕ) (h : RequestHead) (rest : List ℕ) → HasHead bytes h rest → ReadsRequest (take head_limit bytes ++ []) h (behind h rest)
in-front-alone bytes h rest has =
    subst (λ l. ReadsRequest l h (behind h rest)) (sym (append-nil (take head_limit bytes))) (in-front bytes h rest has)

not-never : (bytes : List ℕ) (h : RequestHead) (rest : List ℕ) → HasHead bytes h rest → IsNoHead bytes → ⊥
not-never bytes h rest has never = never [] h (behind h rest) (in-front-alone bytes h rest has)

not-unfinished : (bytes : List ℕ) (h : RequestHead) (rest : List ℕ) → HasHead bytes h rest → IsUnfinished (take head_limit bytes) → ⊥
not-unfinished bytes h rest has unfinished = unfinished.none h (behind h rest) (in-front bytes h rest has)

not-exceeds : (bytes : List ℕ) (h : RequestHead) (rest : List ℕ) → HasHead bytes h rest → RequestExceeds field_limit (take head_limit bytes) → ⊥
not-exceeds bytes h rest has many =
    let over : field_limit < length h.fields = overflows field_limit (take head_limit bytes) many [] h (behind h rest) (in-front-alone bytes h rest has) in
    omega (arith, over, has.few)

in-target : (bytes : List ℕ) → IsNoHead bytes → MayBecomeRequest (take head_limit bytes) → IsAmbiguous bytes
in-target bytes never (inl (more, h, reads)) = absurd (never more h [] reads)
in-target bytes never (inr ends) = inl (ends, never)

-- bytes that nothing makes a head hold none
never-now : (bytes : List ℕ) → IsNoHead bytes → HasNoRequest (take head_limit bytes)
never-now bytes never = subst HasNoRequest (append-nil (take head_limit bytes)) (never [])

ends-front : (bytes : List ℕ) → EndsInHead bytes → IsUnfinished (take head_limit bytes)
ends-front bytes ends = subst IsUnfinished (sym (take_all head_limit bytes (omega (arith, ends.0)))) ends.1

asked-once : (bytes : List ℕ) (a b : Reading) → HeadAsks bytes a → HeadAsks bytes b → a ≡ b
asked-once bytes a b x y =
    let same = request_unique bytes x.head y.head x.rest y.rest x.has.reads y.has.reads in
    x.asks ∙ ap (λ h. carried_out (plan_of h) x.rest) same.0 ∙ ap (λ l. carried_out (plan_of y.head) l) same.1 ∙ sym y.asks

-- bytes that begin with a head within the limits
pub heads-once : (bytes : List ℕ) (a b : Reading) → HeadAsks bytes a → Reads bytes b → a ≡ b
heads-once bytes a b x (inl y) = asked-once bytes a b x y
heads-once bytes a b x (inr (inl y)) = absurd (not-never bytes x.head x.rest x.has y.0)
heads-once bytes a b x (inr (inr (inl (inl y, _)))) = absurd (not-unfinished bytes x.head x.rest x.has y.1)
heads-once bytes a b x (inr (inr (inl (inr y, _)))) = absurd (not-exceeds bytes x.head x.rest x.has y)
heads-once bytes a b x (inr (inr (inr y))) = absurd (not-unfinished bytes x.head x.rest x.has (ends-front bytes y.0))

-- all bytes, in each pair of the four cases
pub reads-once : (bytes : List ℕ) (a b : Reading) → Reads bytes a → Reads bytes b → IsAmbiguous bytes ⊎ (a ≡ b)
reads-once bytes a b (inl x) y = inr (heads-once bytes a b x y)
reads-once bytes a b (inr x) (inl y) = inr (sym (heads-once bytes b a y (inr x)))
reads-once bytes a b (inr (inl x)) (inr (inl y)) = inr (x.1 ∙ sym y.1)
reads-once bytes a b (inr (inl x)) (inr (inr (inl (inl y, _)))) = inl (in-target bytes x.0 y.1.may)
reads-once bytes a b (inr (inl x)) (inr (inr (inl (inr y, _)))) = inl (inr (y, never-now bytes x.0))
reads-once bytes a b (inr (inl x)) (inr (inr (inr y))) = inl (in-target bytes x.0 (ends-front bytes y.0).may)
reads-once bytes a b (inr (inr (inl (inr x, _)))) (inr (inl y)) = inl (inr (x, never-now bytes y.0))
reads-once bytes a b (inr (inr (inl (inr x, e)))) (inr (inr (inl (_, f)))) = inr (e ∙ sym f)
reads-once bytes a b (inr (inr (inl (inr x, _)))) (inr (inr (inr y))) = inl (inr (x, (ends-front bytes y.0).none))
reads-once bytes a b (inr (inr (inl (inl x, _)))) (inr (inl y)) = inl (in-target bytes y.0 x.1.may)
reads-once bytes a b (inr (inr (inl (inl x, e)))) (inr (inr (inl (_, f)))) = inr (e ∙ sym f)
reads-once bytes a b (inr (inr (inl (inl x, _)))) (inr (inr (inr y))) = absurd (omega (arith, x.0, y.0.0))
reads-once bytes a b (inr (inr (inr x))) (inr (inl y)) = inl (in-target bytes y.0 (ends-front bytes x.0).may)
reads-once bytes a b (inr (inr (inr x))) (inr (inr (inl (inl y, _)))) = absurd (omega (arith, y.0, x.0.0))
reads-once bytes a b (inr (inr (inr x))) (inr (inr (inl (inr y, _)))) = inl (inr (y, (ends-front bytes x.0).none))
reads-once bytes a b (inr (inr (inr x))) (inr (inr (inr y))) = inr (x.1 ∙ sym y.1)

joined : (bytes : List ℕ) (result : Result Request WireFault) (a b : Reading) → result ≡ answer_to a → IsAmbiguous bytes ⊎ (a ≡ b)
    → IsAmbiguous bytes ⊎ IsCutOff result ⊎ (result ≡ answer_to b)
joined bytes result a b is (inl ambiguous) = inl ambiguous
joined bytes result a b is (inr same) = inr (inr (is ∙ ap answer_to same))

answers : (bytes : List ℕ) (result : Result Request WireFault) (a : Reading) → Reads bytes a → result ≡ answer_to a → IsTheAnswer bytes result
answers bytes result a reads is = record {
  whole = λ b asks. inr (is ∙ ap answer_to (sym (heads-once bytes b a asks reads)));
  one = λ b other. joined bytes result a b is (reads-once bytes a b reads other);
}

the-answer : (bytes : List ℕ) (result : Result Request WireFault) → Allows bytes result → IsTheAnswer bytes result
the-answer bytes (Ok request) allowed = answers bytes (Ok request) (Whole request) allowed refl
the-answer bytes (Err (fault.Bad kind)) allowed = answers bytes (Err (fault.Bad kind)) (Faulty kind) allowed refl
the-answer bytes (Err fault.Gone) allowed = answers bytes (Err fault.Gone) Short allowed refl
the-answer bytes (Err fault.LinkFault) allowed = record { whole = λ b asks. inl tt; one = λ b other. inr (inl tt) }
the-answer bytes (Err fault.NoMemory) allowed = record { whole = λ b asks. inl tt; one = λ b other. inr (inl tt) }

pub told_answer : (told : Option (List ℕ)) (result : Result Request WireFault) → IfSome told (λ bytes. Allows bytes result) → IfSome told (λ bytes. IsTheAnswer bytes result)
told_answer None result allowed = tt
told_answer (Some bytes) result allowed = the-answer bytes result allowed
