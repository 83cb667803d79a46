-- Calls of a body that are read one after another.
use Rattle.std.proofs.Common.{◌≡◌, ◌≤◌, ◌<◌, ◌+◌, ℕ, List, [], ◌∷◌, ◌++◌, length, drop, get_or, map, Option, Some, None, option_map, codes, nat_le, true, false, refl, sym, ap, ◌∙◌, arith}
use Rattle.std.proofs.lemmas.List.{at_drop_more, at_drop_all, append-nil, append_assoc}
use Rattle.std.proofs.lemmas.Bool.Decides.{nat_tests}
use Rattle.serde_json.specs.Data.{Data}
use Rattle.serde_json.specs.Find.{get, as_array}
use Rattle.serde_json.specs.View.{items_of}
use Rattle.muni_terms.specs.declared.row.Call.{Call}
use Rattle.muni_msg.specs.Fields.{◌>>=◌}
use Rattle.muni_wire_body.specs.Calls.{call_in, calls_in, each_call, few_calls, listed}

-- calls that were read, and others after them, if those read
abbrev pub with_more : List Call → Option (List Call) → Option (List Call)
with_more calls more = option_map (λ rest. calls ++ rest) more

more-by : (before : List Call) (call : Call) (rest : Option (List Call)) → with_more (before ++ call ∷ []) rest ≡ with_more before (rest >>= λ calls. Some (call ∷ calls))
more-by before call None = refl
more-by before call (Some calls) = ap Some (append_assoc before (call ∷ []) calls)

rest-at : {A : Type 0} (f : A → Data) (items : List A) (i : ℕ) (x : A) → i < length items → x ≡ get_or items i x
    → each_call (map f (drop i items)) ≡ each_call (f x ∷ map f (drop (i + 1) items))
rest-at f items i x inside is = at_drop_more (λ ys. each_call (map f ys)) items i x inside ∙ ap (λ y. each_call (f y ∷ map f (drop (i + 1) items))) (sym is)

pub one-more : {A : Type 0} (f : A → Data) (items : List A) (i : ℕ) (x : A) (call : Call) (done : List Call) (all : Option (List Call))
    → i < length items → x ≡ get_or items i x → call_in (f x) ≡ Some call
    → with_more done (each_call (map f (drop i items))) ≡ all
    → with_more (done ++ call ∷ []) (each_call (map f (drop (i + 1) items))) ≡ all
unfolding each_call
one-more f items i x call done all inside is reads before =
    let rest = each_call (map f (drop (i + 1) items)) in
    more-by done call rest ∙ ap (λ o. with_more done (o >>= λ c. rest >>= λ calls. Some (c ∷ calls))) (sym reads)
    ∙ ap (with_more done) (sym (rest-at f items i x inside is)) ∙ before

pub not-one : {A : Type 0} (f : A → Data) (items : List A) (i : ℕ) (x : A) (done : List Call) (all : Option (List Call))
    → i < length items → x ≡ get_or items i x → call_in (f x) ≡ None
    → with_more done (each_call (map f (drop i items))) ≡ all → None ≡ all
unfolding each_call
not-one f items i x done all inside is reads before =
    let rest = each_call (map f (drop (i + 1) items)) in
    ap (λ o. with_more done (o >>= λ c. rest >>= λ calls. Some (c ∷ calls))) (sym reads)
    ∙ ap (with_more done) (sym (rest-at f items i x inside is)) ∙ before

pub no-more : {A : Type 0} (f : A → Data) (items : List A) (i : ℕ) (done : List Call) (all : Option (List Call)) → length items ≤ i
    → with_more done (each_call (map f (drop i items))) ≡ all → Some done ≡ all
unfolding each_call
no-more f items i done all end before =
    ap Some (sym (append-nil done)) ∙ ap (with_more done) (sym (at_drop_all (λ ys. each_call (map f ys)) items i end)) ∙ before

-- ---- the array of a body

listed-items : (values : List Data) → listed (items_of values) ≡ values
listed-items [] = refl
listed-items (value ∷ values) = ap (λ l. value ∷ l) (listed-items values)

calls-found : (whole found : Data) (values : List Data) → get (codes "calls") whole ≡ Some found → as_array found ≡ Some (items_of values) → calls_in whole ≡ few_calls values
calls-found whole found values is array = rw (is, array) (ap few_calls (listed-items values))

pub calls-few : (whole found : Data) (values : List Data) → get (codes "calls") whole ≡ Some found → as_array found ≡ Some (items_of values) → length values ≤ 40 → each_call values ≡ calls_in whole
calls-few whole found values is array few =
    let e : nat_le (length values) 40 ≡ true = grind (arith, nat_tests) in
    sym (calls-found whole found values is array ∙ rw e refl)

pub calls-many : (whole found : Data) (values : List Data) → get (codes "calls") whole ≡ Some found → as_array found ≡ Some (items_of values) → 40 < length values → None ≡ calls_in whole
calls-many whole found values is array many =
    let e : nat_le (length values) 40 ≡ false = grind (arith, nat_tests) in
    sym (calls-found whole found values is array ∙ rw e refl)
