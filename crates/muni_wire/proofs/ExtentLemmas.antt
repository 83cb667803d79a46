-- How far the bytes of a connection are read.
use Rattle.std.proofs.Common.{◌≡◌, ◌≤◌, ◌<◌, ◌+◌, ◌-◌, ℕ, max, List, [], ◌++◌, Option, Some, None, IfSome, length, take, drop, refl, sym, ap, subst, arith, inl, inr, ◌∙◌}
use Rattle.std.specs.Io.KnownBytes.{Consumes}
use Rattle.std.proofs.lemmas.Bool.{cases_lt}
use Rattle.std.proofs.lemmas.List.{append_assoc, length-append, length-drop, take_at}
use Rattle.httparse.specs.Grammar.{RequestHead, print_request, HasNoRequest, ReadsRequest}
use Rattle.httparse.proofs.GrammarLemmas.{request_unique}
use Rattle.muni_wire.specs.Awaited.{plan_of}
use Rattle.muni_edge.specs.declared.source.Source as source
use Rattle.muni_wire.specs.Extent.{IsTake, TakesOnlyWhile, AwaitsMore, TakesAtMost, TakesHead, IsNoFurther, ReadsNoFurther, awaited_size, piece_limit}
use Rattle.muni_wire.specs.Head.{HasHead, head_limit}
use Rattle.muni_wire.specs.Taken.{IsWholeAt}
use Rattle.muni_wire_body.specs.declared.form.Form.{Form}
use Rattle.muni_wire.specs.declared.head.Awaited.TheVariants as plan
use Rattle.muni_wire.proofs.CutLemmas.{cut}
use Rattle.muni_wire.proofs.TakenLemmas.{none-taken, both-taken}

-- ---- pieces

pub nothing : (count : ℕ) (old new : Option (List ℕ)) → new ≡ old → TakesAtMost count old new
nothing count old new same = record { piece = []; taken = subst (λ n. Consumes old n []) (sym same) (none-taken old); few = omega arith }

pub fewer : (count most : ℕ) (old new : Option (List ℕ)) → count ≤ most → TakesAtMost count old new → TakesAtMost most old new
fewer count most old new fits takes = record { piece = takes.piece; taken = takes.taken; few = omega (arith, fits, takes.few) }

-- what was taken, and then a piece
pub one-more : {L : Type 0} (takes : source.Ghosts L) (had items piece : List ℕ) (limit count : ℕ) (old mid new : L) → Consumes (takes.left old) (takes.left mid) piece → items ≡ had ++ piece
    → length items ≤ limit → count ≤ limit - length items → IsTake takes count mid new → TakesAtMost (limit - length had) (takes.left old) (takes.left new)
one-more takes had items piece limit count old mid new took is inside fits next =
    record {
      piece = piece ++ next.piece;
      taken = both-taken (takes.left old) (takes.left mid) (takes.left new) piece next.piece (piece ++ next.piece) took next.taken refl;
      few = omega (arith, length-append piece next.piece, ap length is, length-append had piece, inside, fits, next.few);
    }

abbrev wider : {L : Type 0} (takes : source.Ghosts L) (count most : ℕ) (old new : L) → count ≤ most → IsTake takes count old new → IsTake takes most old new
wider takes count most old new fits next = record { piece = next.piece; taken = next.taken; few = omega (arith, fits, next.few); keeps = next.keeps }

-- and while less than a limit was there
pub one-ready : {L : Type 0} (takes : source.Ghosts L) (had items piece : List ℕ) (limit count : ℕ) (old mid new : L) → Consumes (takes.left old) (takes.left mid) piece → items ≡ had ++ piece
    → length items < limit → count ≤ piece_limit → IsTake takes count mid new → TakesOnlyWhile takes (λ before. length had + length before < limit) old new
one-ready takes had items piece limit count old mid new took is short fits next =
    inr (record {
      mid = mid;
      before = piece;
      taken = took;
      such = omega (arith, ap length is, length-append had piece, short);
      last = wider takes count piece_limit mid new fits next;
    })

pub for-head : {L : Type 0} (takes : source.Ghosts L) (before : List ℕ) (count : ℕ) (old mid new : L) → Consumes (takes.left old) (takes.left mid) before → HasNoRequest before
    → length before ≤ head_limit → count ≤ piece_limit → count ≤ head_limit - length before → IsTake takes count mid new → TakesHead takes old new
for-head takes before count old mid new took none inside fits room next =
    let most : length (before ++ next.piece) ≤ head_limit = omega (arith, length-append before next.piece, inside, room, next.few) in
    record {
      takes_last = record { mid = mid; before = before; taken = took; such = none; last = wider takes count piece_limit mid new fits next };
      most = most;
    }

-- all that was taken for a head
head-taken : {L : Type 0} (takes : source.Ghosts L) (old new : L) (t : TakesHead takes old new) → Consumes (takes.left old) (takes.left new) (t.takes_last.before ++ t.takes_last.last.piece)
head-taken takes old new t =
    let last = t.takes_last in
    both-taken (takes.left old) (takes.left last.mid) (takes.left new) last.before last.last.piece (last.before ++ last.last.piece) last.taken last.last.taken refl

-- ---- no further than a request

-- a head at the front is longer than bytes at the front that hold none
pub head-longer : (all before behind : List ℕ) (h : RequestHead) (rest : List ℕ) → all ≡ before ++ behind → HasNoRequest before → ReadsRequest all h rest
    → length before < length (print_request h)
head-longer all before behind h rest is none reads =
    elim (cases_lt (length before) (length (print_request h))) [
      | inl short ↦ short
      | inr long ↦ absurd (none h (take (length before - length (print_request h)) rest) (
        reads.0,
        sym (take_at before behind (length before) refl) ∙ ap (take (length before)) (sym is ∙ reads.1) ∙ cut (length before) (print_request h) rest long,
      ))
    ]

no-further : (all before last rest : List ℕ) → all ≡ (before ++ last) ++ rest → HasNoRequest before → length last ≤ piece_limit → length (before ++ last) ≤ head_limit
    → IsNoFurther all (length (before ++ last))
no-further all before last rest is none few most = record {
  head = λ h tail has.
      let longer = head-longer all before (last ++ rest) h tail (is ∙ append_assoc before last rest) none has.reads in
      omega (arith, longer, few, length-append before last);
  none = λ _. most;
}

told-head : (old new : Option (List ℕ)) (before last : List ℕ) → Consumes old new (before ++ last) → HasNoRequest before → length last ≤ piece_limit → length (before ++ last) ≤ head_limit
    → IfSome old (λ bytes. IsNoFurther bytes (length (before ++ last)))
told-head None new before last took none few most = tt
told-head (Some all) None before last took none few most = absurd took
told-head (Some all) (Some rest) before last took none few most = no-further all before last rest took none few most

pub head_no_further : {L : Type 0} (takes : source.Ghosts L) (old new : L) → TakesHead takes old new → ReadsNoFurther (takes.left old) (takes.left new)
head_no_further takes old new t =
    let last = t.takes_last in
    let taken = head-taken takes old new t in
    record {
      piece = last.before ++ last.last.piece;
      taken = taken;
      few = told-head (takes.left old) (takes.left new) last.before last.last.piece taken last.such last.last.few t.most;
    }

-- a head and its body
with-body : (all left before last items piece : List ℕ) (end size : ℕ) (form : Form)
    → all ≡ (before ++ last) ++ left → all ≡ items ++ left → HasNoRequest before → length last ≤ piece_limit
    → IsWholeAt items end (plan.Read form size) → length piece ≤ end + size - length items
    → IsNoFurther all (length ((before ++ last) ++ piece))
with-body all left before last items piece end size form took had none short whole few =
    let w = whole left in
    let h = w.1 in
    let reads = subst (λ l. ReadsRequest l h (drop end items ++ left)) (sym had) w.2.reads in
    let longer = head-longer all before (last ++ left) h (drop end items ++ left) (took ∙ append_assoc before last left) none reads in
    let same : length (before ++ last) ≡ length items =
    omega (arith, ap length took, ap length had, length-append (before ++ last) left, length-append items left) in
    let place : length (print_request h) ≡ end =
    omega (arith, w.0, ap length w.2.reads.1, length-append items left, length-append (print_request h) (drop end items ++ left), length-append (drop end items) left, length-drop end items) in
    let wanted : size ≡ awaited_size (plan_of h) = ap awaited_size w.3 in
    let count : length ((before ++ last) ++ piece) ≤ length (print_request h) + max 1_023 (awaited_size (plan_of h)) =
    omega (arith, longer, same, place, wanted, short, few, length-append before last, length-append (before ++ last) piece) in
    record {
      head = λ other tail has.
          subst (λ (k : RequestHead). length ((before ++ last) ++ piece) ≤ length (print_request k) + max 1_023 (awaited_size (plan_of k)))
          (sym (request_unique all other h tail (drop end items ++ left) has.reads reads).0) count;
      none = λ no. absurd (no h (drop end items ++ left) (subst (λ l. HasHead l h (drop end items ++ left)) (sym had) w.2));
    }

told-body : (old mid new : Option (List ℕ)) (before last items piece : List ℕ) (end size : ℕ) (form : Form)
    → Consumes old mid (before ++ last) → Consumes old mid items → HasNoRequest before → length last ≤ piece_limit
    → IsWholeAt items end (plan.Read form size) → Consumes mid new piece → length piece ≤ end + size - length items
    → IfSome old (λ bytes. IsNoFurther bytes (length ((before ++ last) ++ piece)))
told-body None mid new before last items piece end size form took had none short whole then few = tt
told-body (Some all) None new before last items piece end size form took had none short whole then few = absurd took
told-body (Some all) (Some left) new before last items piece end size form took had none short whole then few =
    with-body all left before last items piece end size form took had none short whole few

pub body_no_further : {L : Type 0} (takes : source.Ghosts L) (old mid new : L) (items : List ℕ) (end size : ℕ) (form : Form) → TakesHead takes old mid
    → Consumes (takes.left old) (takes.left mid) items → IsWholeAt items end (plan.Read form size) → TakesAtMost (end + size - length items) (takes.left mid) (takes.left new)
    → ReadsNoFurther (takes.left old) (takes.left new)
body_no_further takes old mid new items end size form t had whole body =
    let last = t.takes_last in
    let taken = head-taken takes old mid t in
    record {
      piece = (last.before ++ last.last.piece) ++ body.piece;
      taken = both-taken (takes.left old) (takes.left mid) (takes.left new) (last.before ++ last.last.piece) body.piece ((last.before ++ last.last.piece) ++ body.piece) taken body.taken refl;
      few = told-body (takes.left old) (takes.left mid) (takes.left new) last.before last.last.piece items body.piece end size form taken had last.such last.last.few whole body.taken body.few;
    }

-- ---- only while more is awaited

pub head_ready : {L : Type 0} (takes : source.Ghosts L) (old new : L) → TakesHead takes old new → TakesOnlyWhile takes AwaitsMore old new
head_ready takes old new t =
    let last = t.takes_last in
    inr (record { mid = last.mid; before = last.before; taken = last.taken; such = λ h rest reads. absurd (last.such h rest reads); last = last.last })

-- a head that has come, and less than its body
awaits-body : (items piece : List ℕ) (end size : ℕ) (form : Form) → IsWholeAt items end (plan.Read form size) → length items + length piece < end + size → AwaitsMore (items ++ piece)
awaits-body items piece end size form whole short h rest reads =
    let w = whole piece in
    let same = request_unique (items ++ piece) w.1 h (drop end items ++ piece) rest w.2.reads reads in
    let wanted : size ≡ awaited_size (plan_of h) = ap awaited_size w.3 ∙ ap (λ (k : RequestHead). awaited_size (plan_of k)) same.0 in (
      subst (λ l. HasHead (items ++ piece) h l) same.1 (subst (λ (k : RequestHead). HasHead (items ++ piece) k (drop end items ++ piece)) same.0 w.2),
      omega (arith, w.0, short, wanted, ap length same.1, length-append (drop end items) piece, length-drop end items),
    )

pub body_ready : {L : Type 0} (takes : source.Ghosts L) (old mid new : L) (items : List ℕ) (end size : ℕ) (form : Form) → TakesHead takes old mid
    → Consumes (takes.left old) (takes.left mid) items → IsWholeAt items end (plan.Read form size)
    → TakesOnlyWhile takes (λ before. length items + length before < end + size) mid new → TakesOnlyWhile takes AwaitsMore old new
body_ready takes old mid new items end size form t had whole (inl same) = subst (λ n. TakesOnlyWhile takes AwaitsMore old n) (sym same) (head_ready takes old mid t)
body_ready takes old mid new items end size form t had whole (inr last) =
    inr (record {
      mid = last.mid;
      before = items ++ last.before;
      taken = both-taken (takes.left old) (takes.left mid) (takes.left last.mid) items last.before (items ++ last.before) had last.taken refl;
      such = awaits-body items last.before end size form whole last.such;
      last = last.last;
    })
