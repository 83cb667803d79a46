-- What an answer says of all bytes of a connection.
use Rattle.std.proofs.Common.{◌≡◌, ◌≤◌, ◌+◌, ◌-◌, ℕ, List, Option, Some, None, Result, Ok, Err, false, nat_lt, ◌++◌, length, take, drop, refl, sym, subst, ap, IfSome, IfOk, IfErr, arith, ◌∙◌, inl, inr}
use Rattle.std.proofs.lemmas.List.{drop-append-le, take-append-le, append_assoc, length-append, length-drop}
use Rattle.std.proofs.lemmas.Bool.Decides.{nat_tests}
use Rattle.std.specs.Io.KnownBytes.{Consumes, IsAtEnd}
use Rattle.muni_wire_body.specs.Body.{request_of}
use Rattle.muni_wire_body.specs.Faults.{IsOfBody}
use Rattle.muni_wire.specs.Head.{IsNoHead, IsHeadTooLarge, EndsInHead}
use Rattle.muni_wire.specs.Reading.{Reading, Whole, Faulty, Short, carried_out, of_body, Reads, Allows}
use Rattle.muni_wire.specs.Taken.{IsWholeAt, IsAnswerTo}
use Rattle.muni_wire_body.specs.declared.look.Request.{Request}
use Rattle.muni_wire_body.specs.declared.fault.Bad.{Bad}
use Rattle.muni_wire_body.specs.declared.fault.Bad.TheVariants as bad
use Rattle.muni_wire_body.specs.declared.fault.WireFault.{WireFault}
use Rattle.muni_wire_body.specs.declared.fault.WireFault.TheVariants as fault
use Rattle.muni_wire_body.specs.declared.form.Form.{Form}
use Rattle.muni_wire.specs.declared.head.Awaited.{Awaited}
use Rattle.muni_wire.specs.declared.head.Awaited.TheVariants as plan
use Rattle.muni_wire.proofs.TakenLemmas.{told, told-at-end}

asks : (bytes more : List ℕ) (end : ℕ) (p : Awaited) (reading : Reading) → IsWholeAt bytes end p
    → reading ≡ carried_out p (drop end bytes ++ more) → Reads (bytes ++ more) reading
asks bytes more end p reading whole is =
    let w = whole more in
    inl (record { head = w.1; rest = drop end bytes ++ more; has = w.2; asks = is ∙ ap (λ q. carried_out q (drop end bytes ++ more)) w.3 })

pub refused : (old new : Option (List ℕ)) (bytes : List ℕ) (end : ℕ) (kind : Bad) → Consumes old new bytes
    → IsWholeAt bytes end (plan.Refuse kind) → IfSome old (λ all. Allows all (Err (fault.Bad kind)))
refused old new bytes end kind took whole =
    told (λ all. Reads all (Faulty kind)) old new bytes took (λ more. asks bytes more end (plan.Refuse kind) (Faulty kind) whole refl)

pub asked : (old new : Option (List ℕ)) (bytes : List ℕ) (end : ℕ) (request : Request) → Consumes old new bytes
    → IsWholeAt bytes end (plan.Ask request) → IfSome old (λ all. Allows all (Ok request))
asked old new bytes end request took whole =
    told (λ all. Reads all (Whole request)) old new bytes took (λ more. asks bytes more end (plan.Ask request) (Whole request) whole refl)

pub no-head : (old new : Option (List ℕ)) (bytes : List ℕ) → Consumes old new bytes
    → ((more : List ℕ) → IsNoHead (bytes ++ more)) → IfSome old (λ all. Allows all (Err (fault.Bad bad.BadRequest)))
no-head old new bytes took none =
    told (λ all. Reads all (Faulty bad.BadRequest)) old new bytes took (λ more. inr (inl (none more, refl)))

pub large-head : (old new : Option (List ℕ)) (bytes : List ℕ) → Consumes old new bytes
    → ((more : List ℕ) → IsHeadTooLarge (bytes ++ more)) → IfSome old (λ all. Allows all (Err (fault.Bad bad.HeadTooLarge)))
large-head old new bytes took large =
    told (λ all. Reads all (Faulty bad.HeadTooLarge)) old new bytes took (λ more. inr (inr (inl (large more, refl))))

pub short-head : (old new : Option (List ℕ)) (bytes : List ℕ) → Consumes old new bytes
    → EndsInHead bytes × IsAtEnd new → IfSome old (λ all. Allows all (Err fault.Gone))
short-head old new bytes took (ends, end) =
    told-at-end (λ all. Reads all Short) old new bytes took end (inr (inr (inr (ends, refl))))

-- ---- a body

allowed-body : (bytes left : List ℕ) (end size : ℕ) (form : Form) (result : Result Request WireFault) → IsWholeAt bytes end (plan.Read form size)
    → IsAnswerTo form size (drop end bytes ++ left) result → Allows (bytes ++ left) result
allowed-body bytes left end size form (Ok request) whole is = asks bytes left end (plan.Read form size) (Whole request) whole is
allowed-body bytes left end size form (Err (fault.Bad kind)) whole is = asks bytes left end (plan.Read form size) (Faulty kind) whole is
allowed-body bytes left end size form (Err fault.Gone) whole is = asks bytes left end (plan.Read form size) Short whole is
allowed-body bytes left end size form (Err fault.LinkFault) whole is = tt
allowed-body bytes left end size form (Err fault.NoMemory) whole is = tt

pub told-body : (old new : Option (List ℕ)) (bytes : List ℕ) (end size : ℕ) (form : Form) (result : Result Request WireFault) → Consumes old new bytes
    → IsWholeAt bytes end (plan.Read form size) → IfSome new (λ left. IsAnswerTo form size (drop end bytes ++ left) result) → IfSome old (λ all. Allows all result)
told-body None new bytes end size form result took whole is = tt
told-body (Some all) None bytes end size form result took whole is = absurd took
told-body (Some all) (Some left) bytes end size form result took whole is =
    subst (λ l. Allows l result) (sym took) (allowed-body bytes left end size form result whole is)

not-short : (n m : ℕ) → m ≤ n → nat_lt n m ≡ false
not-short n m h = grind (arith, nat_tests)

-- the bytes of a body are those after the head, whatever follows them
body-is : (items piece rest : List ℕ) (end size : ℕ) → end ≤ length items → end + size ≤ length (items ++ piece)
    → (take size (drop end items ++ (piece ++ rest)) ≡ take ((end + size) - end) (drop end (items ++ piece))) × (nat_lt (length (drop end items ++ (piece ++ rest))) size ≡ false)
body-is items piece rest end size inside long =
    let whole : size ≤ length (drop end items ++ piece) = omega (arith, length-append items piece, length-append (drop end items) piece, length-drop end items) in
    let same : (end + size) - end ≡ size = omega arith in (
      rw (same, drop-append-le end items piece inside, sym (append_assoc (drop end items) piece rest)) (take-append-le size (drop end items ++ piece) rest whole),
      not-short _ size (omega (arith, whole, length-append (drop end items) piece, length-append (drop end items) (piece ++ rest), length-append piece rest)),
    )

answer-of : (rest body : List ℕ) (size : ℕ) (form : Form) (result : Result Request WireFault)
    → take size rest ≡ body → nat_lt (length rest) size ≡ false
    → IfOk result (λ request. request_of form body ≡ Some request)
    → ((kind : Bad) → result ≡ Err (fault.Bad kind) → (kind ≡ bad.BadRequest) × (request_of form body ≡ None))
    → IfErr result IsOfBody → IsAnswerTo form size rest result
answer-of rest body size form (Ok request) is long whole faulty others = sym (rw (long, is) (ap of_body whole))
answer-of rest body size form (Err (fault.Bad kind)) is long whole faulty others =
    let f = faulty kind refl in
    sym (rw (long, is) (ap of_body f.1 ∙ ap Faulty (sym f.0)))
answer-of rest body size form (Err fault.Gone) is long whole faulty others = absurd others
answer-of rest body size form (Err fault.LinkFault) is long whole faulty others = tt
answer-of rest body size form (Err fault.NoMemory) is long whole faulty others = tt

pub body-answer : (old new : Option (List ℕ)) (items piece both : List ℕ) (end size : ℕ) (form : Form) (result : Result Request WireFault)
    → Consumes old new piece → both ≡ items ++ piece → end ≤ length items → end + size ≤ length both
    → IfOk result (λ request. request_of form (take ((end + size) - end) (drop end both)) ≡ Some request)
    → ((kind : Bad) → result ≡ Err (fault.Bad kind) → (kind ≡ bad.BadRequest) × (request_of form (take ((end + size) - end) (drop end both)) ≡ None))
    → IfErr result IsOfBody → IfSome old (λ left. IsAnswerTo form size (drop end items ++ left) result)
body-answer None new items piece both end size form result took is inside long whole faulty others = tt
body-answer (Some all) None items piece both end size form result took is inside long whole faulty others = absurd took
body-answer (Some all) (Some rest) items piece both end size form result took is inside long whole faulty others =
    let body = take ((end + size) - end) (drop end both) in
    let b = body-is items piece rest end size inside (subst (λ l. end + size ≤ length l) is long) in
    let same = b.0 ∙ ap (λ l. take ((end + size) - end) (drop end l)) (sym is) in
    rw took (answer-of (drop end items ++ (piece ++ rest)) body size form result same b.1 whole faulty others)
