-- No bytes are without a reading.
use Rattle.std.proofs.Common.{◌≡◌, ◌≤◌, ◌<◌, ◌∙◌, ℕ, List, ◌∷◌, ◌++◌, length, take, drop, refl, sym, ap, subst, arith, inl, inr}
use Rattle.std.specs.List.{flat_map}
use Rattle.std.proofs.lemmas.Bool.{cases_lt}
use Rattle.std.proofs.lemmas.List.{append_assoc, append-nil, length-append, length-take, take_all, take_at, take-append-le, take-append-drop}
use Rattle.httparse.specs.Grammar.{LineEnd, lf, print_end, print_blank, print_field, print_version, RequestHead, IsRequestHead, print_request, ReadsRequest, HasNoRequest, MayBecomeRequest}
use Rattle.httparse.specs.Spans.{RequestExceeds}
use Rattle.httparse.proofs.GrammarLemmas.{ReadsRequest-append}
use Rattle.muni_wire.specs.Awaited.{plan_of}
use Rattle.muni_wire.specs.Head.{HasHead, IsUnfinished, head_limit, field_limit}
use Rattle.muni_wire.specs.Reading.{Reading, Faulty, Short, Reads, carried_out}
use Rattle.muni_wire_body.specs.declared.fault.Bad.TheVariants as bad
use Rattle.muni_wire.proofs.ExtentLemmas.{head-longer}

-- the lines of a head before its last, and what comes after them
last-line : (front fields rest : List ℕ) (end : LineEnd) → (front ++ (fields ++ print_end end)) ++ rest ≡ (front ++ fields) ++ (print_end end ++ rest)
last-line front fields rest end =
    ap (λ l. l ++ rest) (sym (append_assoc front fields (print_end end))) ∙ append_assoc (front ++ fields) (print_end end) rest

-- a head with too many fields shows before its last line
shows-many : (bytes : List ℕ) (h : RequestHead) (rest : List ℕ) → ReadsRequest bytes h rest → field_limit < length h.fields → RequestExceeds field_limit bytes
unfolding print_request
shows-many bytes h rest reads many =
    let start = print_blank h.blank ++ h.method ++ 32 ∷ h.target ++ 32 ∷ print_version h.minor ++ print_end h.line_end in
    let fields = flat_map print_field h.fields in
    let other : RequestHead = record h { last = lf } in
    let is_head : IsRequestHead other = record {
      method = reads.0.method;
      target = reads.0.target;
      target_text = reads.0.target_text;
      minor = reads.0.minor;
      fields = reads.0.fields;
    } in (
      start ++ fields,
      print_end h.last ++ rest,
      reads.1 ∙ last-line start fields rest h.last,
      other,
      (is_head, append_assoc start fields (print_end lf) ∙ sym (append-nil (start ++ (fields ++ print_end lf)))),
      many,
    )

-- a head of the first bytes is one of all
of-all : (bytes : List ℕ) (h : RequestHead) (rest : List ℕ) → ReadsRequest (take head_limit bytes) h rest → length h.fields ≤ field_limit
    → HasHead bytes h (rest ++ drop head_limit bytes)
of-all bytes h rest reads few =
    record {
      reads = subst (λ l. ReadsRequest l h (rest ++ drop head_limit bytes)) (take-append-drop head_limit bytes)
          (ReadsRequest-append (take head_limit bytes) h rest (drop head_limit bytes) reads);
      short = omega (arith, ap length reads.1, length-append (print_request h) rest, length-take head_limit bytes);
      few = few;
    }

-- what some bytes make a head may become one
becomes : (bytes more : List ℕ) (h : RequestHead) (rest : List ℕ) → HasNoRequest bytes → ReadsRequest (bytes ++ more) h rest → MayBecomeRequest bytes
becomes bytes more h rest none reads =
    let longer = head-longer (bytes ++ more) bytes more h rest refl none reads in
    let front : take (length bytes) (print_request h) ≡ bytes =
    sym (take-append-le (length bytes) (print_request h) rest (omega (arith, longer))) ∙ ap (take (length bytes)) (sym reads.1) ∙ take_at bytes more (length bytes) refl in
    inl (
      drop (length bytes) (print_request h),
      h,
      (
        reads.0,
        ap (λ l. l ++ drop (length bytes) (print_request h)) (sym front) ∙ take-append-drop (length bytes) (print_request h) ∙ sym (append-nil (print_request h)),
      ),
    )

none-whole : (bytes : List ℕ) → ((reading : Reading) → ¬ (Reads bytes reading)) → HasNoRequest (take head_limit bytes)
none-whole bytes none h rest reads =
    elim (cases_lt field_limit (length h.fields)) [
      | inl many ↦ none (Faulty bad.HeadTooLarge) (inr (inr (inl (inr (shows-many (take head_limit bytes) h rest reads many), refl))))
      | inr few ↦ none (carried_out (plan_of h) (rest ++ drop head_limit bytes))
          (inl (record { head = h; rest = rest ++ drop head_limit bytes; has = of-all bytes h rest reads few; asks = refl }))
    ]

none-unfinished : (bytes : List ℕ) → ((reading : Reading) → ¬ (Reads bytes reading)) → ¬ (MayBecomeRequest (take head_limit bytes))
none-unfinished bytes none may =
    let unfinished : IsUnfinished (take head_limit bytes) = record { none = none-whole bytes none; may = may } in
    elim (cases_lt (length bytes) head_limit) [
      | inl short ↦ none Short (inr (inr (inr ((short, subst IsUnfinished (take_all head_limit bytes (omega (arith, short))) unfinished), refl))))
      | inr long ↦ none (Faulty bad.HeadTooLarge) (inr (inr (inl (inl (long, unfinished), refl))))
    ]

pub some-reading : (bytes : List ℕ) → ¬ ((reading : Reading) → ¬ (Reads bytes reading))
some-reading bytes none =
    none (Faulty bad.BadRequest)
    (inr (inl (λ more h rest reads. none-unfinished bytes none (becomes (take head_limit bytes) more h rest (none-whole bytes none) reads), refl)))
