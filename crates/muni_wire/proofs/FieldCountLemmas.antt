-- Bytes that begin with a head within the limits do not hold too many header fields.
use Rattle.std.proofs.Common.{◌≡◌, ℕ, List, [], ◌∷◌, ◌++◌, refl, sym, ap, ◌∙◌}
use Rattle.std.specs.List.{flat_map}
use Rattle.std.proofs.lemmas.List.{append_assoc, append-nil, append_cancel_right}
use Rattle.httparse.specs.Grammar.{LineEnd, crlf, lf, print_field, print_end, print_blank, print_version, RequestHead}
use Rattle.httparse.specs.Spans.{RequestExceeds, RequestOverflows}
use Rattle.httparse.specs.Pieces.{RequestStart}
use Rattle.httparse.proofs.PieceLemmas.{Stops_token}
use Rattle.httparse.proofs.GrammarLemmas.{cons-append, print_request-append, request_tree}
use Rattle.httparse.proofs.RefusalLemmas.{lines_over, request_failed_section}

-- the start line of a head, and what comes after it
started : RequestHead → List ℕ → List ℕ
started h behind = print_blank h.blank ++ (h.method ++ 32 ∷ (h.target ++ 32 ∷ (print_version h.minor ++ (print_end h.line_end ++ behind))))

started-append : (h : RequestHead) (behind rest : List ℕ) → started h behind ++ rest ≡ started h (behind ++ rest)
unfolding started
started-append h behind rest = simp (append_assoc, cons-append)

-- what an empty line would make a head is a start line and its fields
front-is : (front : List ℕ) (h : RequestHead) (last : LineEnd) → front ++ 10 ∷ [] ≡ started h ((flat_map print_field h.fields ++ print_end last) ++ [])
    → (rest : List ℕ) → (behind : List ℕ) × (front ++ rest ≡ started h (flat_map print_field h.fields ++ behind))
front-is front h lf is rest =
    let fields = flat_map print_field h.fields in
    let same : front ++ 10 ∷ [] ≡ started h fields ++ 10 ∷ [] = is ∙ ap (started h) (append-nil (fields ++ 10 ∷ [])) ∙ sym (started-append h fields (10 ∷ [])) in
    (rest, ap (λ l. l ++ rest) (append_cancel_right front (started h fields) (10 ∷ []) same) ∙ started-append h fields rest)
front-is front h crlf is rest =
    let fields = flat_map print_field h.fields in
    let same : front ++ 10 ∷ [] ≡ started h (fields ++ 13 ∷ []) ++ 10 ∷ [] =
    is ∙ ap (started h) (append-nil (fields ++ 13 ∷ 10 ∷ []) ∙ sym (append_assoc fields (13 ∷ []) (10 ∷ []))) ∙ sym (started-append h (fields ++ 13 ∷ []) (10 ∷ [])) in (
      13 ∷ rest,
      ap (λ l. l ++ rest) (append_cancel_right front (started h (fields ++ 13 ∷ [])) (10 ∷ []) same) ∙ started-append h (fields ++ 13 ∷ []) rest
          ∙ ap (started h) (append_assoc fields (13 ∷ []) rest),
    )

-- a head at the front has too many fields, whatever follows
pub overflows : (room : ℕ) (bytes : List ℕ) → RequestExceeds room bytes → RequestOverflows room bytes
unfolding started
overflows room bytes (front, rest, is, h, reads, many) =
    let begun = front-is front h h.last (reads.1 ∙ print_request-append h []) rest in
    let start : RequestStart (request_tree h).0 bytes (flat_map print_field h.fields ++ begun.0) = (
      _,
      (is ∙ begun.1, Stops_token h.method _ reads.0.method.0 reads.0.method.1),
      (
        _,
        (reads.0.method.0, reads.0.method.1, refl),
        (_, ((reads.0.target.0, reads.0.target.1, refl), reads.0.target_text), (_, (reads.0.minor, refl), refl)),
      ),
    ) in
    (request_failed_section {A = ℕ} {B = ℕ} (request_tree h).0 start (lines_over h.fields begun.0 (reads.0.fields, refl) many)).no_room
