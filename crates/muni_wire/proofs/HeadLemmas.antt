-- What is said of a head holds whatever bytes follow.
use Rattle.std.proofs.Common.{◌≡◌, ◌≤◌, ℕ, List, Option, length, drop, take, map, refl, ap, arith}
use Rattle.std.proofs.lemmas.List.{length-map, length-take}
use Rattle.std.specs.Io.KnownBytes.{IsAtEnd}
use Rattle.httparse.specs.Grammar.{RequestHead}
use Rattle.httparse.specs.Spans.{IsRequestAt, IsRequestOf, IsRequestWithin, header_bytes, name_and_value, span_bytes}
use Rattle.httparse.specs.declared.spans.RequestSpans.{RequestSpans}
use Rattle.httparse.specs.declared.spans.HeaderSpan.{HeaderSpan}
use Rattle.httparse.proofs.GrammarLemmas.{ReadsRequest-append}
use Rattle.muni_wire.specs.Head.{EndsInHead, head_limit, field_limit}
use Rattle.muni_wire.specs.Awaited.{plan_of, plan_by}
use Rattle.muni_wire.specs.Taken.{IsHeadOf, IsSeenIn, IsWholeAt}
use Rattle.muni_wire.specs.declared.head.Awaited.{Awaited}
use Rattle.muni_wire.specs.declared.head.Head.{Head}
use Rattle.muni_wire.specs.declared.head.Head.TheVariants as head

few-fields : (bytes : List ℕ) (headers : List HeaderSpan) (spans : RequestSpans) (h : RequestHead)
    → IsRequestAt bytes headers spans h → length h.fields ≤ length headers
few-fields bytes headers spans h at =
    omega (arith, ap length at.fields, length-map (take spans.headers headers) (header_bytes bytes), length-map h.fields name_and_value, length-take spans.headers headers)

pub whole-later : (bytes : List ℕ) (headers : List HeaderSpan) (spans : RequestSpans) (p : Awaited)
    → length bytes ≤ head_limit → length headers ≤ field_limit
    → IsRequestWithin bytes headers spans → IsRequestOf bytes headers spans
    → p ≡ plan_by (span_bytes bytes spans.method) (span_bytes bytes spans.path) (map (header_bytes bytes) (take spans.headers headers))
    → IsWholeAt bytes spans.len p
unfolding plan_of
whole-later bytes headers spans p short room within (h, at) is more = (
  within.section.len_fits,
  h,
  record {
    reads = ReadsRequest-append bytes h (drop spans.len bytes) more at.reads;
    short = omega (arith, at.len, within.section.len_fits);
    few = omega (arith, few-fields bytes headers spans h at);
  },
  rw (at.method, at.path, at.fields) at is,
)

-- a head, by what is seen in the bytes
pub head-said : (h : Head) (bytes : List ℕ) (left : Option (List ℕ)) → IsSeenIn bytes h
    → (h ≡ head.More → EndsInHead bytes × IsAtEnd left) → IsHeadOf h bytes left
head-said (head.Whole end plan) bytes left seen more = seen
head-said head.More bytes left seen more = more refl
head-said head.Never bytes left seen more = seen
head-said head.TooLarge bytes left seen more = seen
