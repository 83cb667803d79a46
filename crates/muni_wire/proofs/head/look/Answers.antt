use Rattle.std.proofs.Common.{rules, arith, ◌≡◌, ◌≤◌, ◌++◌, length, take, IsUtf8, inl, subst, sym}
use Rattle.std.proofs.Math.Seq.{take-append_seam}
use Rattle.std.proofs.lemmas.List.{length-append}
use Rattle.muni_wire.specs.Head.{head_limit, field_limit, IsUnfinished}
use Rattle.muni_wire.proofs.CutLemmas.{never-later, exceeds-later}
use Rattle.muni_wire.proofs.HeadLemmas.{whole-later}
use Rattle.muni_wire.proofs.head.look.Goals as goal

pub returns-in-Ok-Complete-clause-seen : goal.returns-in-Ok-Complete-clause-seen
returns-in-Ok-Complete-clause-seen c =
    let said = rw c.in-Ok-Complete.field-0-is at c.in-Ok-Complete.ensures in
    let room : length c.parse_request.new.headers ≤ field_limit = omega arith in
    (whole-later c.args.bytes.now c.parse_request.new.headers c.in-Ok-Complete.head c.plan_for.result c.requires.limit room said.within said.complete c.plan_for.ensures.plan, c.plan_for.ensures.limit)

pub returns-else-bytes-lt16384-clause-seen : goal.returns-else-bytes-lt16384-clause-seen
returns-else-bytes-lt16384-clause-seen c rest =
    let bytes = c.args.bytes.now in
    let full : length bytes ≡ head_limit = omega (arith, c.if-bytes-lt16384.false, c.requires.limit) in
    let same = subst (λ n. take n (bytes ++ rest) ≡ bytes) full (take-append_seam bytes rest) in
    inl (omega (arith, full, length-append bytes rest), subst IsUnfinished (sym same) (record { none = search rules; may = search rules }))

pub returns-in-Err-TooManyHeaders-clause-seen : goal.returns-in-Err-TooManyHeaders-clause-seen
returns-in-Err-TooManyHeaders-clause-seen c rest = exceeds-later c.args.bytes.now rest c.requires.limit (search rules)

pub returns-in-Err : goal.returns-in-Err
returns-in-Err c = record {
  seen = λ rest. never-later c.args.bytes.now rest c.requires.limit (search rules);
  more = λ e. cc e;
}

pub plan_for-requires-clause-text : goal.plan_for-requires-clause-text
plan_for-requires-clause-text c =
    let said = rw c.in-Ok-Complete.field-0-is at c.in-Ok-Complete.ensures in
    let at = said.complete.1 in
    subst IsUtf8 (sym at.path) at.reads.0.target_text
