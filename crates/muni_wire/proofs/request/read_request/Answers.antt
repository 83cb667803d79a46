use Rattle.std.proofs.Common.{Ok, Err, arith, ◌+◌, ◌-◌, length, vec_len, []}
use Rattle.muni_wire.proofs.ExtentLemmas.{fewer, head_no_further, body_no_further, head_ready, body_ready}
use Rattle.muni_wire.proofs.ReadingLemmas.{refused, asked, no-head, large-head, short-head, told-body}
use Rattle.muni_wire.proofs.UniqueLemmas.{told_answer}
use Rattle.muni_wire_body.specs.declared.fault.Bad.TheVariants as bad
use Rattle.muni_wire_body.specs.declared.fault.WireFault.TheVariants as fault
use Rattle.muni_wire.proofs.request.read_request.Goals as goal

pub returns-in-Never-clause-allowed : goal.returns-in-Never-clause-allowed
returns-in-Never-clause-allowed g c =
    let said = rw c.in-Never.is at c.in_ok-head.ensures in
    no-head (g.L.Source.left c.args.link.now) (g.L.Source.left c.read_head.new.link) c.in_ok-head.bytes.items said.taken said.head

pub returns-in-TooLarge-clause-allowed : goal.returns-in-TooLarge-clause-allowed
returns-in-TooLarge-clause-allowed g c =
    let said = rw c.in-TooLarge.is at c.in_ok-head.ensures in
    large-head (g.L.Source.left c.args.link.now) (g.L.Source.left c.read_head.new.link) c.in_ok-head.bytes.items said.taken said.head

pub returns-in-Refuse-clause-allowed : goal.returns-in-Refuse-clause-allowed
returns-in-Refuse-clause-allowed g c =
    let said = rw (c.in-Whole.is, c.in-Refuse.is) at c.in_ok-head.ensures in
    refused (g.L.Source.left c.args.link.now) (g.L.Source.left c.read_head.new.link) c.in_ok-head.bytes.items c.in-Whole.end c.in-Refuse.bad said.taken said.head.0

pub returns-in-Ask-clause-allowed : goal.returns-in-Ask-clause-allowed
returns-in-Ask-clause-allowed g c =
    let said = rw (c.in-Whole.is, c.in-Ask.is) at c.in_ok-head.ensures in
    asked (g.L.Source.left c.args.link.now) (g.L.Source.left c.read_head.new.link) c.in_ok-head.bytes.items c.in-Whole.end c.in-Ask.request said.taken said.head.0

pub returns-in-More-clause-allowed : goal.returns-in-More-clause-allowed
returns-in-More-clause-allowed g c =
    let said = rw c.in-More.is at c.in_ok-head.ensures in
    short-head (g.L.Source.left c.args.link.now) (g.L.Source.left c.read_head.new.link) c.in_ok-head.bytes.items said.taken said.head

pub take_body-requires-clause-inside : goal.take_body-requires-clause-inside
take_body-requires-clause-inside g c =
    let said = rw (c.in-Whole.is, c.in-Read.is) at c.in_ok-head.ensures in
    omega (arith, (said.head.0 []).0)

pub take_body-requires-clause-head : goal.take_body-requires-clause-head
take_body-requires-clause-head g c =
    let said = rw (c.in-Whole.is, c.in-Read.is) at c.in_ok-head.ensures in
    omega (arith, (said.head.0 []).0, said.limit)

pub returns-clause-allowed : goal.returns-clause-allowed
returns-clause-allowed g c =
    let said = rw (c.in-Whole.is, c.in-Read.is) at c.in_ok-head.ensures in
    told-body (g.L.Source.left c.args.link.now) (g.L.Source.left c.read_head.new.link) c.in_ok-head.bytes.items c.in-Whole.end c.in-Read.size c.in-Read.form c.take_body.result said.taken said.head.0 c.take_body.ensures.answer

pub returns-in_err-head-clause-no_further : goal.returns-in_err-head-clause-no_further
returns-in_err-head-clause-no_further g c =
    head_no_further g.L.Source c.args.link.now c.read_head.new.link c.read_head.ensures.no_further

pub returns-in-Never-clause-no_further : goal.returns-in-Never-clause-no_further
returns-in-Never-clause-no_further g c =
    head_no_further g.L.Source c.args.link.now c.read_head.new.link c.read_head.ensures.no_further

pub returns-in-TooLarge-clause-no_further : goal.returns-in-TooLarge-clause-no_further
returns-in-TooLarge-clause-no_further g c =
    head_no_further g.L.Source c.args.link.now c.read_head.new.link c.read_head.ensures.no_further

pub returns-in-Refuse-clause-no_further : goal.returns-in-Refuse-clause-no_further
returns-in-Refuse-clause-no_further g c =
    head_no_further g.L.Source c.args.link.now c.read_head.new.link c.read_head.ensures.no_further

pub returns-in-Ask-clause-no_further : goal.returns-in-Ask-clause-no_further
returns-in-Ask-clause-no_further g c =
    head_no_further g.L.Source c.args.link.now c.read_head.new.link c.read_head.ensures.no_further

pub returns-clause-no_further : goal.returns-clause-no_further
returns-clause-no_further g c =
    let said = rw (c.in-Whole.is, c.in-Read.is) at c.in_ok-head.ensures in
    body_no_further g.L.Source c.args.link.now c.read_head.new.link c.take_body.new.link c.in_ok-head.bytes.items c.in-Whole.end c.in-Read.size c.in-Read.form
    said.no_further said.taken said.head.0
    (fewer (c.in-Whole.end + c.in-Read.size - vec_len c.in_ok-head.bytes) (c.in-Whole.end + c.in-Read.size - length c.in_ok-head.bytes.items)
    (g.L.Source.left c.read_head.new.link) (g.L.Source.left c.take_body.new.link) (omega arith) c.take_body.ensures.few)

pub returns-in_err-head-clause-ready : goal.returns-in_err-head-clause-ready
returns-in_err-head-clause-ready g c = head_ready g.L.Source c.args.link.now c.read_head.new.link c.read_head.ensures.no_further

pub returns-in-More-clause-ready : goal.returns-in-More-clause-ready
returns-in-More-clause-ready g c = head_ready g.L.Source c.args.link.now c.read_head.new.link c.read_head.ensures.no_further

pub returns-in-Never-clause-ready : goal.returns-in-Never-clause-ready
returns-in-Never-clause-ready g c = head_ready g.L.Source c.args.link.now c.read_head.new.link c.read_head.ensures.no_further

pub returns-in-TooLarge-clause-ready : goal.returns-in-TooLarge-clause-ready
returns-in-TooLarge-clause-ready g c = head_ready g.L.Source c.args.link.now c.read_head.new.link c.read_head.ensures.no_further

pub returns-in-Refuse-clause-ready : goal.returns-in-Refuse-clause-ready
returns-in-Refuse-clause-ready g c = head_ready g.L.Source c.args.link.now c.read_head.new.link c.read_head.ensures.no_further

pub returns-in-Ask-clause-ready : goal.returns-in-Ask-clause-ready
returns-in-Ask-clause-ready g c = head_ready g.L.Source c.args.link.now c.read_head.new.link c.read_head.ensures.no_further

pub returns-clause-ready : goal.returns-clause-ready
returns-clause-ready g c =
    let said = rw (c.in-Whole.is, c.in-Read.is) at c.in_ok-head.ensures in
    body_ready g.L.Source c.args.link.now c.read_head.new.link c.take_body.new.link c.in_ok-head.bytes.items c.in-Whole.end c.in-Read.size c.in-Read.form
    said.no_further said.taken said.head.0 c.take_body.ensures.ready

pub returns-in-More-clause-only : goal.returns-in-More-clause-only
returns-in-More-clause-only g c = told_answer (g.L.Source.left c.args.link.now) (Err fault.Gone) (returns-in-More-clause-allowed g c)

pub returns-in-Never-clause-only : goal.returns-in-Never-clause-only
returns-in-Never-clause-only g c = told_answer (g.L.Source.left c.args.link.now) (Err (fault.Bad bad.BadRequest)) (returns-in-Never-clause-allowed g c)

pub returns-in-TooLarge-clause-only : goal.returns-in-TooLarge-clause-only
returns-in-TooLarge-clause-only g c = told_answer (g.L.Source.left c.args.link.now) (Err (fault.Bad bad.HeadTooLarge)) (returns-in-TooLarge-clause-allowed g c)

pub returns-in-Refuse-clause-only : goal.returns-in-Refuse-clause-only
returns-in-Refuse-clause-only g c = told_answer (g.L.Source.left c.args.link.now) (Err (fault.Bad c.in-Refuse.bad)) (returns-in-Refuse-clause-allowed g c)

pub returns-in-Ask-clause-only : goal.returns-in-Ask-clause-only
returns-in-Ask-clause-only g c = told_answer (g.L.Source.left c.args.link.now) (Ok c.in-Ask.request) (returns-in-Ask-clause-allowed g c)

pub returns-clause-only : goal.returns-clause-only
returns-clause-only g c = told_answer (g.L.Source.left c.args.link.now) c.take_body.result (returns-clause-allowed g c)
