use Rattle.std.proofs.Common.{rules, ◌≡◌, ap, refl, arith}
use Rattle.std.specs.Prelude.{is_some}
use Rattle.muni_desk_serve.specs.Rules.{serving_rules}
use Rattle.muni_desk_serve.specs.Serves.{traffic}
use Rattle.muni_wire.specs.Answer.{answer_to_reply, answer_to_bad, success, unavailable as unavailable_bytes}
use Rattle.muni_wire.specs.HttpStatus.{status_of_reply, status_of_bad}
use Rattle.muni_wire_body.specs.declared.look.Request.TheVariants.{Book, Look as LookAt, Check}
use Rattle.muni_wire.specs.declared.status.HttpStatus.TheVariants.{Success, Unavailable}
use Rattle.muni_desk_serve.specs.Answer.{came_of}
use Rattle.muni_desk_serve.specs.Check.{line_answer}
use Rattle.muni_desk_serve.specs.Look.{seen_answer, seen_bytes, seen_status}
use Rattle.muni_desk_serve.proofs.LeavesLemmas.{leaves-answered, leaves-wanting, reply-good}
use Rattle.muni_desk_serve.proofs.ServesLemmas.{beside-step, replied, unavailable, looked-up, checked, bad, wrote}
use Rattle.muni_desk_serve.proofs.answers.answer_one.Goals as goal

pub returns-in-Ok-step-clause-served : goal.returns-in-Ok-step-clause-served
returns-in-Ok-step-clause-served g c =
    let told = traffic g.L.Source.left g.L.Sink.bytes g.L.Source.faults g.L.Sink.faults in
    let read = rw (c.in-Ok.is, c.in-Book.is) at c.read_request.ensures in
    let did = c.in-Ok-step.ensures in
    let P = serving_rules c.args.book.now.limit (g.E.Encloser.ends c.args.book.now.calculator.now.encloser.now) in
    let details = c.beside.result in
    let beside = beside-step P (g.K.Keeper.tables c.args.keeper.now) c.in-Book.command c.in-Ok-step.reply details (g.K.Keeper.tables c.step.new.keeper) did.step c.beside.ensures in
    rw c.came_of-in-Ok-step.ensures
    (replied (serving_rules c.args.book.now.limit (g.E.Encloser.ends c.args.book.now.calculator.now.encloser.now)) (g.K.Keeper.tables c.args.keeper.now) (g.K.Keeper.tables c.step.new.keeper)
    (g.K.Keeper.faults c.args.keeper.now) (g.K.Keeper.faults c.step.new.keeper)
    (told c.args.link.now) (told c.read_request.new.link) (told c.write_reply.new.link)
    c.in-Book.command c.in-Ok-step.reply details (came_of c.write_reply.result) did.same.later read.allowed did.step beside (wrote g.L.Source g.L.Sink (status_of_reply c.in-Ok-step.reply) (answer_to_reply c.in-Ok-step.reply details) c.write_reply.result c.read_request.new.link c.write_reply.new.link c.write_reply.ensures) read.takes.only.keeps_bytes read.takes.only.keeps_puts)

pub returns-in-Err-Failed-clause-served : goal.returns-in-Err-Failed-clause-served
returns-in-Err-Failed-clause-served g c =
    let told = traffic g.L.Source.left g.L.Sink.bytes g.L.Source.faults g.L.Sink.faults in
    let read = rw (c.in-Ok.is, c.in-Book.is) at c.read_request.ensures in
    let did = rw c.in-Err-Failed.field-0-is at c.in-Err-Failed.ensures in
    rw c.came_of-in-Err-Failed.ensures
    (unavailable (serving_rules c.args.book.now.limit (g.E.Encloser.ends c.args.book.now.calculator.now.encloser.now)) (g.K.Keeper.tables c.args.keeper.now) (g.K.Keeper.tables c.step.new.keeper)
    (g.K.Keeper.faults c.args.keeper.now) (g.K.Keeper.faults c.step.new.keeper)
    (told c.args.link.now) (told c.read_request.new.link) (told c.write_unavailable.new.link)
    (Book c.in-Book.command) (came_of c.write_unavailable.result) (search rules) read.allowed did.unchanged (wrote g.L.Source g.L.Sink Unavailable unavailable_bytes c.write_unavailable.result c.read_request.new.link c.write_unavailable.new.link c.write_unavailable.ensures) read.takes.only.keeps_bytes read.takes.only.keeps_puts)

pub returns-in-Ok-step-clause-leaves : goal.returns-in-Ok-step-clause-leaves
returns-in-Ok-step-clause-leaves g c =
    let read = rw (c.in-Ok.is, c.in-Book.is) at c.read_request.ensures in
    let did = c.in-Ok-step.ensures in
    let reply = c.in-Ok-step.reply in
    let good = reply-good reply in
    rw c.came_of-in-Ok-step.ensures
    (leaves-answered g.K.Keeper g.L.Source g.L.Sink (status_of_reply reply) (answer_to_reply reply c.beside.result) c.write_reply.result c.args.keeper.now c.step.new.keeper
    c.args.link.now c.read_request.new.link c.write_reply.new.link (Book c.in-Book.command) good.0 (λ is. absurd (good.1 is))
    (record { tells = did.same.tells; later = did.same.later; lent_as = did.same.lent_as }) read.allowed read.takes c.write_reply.ensures)

pub returns-in-Err-Failed-clause-leaves : goal.returns-in-Err-Failed-clause-leaves
returns-in-Err-Failed-clause-leaves g c =
    let read = rw (c.in-Ok.is, c.in-Book.is) at c.read_request.ensures in
    let did = rw c.in-Err-Failed.field-0-is at c.in-Err-Failed.ensures in
    rw c.came_of-in-Err-Failed.ensures
    (leaves-answered g.K.Keeper g.L.Source g.L.Sink Unavailable unavailable_bytes c.write_unavailable.result c.args.keeper.now c.step.new.keeper
    c.args.link.now c.read_request.new.link c.write_unavailable.new.link (Book c.in-Book.command) refl (λ is. did.same.failed refl)
    (record { tells = did.same.tells; later = did.same.later; lent_as = did.same.lent_as }) read.allowed read.takes c.write_unavailable.ensures)

pub returns-in-Book-clause-leaves : goal.returns-in-Book-clause-leaves
returns-in-Book-clause-leaves g c =
    let read = rw (c.in-Ok.is, c.in-Book.is) at c.read_request.ensures in
    let did = c.in-Err-NoMemory-step.ensures in
    leaves-wanting g.K.Keeper g.L.Source g.L.Sink c.args.keeper.now c.step.new.keeper c.args.link.now c.read_request.new.link (Book c.in-Book.command)
    (record { tells = did.same.tells; later = did.same.later; lent_as = did.same.lent_as }) read.allowed read.takes

pub returns-in-Ok-look_up-clause-served : goal.returns-in-Ok-look_up-clause-served
returns-in-Ok-look_up-clause-served g c =
    let told = traffic g.L.Source.left g.L.Sink.bytes g.L.Source.faults g.L.Sink.faults in
    let read = rw (c.in-Ok.is, c.in-Look.is) at c.read_request.ensures in
    let did = c.in-Ok-look_up.ensures in
    let seen = c.in-Ok-look_up.seen in
    rw c.came_of-in-Ok-look_up.ensures
    (looked-up (serving_rules c.args.book.now.limit (g.E.Encloser.ends c.args.book.now.calculator.now.encloser.now)) (g.K.Keeper.tables c.args.keeper.now) (g.K.Keeper.tables c.look_up.new.keeper)
    (g.K.Keeper.faults c.args.keeper.now) (g.K.Keeper.faults c.look_up.new.keeper)
    (told c.args.link.now) (told c.read_request.new.link) (told c.write_seen.new.link)
    c.in-Look.look (seen_answer seen) (came_of c.write_seen.result) did.reads.later read.allowed did.seen did.reads.unchanged
    (wrote g.L.Source g.L.Sink (seen_status seen) (seen_bytes seen) c.write_seen.result c.read_request.new.link c.write_seen.new.link c.write_seen.ensures) read.takes.only.keeps_bytes read.takes.only.keeps_puts)

pub returns-in-Err-Failed-look_up-clause-served : goal.returns-in-Err-Failed-look_up-clause-served
returns-in-Err-Failed-look_up-clause-served g c =
    let told = traffic g.L.Source.left g.L.Sink.bytes g.L.Source.faults g.L.Sink.faults in
    let read = rw (c.in-Ok.is, c.in-Look.is) at c.read_request.ensures in
    let did = rw c.in-Err-Failed-look_up.field-0-is at c.in-Err-Failed-look_up.ensures in
    rw c.came_of-in-Err-Failed-look_up.ensures
    (unavailable (serving_rules c.args.book.now.limit (g.E.Encloser.ends c.args.book.now.calculator.now.encloser.now)) (g.K.Keeper.tables c.args.keeper.now) (g.K.Keeper.tables c.look_up.new.keeper)
    (g.K.Keeper.faults c.args.keeper.now) (g.K.Keeper.faults c.look_up.new.keeper)
    (told c.args.link.now) (told c.read_request.new.link) (told c.write_unavailable-in-Err-Failed-look_up.new.link)
    (LookAt c.in-Look.look) (came_of c.write_unavailable-in-Err-Failed-look_up.result) (did.reads.failed refl) read.allowed did.reads.unchanged (wrote g.L.Source g.L.Sink Unavailable unavailable_bytes c.write_unavailable-in-Err-Failed-look_up.result c.read_request.new.link c.write_unavailable-in-Err-Failed-look_up.new.link c.write_unavailable-in-Err-Failed-look_up.ensures) read.takes.only.keeps_bytes read.takes.only.keeps_puts)

pub returns-in-Ok-check-clause-served : goal.returns-in-Ok-check-clause-served
returns-in-Ok-check-clause-served g c =
    let told = traffic g.L.Source.left g.L.Sink.bytes g.L.Source.faults g.L.Sink.faults in
    let read = rw (c.in-Ok.is, c.in-Check.is) at c.read_request.ensures in
    let did = c.in-Ok-check.ensures in
    let line = did.answer.0 in
    let same : c.deref.result.now ≡ success line = search rules in
    rw c.came_of-in-Ok-check.ensures
    (checked (serving_rules c.args.book.now.limit (g.E.Encloser.ends c.args.book.now.calculator.now.encloser.now)) (g.K.Keeper.tables c.args.keeper.now) (g.K.Keeper.tables c.check.new.keeper)
    (g.K.Keeper.faults c.args.keeper.now) (g.K.Keeper.faults c.check.new.keeper)
    (told c.args.link.now) (told c.read_request.new.link) (told c.write_success.new.link)
    c.in-Check.row (line_answer line) (came_of c.write_success.result) did.reads.later read.allowed (line, did.answer.1, refl) did.reads.unchanged
    (wrote g.L.Source g.L.Sink Success (success line) c.write_success.result c.read_request.new.link c.write_success.new.link (rw same at c.write_success.ensures)) read.takes.only.keeps_bytes read.takes.only.keeps_puts)

pub returns-in-Err-Failed-check-clause-served : goal.returns-in-Err-Failed-check-clause-served
returns-in-Err-Failed-check-clause-served g c =
    let told = traffic g.L.Source.left g.L.Sink.bytes g.L.Source.faults g.L.Sink.faults in
    let read = rw (c.in-Ok.is, c.in-Check.is) at c.read_request.ensures in
    let did = rw c.in-Err-Failed-check.field-0-is at c.in-Err-Failed-check.ensures in
    rw c.came_of-in-Err-Failed-check.ensures
    (unavailable (serving_rules c.args.book.now.limit (g.E.Encloser.ends c.args.book.now.calculator.now.encloser.now)) (g.K.Keeper.tables c.args.keeper.now) (g.K.Keeper.tables c.check.new.keeper)
    (g.K.Keeper.faults c.args.keeper.now) (g.K.Keeper.faults c.check.new.keeper)
    (told c.args.link.now) (told c.read_request.new.link) (told c.write_unavailable-in-Err-Failed-check.new.link)
    (Check c.in-Check.row) (came_of c.write_unavailable-in-Err-Failed-check.result) (did.reads.failed refl) read.allowed did.reads.unchanged (wrote g.L.Source g.L.Sink Unavailable unavailable_bytes c.write_unavailable-in-Err-Failed-check.result c.read_request.new.link c.write_unavailable-in-Err-Failed-check.new.link c.write_unavailable-in-Err-Failed-check.ensures) read.takes.only.keeps_bytes read.takes.only.keeps_puts)

pub returns-in-Err-Bad-clause-served : goal.returns-in-Err-Bad-clause-served
returns-in-Err-Bad-clause-served g c =
    let told = traffic g.L.Source.left g.L.Sink.bytes g.L.Source.faults g.L.Sink.faults in
    let read = rw c.in-Err-Bad.field-0-is at c.in-Err-Bad.ensures in
    rw c.came_of.ensures
    (bad (serving_rules c.args.book.now.limit (g.E.Encloser.ends c.args.book.now.calculator.now.encloser.now)) (g.K.Keeper.tables c.args.keeper.now) (g.K.Keeper.faults c.args.keeper.now)
    (told c.args.link.now) (told c.read_request.new.link) (told c.write_bad.new.link)
    c.in-Err-Bad.bad (came_of c.write_bad.result) read.allowed (wrote g.L.Source g.L.Sink (status_of_bad c.in-Err-Bad.bad) (answer_to_bad c.in-Err-Bad.bad) c.write_bad.result c.read_request.new.link c.write_bad.new.link (rw c.in-Err-Bad.field-0-is at c.write_bad.ensures)) read.takes.only.keeps_bytes read.takes.only.keeps_puts)

pub returns-in-Ok-check-clause-leaves : goal.returns-in-Ok-check-clause-leaves
returns-in-Ok-check-clause-leaves g c =
    let read = rw (c.in-Ok.is, c.in-Check.is) at c.read_request.ensures in
    let did = c.in-Ok-check.ensures in
    rw c.came_of-in-Ok-check.ensures
    (leaves-answered g.K.Keeper g.L.Source g.L.Sink Success c.deref.result.now c.write_success.result c.args.keeper.now c.check.new.keeper
    c.args.link.now c.read_request.new.link c.write_success.new.link (Check c.in-Check.row) refl (λ is. absurd (omega (arith, is)))
    (record { tells = ap is_some did.reads.unchanged; later = did.reads.later; lent_as = did.reads.lent_as }) read.allowed read.takes c.write_success.ensures)
