use Rattle.std.proofs.Common.{[], Err, ap, refl, ◌∙◌}
use Rattle.std.proofs.lemmas.Result.{err_from_is_err_and}
use Rattle.muni_book.specs.Rules.{book_rules}
use Rattle.muni_desk_io.specs.Lent.{lent}
use Rattle.muni_desk_io.proofs.TakenLemmas.{few-read}
use Rattle.muni_position.proofs.ImportingLemmas.{unread-with, unfetched-with}
use Rattle.muni_position.proofs.importing.import_with_positions.Goals as goal

pub returns-in_err-text-clause-imported : goal.returns-in_err-text-clause-imported
returns-in_err-text-clause-imported g c =
    let p = err_from_is_err_and c.from_residual.result c.from_residual.ensures.1 in
    unread-with g.I.Source g.O.Sink g.C.Cabinet (book_rules c.args.book.now.limit (g.E.Encloser.ends c.args.book.now.calculator.now.encloser.now)) c.args.store.now c.args.desk.now c.read_input.result c.in_err-text.field-0.0 c.from_residual.result
    (lent c.args.input.now c.args.output.now c.args.cabinet.now) (lent c.read_input.new.source c.args.output.now c.args.cabinet.now)
    c.in_err-text.was (p.1 ∙ ap Err p.2) (refl, refl) c.read_input.ensures.failed c.read_input.ensures.too_large

pub returns-in_err-keeper-clause-imported : goal.returns-in_err-keeper-clause-imported
returns-in_err-keeper-clause-imported g c =
    let p = err_from_is_err_and c.from_residual-in_err-keeper.result c.from_residual-in_err-keeper.ensures.1 in
    let few = few-read (g.I.Source.left c.args.input.now) c.in_ok-text.text.items [] 4_194_304 (g.I.Source.left c.read_input.new.source) c.in_ok-text.ensures.whole c.in_ok-text.ensures.few in
    unfetched-with g.I.Source g.O.Sink g.C.Cabinet (book_rules c.args.book.now.limit (g.E.Encloser.ends c.args.book.now.calculator.now.encloser.now)) c.args.store.now c.args.desk.now c.fetch.result c.in_err-keeper.field-0.0 c.from_residual-in_err-keeper.result
    (lent c.args.input.now c.args.output.now c.args.cabinet.now) (lent c.read_input.new.source c.args.output.now c.fetch.new.self)
    c.in_err-keeper.was (p.1 ∙ ap Err p.2) refl (c.in_err-keeper.ensures.unchanged c.args.store.now) c.fetch.ensures.failed few
