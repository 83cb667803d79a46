use Rattle.std.proofs.Common.{Err, ap, refl, ◌∙◌}
use Rattle.std.proofs.lemmas.Result.{err_from_is_err_and}
use Rattle.muni_book.specs.Rules.{book_rules}
use Rattle.muni_desk_io.specs.Lent.{lent}
use Rattle.muni_desk_import.proofs.FaultLemmas.{unloaded}
use Rattle.muni_desk_import.proofs.loads.load.Goals as goal

pub returns-in_err-keeper-clause-loaded : goal.returns-in_err-keeper-clause-loaded
returns-in_err-keeper-clause-loaded g c =
    let p = err_from_is_err_and c.from_residual.result c.from_residual.ensures.1 in
    unloaded g.I.Source g.O.Sink g.C.Cabinet (book_rules c.args.book.now.limit (g.E.Encloser.ends c.args.book.now.calculator.now.encloser.now)) c.args.store.now c.fetch.result c.in_err-keeper.field-0.0 c.from_residual.result
    (lent c.args.input.now c.args.output.now c.args.cabinet.now) (lent c.args.input.now c.args.output.now c.fetch.new.self)
    c.in_err-keeper.was (p.1 ∙ ap Err p.2) refl (c.in_err-keeper.ensures.unchanged c.args.store.now) c.fetch.ensures.failed
