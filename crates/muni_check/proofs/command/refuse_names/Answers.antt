use Rattle.std.proofs.Common.{◌≡◌, ◌∙◌, ◌++◌, [], inr, refl, ap}
use Rattle.std.proofs.lemmas.Result.{err_from_is_err_and}
use Rattle.muni_check_rows.specs.Line.{names_line}
use Rattle.muni_check.specs.declared.command.CheckEnd.TheVariants.{BadNames}
use Rattle.muni_check.proofs.WriteLemmas.{written-none}
use Rattle.muni_check.proofs.command.refuse_names.Goals as goal

pub returns-in_err-add_line-clause-written : goal.returns-in_err-add_line-clause-written
returns-in_err-add_line-clause-written g c =
    let p = err_from_is_err_and c.from_residual.result c.from_residual.ensures.1 in
    rw (p.1, p.2) ([], refl, written-none (g.O.Sink.bytes c.args.output.now))

pub returns-in_err-write-clause-written : goal.returns-in_err-write-clause-written
returns-in_err-write-clause-written g c =
    let text : c.deref.result.now ≡ names_line c.args.fault = c.deref.ensures.value ∙ c.in_ok-add_line.ensures ∙ ap (λ l. l ++ names_line c.args.fault) c.new-line.ensures.items in
    let p = err_from_is_err_and c.from_residual-in_err-write.result c.from_residual-in_err-write.ensures.1 in
    rw (p.1, p.2, c.in_err-write.ensures.only) (names_line c.args.fault, inr (BadNames, (refl, refl)), rw text at c.in_err-write.ensures.part)

pub returns-clause-written : goal.returns-clause-written
returns-clause-written g c =
    let text : c.deref.result.now ≡ names_line c.args.fault = c.deref.ensures.value ∙ c.in_ok-add_line.ensures ∙ ap (λ l. l ++ names_line c.args.fault) c.new-line.ensures.items in
    (names_line c.args.fault, (refl, refl), rw text at c.in_ok-write.ensures.written)
