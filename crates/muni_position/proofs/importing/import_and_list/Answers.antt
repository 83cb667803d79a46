use Rattle.std.proofs.Common.{◌≡◌, ◌⊎◌, ◌≤◌, arith, Err, sym, ap, subst, ◌∙◌, IfSome, rules}
use Rattle.muni_book.specs.Rules.{book_rules}
use Rattle.muni_edge.specs.Faults.{Rose}
use Rattle.muni_import.specs.Rows.{rows_of}
use Rattle.muni_keep.specs.declared.fault.KeepFault.TheVariants as keep
use Rattle.muni_desk_import.specs.Import.{Did}
use Rattle.muni_position.specs.Listed.{Listed}
use Rattle.muni_position.specs.Listing.{MayNotSum}
use Rattle.muni_position.proofs.ImportingLemmas.{unwatched, listed-behind}
use Rattle.muni_position.proofs.importing.import_and_list.Goals as goal

pub returns-in-Err-clause-applied : goal.returns-in-Err-clause-applied
returns-in-Err-clause-applied g c =
    let tables = g.K.Keeper.tables in
    let faults = g.K.Keeper.faults in
    let counted : c.watch.result ≡ Err keep.Failed → Rose (faults c.args.keeper) (faults c.back.result) ⊎ MayNotSum c.args.desk.now (tables c.args.keeper) = search rules in
    unwatched (Unit {0}) g.K.Keeper g.O.Sink (book_rules c.args.book.now.limit (g.E.Encloser.ends c.args.book.now.calculator.now.encloser.now)) c.args.desk.now c.args.text.now c.watch.result c.in-Err.fault c.from.result c.args.keeper c.back.result c.args.output.now
    c.in-Err.is c.from.ensures (ap tables c.back.ensures ∙ c.in-Err.ensures.reads.unchanged ∙ ap tables c.over-positioned.ensures.inner) counted

pub returns-in-Ok-clause-applied : goal.returns-in-Ok-clause-applied
returns-in-Ok-clause-applied g c =
    let tables = g.K.Keeper.tables in
    let faults = g.K.Keeper.faults in
    let R = book_rules c.args.book.now.limit (g.E.Encloser.ends c.args.book.now.calculator.now.encloser.now) in
    let small : c.args.book.now.limit ≤ 100_000_000 = omega (arith, c.trades-limit.ensures.value, c.trades-limit.ensures.range) in
    let desk = c.args.desk.now in
    let keeper = c.import_rows-done.new.keeper.positioned.inner in
    let last = c.back-in-Ok.result in
    let start = ap (λ k. tables k.inner) c.follow-following.ensures ∙ c.watch.ensures.reads.unchanged ∙ ap tables c.over-positioned.ensures.inner in
    let did = subst (λ o. IfSome o (λ t. Did R (rows_of c.args.text.now) t (tables keeper) (g.O.Sink.bytes c.args.output.now) (g.O.Sink.bytes c.import_rows-done.new.output))) start c.in-Ok.ensures.applied in
    let listed = subst (λ k. Listed g.O.Sink desk (tables k.inner) (Rose (faults k.inner) (faults c.list-listed.new.keeper.inner)) c.list-listed.result c.import_rows-done.new.output c.list-listed.new.output) c.back-positioned.ensures.same c.list-listed.ensures.listed in
    listed-behind g.K.Keeper g.O.Sink R small desk c.args.text.now c.list-listed.result c.args.keeper keeper last c.args.output.now c.import_rows-done.new.output c.list-listed.new.output
    c.requires.faults did c.import_rows-done.ensures.puts_later
    (ap tables c.back-in-Ok.ensures ∙ c.list-listed.ensures.unchanged ∙ ap (λ k. tables k.inner) c.back-positioned.ensures.same)
    (subst (λ k. Listed g.O.Sink desk (tables keeper) (Rose (faults keeper) (faults k)) c.list-listed.result c.import_rows-done.new.output c.list-listed.new.output) (sym c.back-in-Ok.ensures) listed)
