use Rattle.muni_desk.proofs.PrintLemmas.{imports-print, loads-print, confirmations-print, connections-answered}
use Rattle.muni_desk.proofs.laws.printed_figures_are_right.Goals as goal

pub returns-clause-imports : goal.returns-clause-imports
returns-clause-imports g c = imports-print g.I.Source g.O.Sink g.C.Cabinet g.D.Door c.reports_are_right.ensures

pub returns-clause-loads : goal.returns-clause-loads
returns-clause-loads g c = loads-print g.I.Source g.O.Sink g.C.Cabinet g.D.Door c.reports_are_right.ensures

pub returns-clause-confirmations : goal.returns-clause-confirmations
returns-clause-confirmations g c = confirmations-print g.I.Source g.O.Sink g.C.Cabinet g.D.Door c.confirmations_are_right.ensures

pub returns-clause-connections : goal.returns-clause-connections
returns-clause-connections g c = connections-answered g.I.Source g.O.Sink g.C.Cabinet g.D.Door c.answers_are_right.ensures
