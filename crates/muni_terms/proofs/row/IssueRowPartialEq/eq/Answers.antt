use Rattle.std.proofs.Common.{◌≡◌, rules}
use Rattle.std.proofs.lemmas.Bool.Decides.{Decides-at}
use Rattle.muni_terms.specs.Row.{row_eq}
use Rattle.muni_terms.proofs.RowLemmas.{row_decides}
use Rattle.muni_terms.proofs.row.IssueRowPartialEq.eq.Goals as goal

pub returns-then-eq-5-clause-same : goal.returns-then-eq-5-clause-same
returns-then-eq-5-clause-same c =
    let value : c.eq-then-eq-5.result ≡ row_eq c.args.self.now c.args.other.now = search rules in
    Decides-at _ _ value (row_decides c.args.self.now c.args.other.now)
