use Rattle.std.proofs.Common.{ap, sym, ◌∙◌}
use Rattle.std.specs.Cmp.Lexicographic.{texts_ties}
use Rattle.muni_position.specs.Holdings.{is_watched}
use Rattle.muni_position.proofs.ChangeLemmas.{watched_desk}
use Rattle.muni_position.proofs.positioned.Positioned.watches.Goals as goal

pub returns-in-Some-clause-tested : goal.returns-in-Some-clause-tested
returns-in-Some-clause-tested g c =
    c.eq.ensures ∙ texts_ties c.in-Some.watched c.args.desk.now ∙ ap (λ watched. is_watched watched c.args.desk.now) (sym c.in-Some.is)

pub returns-in-Some-clause-watched : goal.returns-in-Some-clause-watched
returns-in-Some-clause-watched g c = λ is.
    watched_desk c.args.self.now.desk c.args.desk.now (ap (λ watched. is_watched watched c.args.desk.now) c.in-Some.is ∙ sym (texts_ties c.in-Some.watched c.args.desk.now) ∙ sym c.eq.ensures ∙ is)
