use Rattle.muni_wire.proofs.PathLemmas.{bodies-posted, trades-confirmed, lists-given, lists-go-on}
use Rattle.muni_wire.proofs.laws.paths_lead_to_requests.Goals as goal

pub returns : goal.returns
returns c = record { posted = bodies-posted; confirmed = trades-confirmed; listed = lists-given; listed_after = lists-go-on }
