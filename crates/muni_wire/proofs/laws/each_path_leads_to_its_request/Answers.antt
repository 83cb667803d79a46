use Rattle.muni_wire.proofs.FoundPathLemmas.{each-trade-is-confirmed, each-list-is-given, each-list-goes-on}
use Rattle.muni_wire.proofs.PathLemmas.{bodies-have-one-path}
use Rattle.muni_wire.proofs.laws.each_path_leads_to_its_request.Goals as goal

pub returns : goal.returns
returns c = record {
  posted = bodies-have-one-path;
  confirmed = each-trade-is-confirmed;
  listed = each-list-is-given;
  listed_after = each-list-goes-on;
}
