use Rattle.muni_wire_body.proofs.MemberLemmas.{checks-have-no-others}
use Rattle.muni_wire_body.proofs.laws.checks_have_no_other_members.Goals as goal

pub returns : goal.returns
returns c = checks-have-no-others
