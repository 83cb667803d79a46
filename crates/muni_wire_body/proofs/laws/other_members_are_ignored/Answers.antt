use Rattle.muni_wire_body.proofs.MemberLemmas.{other-members-are-ignored}
use Rattle.muni_wire_body.proofs.laws.other_members_are_ignored.Goals as goal

pub returns : goal.returns
returns c = other-members-are-ignored
