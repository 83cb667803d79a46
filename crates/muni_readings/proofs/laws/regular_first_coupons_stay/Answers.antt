use Rattle.muni_readings.proofs.LawLemmas.{regular-regular}
use Rattle.muni_readings.proofs.laws.regular_first_coupons_stay.Goals as goal

pub returns : goal.returns
returns c = regular-regular
