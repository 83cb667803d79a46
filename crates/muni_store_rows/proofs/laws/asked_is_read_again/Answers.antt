use Rattle.std.proofs.Common.{refl}
use Rattle.muni_store_rows.specs.Version.{asked_columns, asked_of}
use Rattle.muni_store_rows.proofs.laws.asked_is_read_again.Goals as goal

pub returns : goal.returns
unfolding asked_of asked_columns
returns c =
    rw (
      c.given_is_read_again.ensures,
      c.cusip_is_read_again.ensures,
      c.par_is_read_again.ensures,
      c.day_is_read_again.ensures,
      c.side_is_read_again.ensures,
      c.fee_is_read_again.ensures,
    ) refl
