-- On what a trade is done.
use Rattle.std.specs.Prelude.{ℕ, if◌then◌else◌, List, codes, Option, Some, None}
use Rattle.std.specs.Str.{bytes_eq}
use Rattle.muni_msg.specs.declared.asked.Given.{Given}
use Rattle.muni_msg.specs.declared.asked.Given.TheVariants.{AtYield, AtPrice, AtRate}
use Rattle.muni_check_rows.specs.declared.trade.GivenBasis.{GivenBasis}
use Rattle.muni_check_rows.specs.declared.trade.GivenBasis.TheVariants.{Yield, Price, Rate}

abbrev pub basis_text : GivenBasis → List ℕ
basis_text Yield = codes "yield"
basis_text Price = codes "price"
basis_text Rate = codes "rate"

abbrev pub basis_of : Given → GivenBasis
basis_of (AtYield y) = Yield
basis_of (AtPrice price) = Price
basis_of (AtRate rate) = Rate

abbrev pub basis_reading : List ℕ → Option GivenBasis
basis_reading text =
    if bytes_eq text (codes "yield") then Some Yield
    else (if bytes_eq text (codes "price") then Some Price
    else (if bytes_eq text (codes "rate") then Some Rate else None))
