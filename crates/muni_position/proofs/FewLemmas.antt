-- A desk that has few enough trades keeps so by the rows of an import.
use Rattle.std.proofs.Common.{◌≡◌, ◌≤◌, ◌<◌, arith, true, false, refl, List, ℕ}
use Rattle.std.specs.Prelude.{nat_le}
use Rattle.std.specs.FinMap.{len, len-entries}
use Rattle.std.proofs.lemmas.Bool.Decides.{nat_tests}
use Rattle.muni_keep.specs.Tables.{Tables}
use Rattle.muni_keep.specs.Trades.{own}
use Rattle.muni_book_step.specs.Step.{Rules}
use Rattle.muni_book.proofs.FewLemmas.{few-run}
use Rattle.muni_import.specs.Report.{Said}
use Rattle.muni_import.specs.Row.{Row}
use Rattle.muni_desk_import.specs.Import.{Imports}
use Rattle.muni_desk_import.specs.Laws.{commands_of, replies_of}
use Rattle.muni_desk_import.proofs.RunLemmas.{run-of}
use Rattle.muni_position.specs.Holdings.{HasTooMany}

-- a desk with too many trades after the rows had too many before them
pub many-before : (R : Rules) → R.limit ≤ 100_000_000 → (desk : List ℕ) (old new : Tables) (rows : List Row) (said : List Said) → Imports R old rows said new → HasTooMany desk new → HasTooMany desk old
many-before R small desk old new rows said is many =
    let before = len (own desk old.desks) in
    let was : before ≡ _ = len-entries (own desk old.desks) in
    let now = len-entries (own desk new.desks) in
    elim (nat_le before 100_000_000) as (λ b. nat_le before 100_000_000 ≡ b → HasTooMany desk old) [
      | true ↦ λ e.
          let few : before ≤ 100_000_000 = grind (arith, nat_tests) in
          let after = few-run R 100_000_000 small desk old new (commands_of rows) (replies_of said) (run-of R old new rows said is) few in
          absurd (omega (arith, after, many, now))
      | false ↦ λ e.
          let most : 100_000_000 < before = grind (arith, nat_tests) in
          omega (arith, most, was)
    ] refl
