-- How many rows there are, and what is said of them.
use Rattle.std.specs.Prelude.{ℕ, ◌+◌, ◌≤◌, ◌&&◌, ◌==◌, if◌then◌else◌, Bool, true, false, List, length}
use Rattle.std.specs.List.{count_by}
use Rattle.muni_check_rows.specs.declared.said.CheckSaid.{CheckSaid}
use Rattle.muni_check_rows.specs.declared.said.CheckSaid.TheVariants as outcome
use Rattle.muni_check_rows.specs.declared.tally.Tally.{Tally}

abbrev pub is_right : CheckSaid → Bool
is_right outcome.Right = true
is_right (outcome.Differs which figures stated reading) = false
is_right (outcome.OtherTerm other) = false
is_right (outcome.Undecided which) = false
is_right (outcome.Refused number) = false
is_right (outcome.Missing reference) = false
is_right (outcome.Again first) = false
is_right outcome.Nothing = false
is_right (outcome.Bad fault) = false

-- a figure or a term is another
abbrev pub is_different : CheckSaid → Bool
is_different outcome.Right = false
is_different (outcome.Differs which figures stated reading) = true
is_different (outcome.OtherTerm other) = true
is_different (outcome.Undecided which) = false
is_different (outcome.Refused number) = false
is_different (outcome.Missing reference) = false
is_different (outcome.Again first) = false
is_different outcome.Nothing = false
is_different (outcome.Bad fault) = false

abbrev pub is_missing : CheckSaid → Bool
is_missing outcome.Right = false
is_missing (outcome.Differs which figures stated reading) = false
is_missing (outcome.OtherTerm other) = false
is_missing (outcome.Undecided which) = false
is_missing (outcome.Refused number) = false
is_missing (outcome.Missing reference) = true
is_missing (outcome.Again first) = false
is_missing outcome.Nothing = false
is_missing (outcome.Bad fault) = false

abbrev pub is_again : CheckSaid → Bool
is_again outcome.Right = false
is_again (outcome.Differs which figures stated reading) = false
is_again (outcome.OtherTerm other) = false
is_again (outcome.Undecided which) = false
is_again (outcome.Refused number) = false
is_again (outcome.Missing reference) = false
is_again (outcome.Again first) = true
is_again outcome.Nothing = false
is_again (outcome.Bad fault) = false

abbrev pub is_nothing : CheckSaid → Bool
is_nothing outcome.Right = false
is_nothing (outcome.Differs which figures stated reading) = false
is_nothing (outcome.OtherTerm other) = false
is_nothing (outcome.Undecided which) = false
is_nothing (outcome.Refused number) = false
is_nothing (outcome.Missing reference) = false
is_nothing (outcome.Again first) = false
is_nothing outcome.Nothing = true
is_nothing (outcome.Bad fault) = false

-- how often something is so of one row
abbrev pub once : Bool → ℕ
once is = if is then 1 else 0

-- no row, and one row more
abbrev pub no_tally : Tally
no_tally = record { rows = 0; right = 0; differ = 0; missing = 0; again = 0; nothing = 0 }

abbrev pub with_said : Tally → CheckSaid → Tally
with_said tally said =
    record {
      rows = tally.rows + 1;
      right = tally.right + once (is_right said);
      differ = tally.differ + once (is_different said);
      missing = tally.missing + once (is_missing said);
      again = tally.again + once (is_again said);
      nothing = tally.nothing + once (is_nothing said);
    }

-- with so many missing trades more
abbrev pub with_missing : Tally → ℕ → Tally
with_missing tally more = record tally { missing = tally.missing + more }

-- no count of rows is greater than that of all
pub record IsSmall (tally : Tally) : Type 0 where
  pub right : tally.right ≤ tally.rows
  pub differ : tally.differ ≤ tally.rows
  pub missing : tally.missing ≤ tally.rows
  pub again : tally.again ≤ tally.rows
  pub nothing : tally.nothing ≤ tally.rows

-- the tally of rows, and of the trades for which none came
abbrev pub tally_of : List CheckSaid → List (List ℕ) → Tally
tally_of said unseen =
    record {
      rows = length said;
      right = count_by is_right said;
      differ = count_by is_different said;
      missing = count_by is_missing said + length unseen;
      again = count_by is_again said;
      nothing = count_by is_nothing said;
    }

-- every row is right, and no trade is missing
abbrev pub are_all_right : Tally → Bool
are_all_right tally = (tally.right == tally.rows) && (tally.missing == 0)
