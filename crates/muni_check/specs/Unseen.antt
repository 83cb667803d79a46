-- The trades of a desk for which no row came.
use Rattle.std.specs.Prelude.{◌&&◌, not, Bool, true, false, ℕ, List, [], map, Option, Some, None}
use Rattle.std.specs.FinMap.{entries}
use Rattle.std.specs.List.{filter, list_any}
use Rattle.std.specs.Ordering.{eq_by_cmp}
use Rattle.muni_msg.specs.declared.command.Line.{Line}
use Rattle.muni_msg.specs.declared.version.Act.{Act}
use Rattle.muni_msg.specs.declared.version.Act.TheVariants.{Entered, Corrected, Canceled}
use Rattle.muni_keep.specs.Tables.{Tables, line}
use Rattle.muni_keep.specs.Trades.{by_bytes, own}

-- a trade that is not canceled
abbrev pub is_live : Act → Bool
is_live Entered = true
is_live Corrected = true
is_live Canceled = false

-- two references have the same bytes
abbrev pub is_same : List ℕ → List ℕ → Bool
is_same one other = eq_by_cmp by_bytes one other

-- a reference is among others
abbrev pub is_named : (named : List (List ℕ)) → List ℕ → Bool
is_named named reference = list_any (λ other. is_same other reference) named

-- a live trade whose reference no row named
abbrev pub is_unseen : (is_named : List ℕ → Bool) → Line → Bool
is_unseen is_named trade = is_live trade.version.act && not (is_named trade.reference)

-- the references of those among trades
abbrev pub unseen_of : (is_named : List ℕ → Bool) → List Line → List (List ℕ)
unseen_of is_named trades = map (λ trade. trade.reference) (filter (is_unseen is_named) trades)

-- of those of a desk, in the order of their references
abbrev pub unseen_at : Tables → (desk : List ℕ) → (is_named : List ℕ → Bool) → List (List ℕ)
unseen_at tables desk is_named = unseen_of is_named (map line (entries (own desk tables.desks)))

-- the live trades of a desk for which no row came, if there is a desk
abbrev pub unseen_in : Tables → (desk : Option (List ℕ)) → (named : List (List ℕ)) → List (List ℕ)
unseen_in tables None named = []
unseen_in tables (Some desk) named = unseen_at tables desk (is_named named)
