-- What an open slot holds.
use Rattle.std.proofs.Common.{◌≡◌, ℕ, ◌+◌, if◌then◌else◌, true, Option, None, List, sym, ◌∙◌, ap}
use Rattle.std.specs.Option.{option_map, option_and_then}
use Rattle.muni_keep.specs.Tables.{Tables}
use Rattle.muni_journal_disk.specs.Bytes.{bytes_at}
use Rattle.muni_journal_record.specs.Body.{put_of}
use Rattle.muni_journal.specs.Puts.{put_on}
use Rattle.muni_journal.specs.Journal.{Place, is_length, number_at, behind_slot}

module _ (c : List ℕ) (gate count : ℕ) (tables : Tables) (next : Option Tables) where
  -- a slot with a record that reads leads to where its put does
  pub slot_is : count ≡ number_at c (gate + 1) → is_length count ≡ true → option_and_then (put_on tables) (put_of (bytes_at c (gate + 1 + 4) count)) ≡ next
      → behind_slot c (record { gate = gate; tables = tables }) ≡ option_map (λ (t : Tables). let p : Place = record { gate = gate + 5 + count; tables = t } in p) next
  unfolding behind_slot
  slot_is number right puts =
      let F : ℕ → Option Place = λ n. option_map (λ (t : Tables). let p : Place = record { gate = gate + 5 + n; tables = t } in p)
      (option_and_then (put_on tables) (if is_length n then put_of (bytes_at c (gate + 1 + 4) n) else None)) in
      let G : Option Tables → Option Place = option_map (λ (t : Tables). let p : Place = record { gate = gate + 5 + count; tables = t } in p) in
      ap F (sym number) ∙ ap (λ b. G (option_and_then (put_on tables) (if b then put_of (bytes_at c (gate + 1 + 4) count) else None))) right ∙ ap G puts
