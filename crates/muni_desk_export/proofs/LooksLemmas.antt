-- What looks one after another leave of a keeper.
use Rattle.std.proofs.Common.{◌≡◌, ◌≤◌, ◌⊎◌, inl, inr, None, Result, Err, sym, ◌∙◌, arith}
use Rattle.muni_edge.specs.Faults.{Rose}
use Rattle.muni_keep.specs.Keeper.{OnlyReads}
use Rattle.muni_keep.specs.declared.fault.KeepFault.{KeepFault}
use Rattle.muni_keep.specs.declared.fault.KeepFault.TheVariants.{Failed}
use Rattle.muni_keep.specs.declared.keeper.Keeper.{Ghosts}
use Rattle.muni_desk_export.specs.Looks.{LooksOver}

-- a keeper is as it was but for its count of faults
pub record IsKept {K : Type 0} (keeper : Ghosts K) (old new : K) : Type 0 where
  pub tables : keeper.tables new ≡ keeper.tables old
  pub later : keeper.faults old ≤ keeper.faults new
  pub lent_as : keeper.lent_as new ≡ keeper.lent_as old

pub is-kept : {K T : Type 0} (keeper : Ghosts K) (result : Result T KeepFault) (old mid new : K) → IsKept keeper old mid → LooksOver keeper result mid new → IsKept keeper old new
is-kept keeper result old mid new kept looks = record {
  tables = looks.unchanged ∙ kept.tables;
  later = omega (arith, kept.later, looks.later);
  lent_as = looks.lent_as ∙ kept.lent_as;
}

rose-since : {K : Type 0} (keeper : Ghosts K) (old mid new : K) → IsKept keeper old mid
    → Rose (keeper.faults mid) (keeper.faults new) ⊎ (keeper.tables mid ≡ None) → Rose (keeper.faults old) (keeper.faults new) ⊎ (keeper.tables old ≡ None)
rose-since keeper old mid new kept (inl rose) = let later = kept.later in inl (omega arith)
rose-since keeper old mid new kept (inr none) = inr (sym kept.tables ∙ none)

-- a look more, whose failure is the whole one's
pub looks-on : {K T U : Type 0} (keeper : Ghosts K) (look : Result T KeepFault) (result : Result U KeepFault) (old mid new : K) → IsKept keeper old mid → LooksOver keeper look mid new
    → (result ≡ Err Failed → look ≡ Err Failed) → LooksOver keeper result old new
looks-on keeper look result old mid new kept looks same = record {
  unchanged = looks.unchanged ∙ kept.tables;
  later = omega (arith, kept.later, looks.later);
  failed = λ is. rose-since keeper old mid new kept (looks.failed (same is));
  lent_as = looks.lent_as ∙ kept.lent_as;
}

-- no look has failed
pub looks-well : {K U : Type 0} (keeper : Ghosts K) (result : Result U KeepFault) (old new : K) → IsKept keeper old new → ¬ (result ≡ Err Failed) → LooksOver keeper result old new
looks-well keeper result old new kept well = record {
  unchanged = kept.tables;
  later = kept.later;
  failed = λ is. absurd (well is);
  lent_as = kept.lent_as;
}

-- a look of a keeper alone
pub looks-read : {K T : Type 0} (keeper : Ghosts K) (result : Result T KeepFault) (old new : K) → OnlyReads keeper result old new → LooksOver keeper result old new
looks-read keeper result old new reads = record {
  unchanged = reads.unchanged;
  later = reads.later;
  failed = λ is. inl (reads.failed is);
  lent_as = reads.lent_as;
}
