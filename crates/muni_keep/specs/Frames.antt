-- What a call finds in a keeper, and what it leaves of it. The records take what a keeper exposes one by one,
-- so that the trait itself can cite them.
use Rattle.std.specs.Prelude.{◌≡◌, ◌≤◌, ℕ, Option, Result, IfOk, IfSome, OnOk, OnErr, IsErrOf}
use Rattle.std.specs.Option.{option_map}
use Rattle.muni_edge.specs.Faults.{Rose}
use Rattle.muni_keep.specs.Tables.{Tables}
use Rattle.muni_keep.specs.declared.fault.KeepFault.{KeepFault}
use Rattle.muni_keep.specs.declared.fault.KeepFault.TheVariants.{Failed}

-- An answer is this value of the tables, if they are exposed.
abbrev pub Found : {T E : Type 0} → Option Tables → Result T E → (Tables → T) → Type 0
Found exposed result value = IfOk result (λ found. IfSome exposed (λ tables. found ≡ value tables))

-- a call that only looks
pub record Reads {K T : Type 0} (tables_of : K → Option Tables) (faults_of lent_as_of : K → ℕ) (result : Result T KeepFault) (old new : K) : Type 0 where
  pub unchanged : tables_of new ≡ tables_of old
  pub later : faults_of old ≤ faults_of new
  pub failed : IsErrOf result Failed → Rose (faults_of old) (faults_of new)
  pub lent_as : lent_as_of new ≡ lent_as_of old

-- a call that changes the tables by an edit, or after a refusal not at all
pub record Edits {K T : Type 0} (tables_of : K → Option Tables) (faults_of lent_as_of : K → ℕ) (edit : Tables → Tables) (result : Result T KeepFault) (old new : K) : Type 0 where
  pub kept : OnOk result (tables_of new ≡ option_map edit (tables_of old))
  pub unchanged : OnErr result (tables_of new ≡ tables_of old)
  pub later : faults_of old ≤ faults_of new
  pub failed : IsErrOf result Failed → Rose (faults_of old) (faults_of new)
  pub lent_as : lent_as_of new ≡ lent_as_of old
