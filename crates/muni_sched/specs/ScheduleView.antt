-- A schedule as it is held.
use Rattle.std.specs.Prelude.{ℕ, List}
use Rattle.muni_sched.specs.declared.candidate.Candidate.{Candidate}

-- the candidates, and how many rounds the last search for a yield took
pub record ScheduleView : Type 0 where
  pub candidates : List Candidate
  pub rounds : ℕ

abbrev pub schedule_view : List Candidate → ℕ → ScheduleView
schedule_view candidates rounds = record { candidates = candidates; rounds = rounds }
