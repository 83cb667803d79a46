-- A check of an input over a keeper: how it begins, and what comes of its next block.
use Rattle.std.proofs.Common.{◌≡◌, ◌≤◌, ℕ, List, [], ◌++◌, length, Bool, true, false, Option, Some, None, Ok, Err, refl, sym, subst, arith}
use Rattle.std.specs.Prelude.{IfSome}
use Rattle.std.specs.Global.{Vec}
use Rattle.std.specs.Io.KnownBytes.{Consumes}
use Rattle.muni_edge.specs.declared.source.Source.{Ghosts}
use Rattle.muni_import.proofs.LawLemmas.{few-records}
use Rattle.muni_desk_io.specs.declared.fault.Fault.{Fault}
use Rattle.muni_desk_io.specs.declared.fault.Fault.TheVariants.{Read, Write, Store, NoMemory, TooLarge}
use Rattle.muni_desk_io.proofs.TakenLemmas.{taken-then}
use Rattle.muni_check.specs.Answer.{Over}
use Rattle.muni_check.specs.Checked.{WroteChecked}
use Rattle.muni_check.specs.Next.{EndsAt, GivesBlock}
use Rattle.muni_check_rows.specs.Rows.{records_of}
use Rattle.muni_check.specs.declared.blocks.Blocks.{Blocks}
use Rattle.muni_check.specs.declared.rows.SoFar.{SoFar}
use Rattle.muni_check.proofs.CheckLemmas.{IsAt, IsLeftAt, IsTaken, block-taken, check-stopped, check-unread}
use Rattle.muni_check.proofs.StateLemmas.{IsStart}
use Rattle.muni_check.proofs.WriteLemmas.{written-none}

-- nothing has come
pub none-taken : (left : Option (List ℕ)) → Consumes left left []
none-taken None = tt
none-taken (Some text) = refl

few-at-start : length (records_of []) ≤ 1
unfolding records_of
few-at-start = omega (arith, few-records [])

pub nothing-done : (over : Over) (first : Option (List ℕ)) (held : List ℕ) (so_far : SoFar) (had : Option (List ℕ)) → held ≡ [] → so_far.columns ≡ None → IsStart so_far.progress
    → IsAt over first first held so_far had had
nothing-done over first held so_far had none columns starts = rw none record {
  came = [];
  taken = none-taken first;
  done = [];
  split = λ more. refl;
  few = few-at-start;
  lines = [];
  are = (columns, refl, starts);
  written = written-none had;
}

module _ {I : Type 0} (source : Ghosts I) (over : Over) (first : Option (List ℕ)) (before now : Blocks) (old new : I) (so_far : SoFar) (had has : Option (List ℕ)) where
  -- no block comes
  pub next-failed : (fault : Fault) → IsAt over first (source.left old) before.held so_far had has → GivesBlock source (Err fault) before now old new
      → IfSome first (λ text. WroteChecked over text (Err fault) (source.left new) had has)
  next-failed Read at_ gives = check-unread over first (source.left old) (source.left new) before.held so_far had has at_ gives.left
  next-failed NoMemory at_ gives = check-stopped over first (source.left old) (source.left new) before.held so_far had has at_
  next-failed Write at_ gives = absurd gives
  next-failed Store at_ gives = absurd gives
  next-failed TooLarge at_ gives = absurd gives

  pub next-failed-took : (fault : Fault) → IsAt over first (source.left old) before.held so_far had has → GivesBlock source (Err fault) before now old new
      → (came : List ℕ) × Consumes first (source.left new) came
  next-failed-took Read at_ gives = (at_.came, subst (λ l. Consumes first l at_.came) (sym gives.left) at_.taken)
  next-failed-took NoMemory at_ gives =
      (at_.came ++ gives.piece, taken-then first (source.left old) (source.left new) at_.came gives.piece (at_.came ++ gives.piece) at_.taken gives.taken refl)
  next-failed-took Write at_ gives = absurd gives
  next-failed-took Store at_ gives = absurd gives
  next-failed-took TooLarge at_ gives = absurd gives

  -- a block comes
  left-at : (ended : Bool) → EndsAt source ended new → IsLeftAt ended (source.left new)
  left-at false end = tt
  left-at true end = end

  pub next-taken : (block : Vec ℕ) → IsAt over first (source.left old) before.held so_far had has → GivesBlock source (Ok block) before now old new
      → IsTaken over first (source.left new) now.ended block.items now.held so_far had has
  next-taken block at_ gives =
      block-taken over first (source.left old) (source.left new) now.ended gives.piece block.items before.held now.held so_far had has at_ gives.taken gives.cuts (left-at now.ended gives.end)
