-- Texts that are written one after another.
use Rattle.std.proofs.Common.{◌≡◌, ◌+◌, ◌∙◌, ℕ, List, [], ◌++◌, Bool, length, take, Option, Some, None, Err, sym, ap, append_assoc}
use Rattle.std.proofs.Math.Seq.{take-append-add}
use Rattle.std.proofs.lemmas.Grind.{flat_map-append}
use Rattle.std.proofs.lemmas.List.{append-nil}
use Rattle.muni_edge.specs.Sink.{HasWritten, HasWrittenPart}
use Rattle.muni_keep.specs.Tables.{Tables}
use Rattle.muni_keep.specs.declared.fault.KeepFault.{KeepFault}
use Rattle.muni_keep.specs.declared.fault.KeepFault.TheVariants as keeper
use Rattle.muni_desk_io.specs.Fault.{of_keeper}
use Rattle.muni_check_rows.specs.Line.{unseen_line, unseen_lines}
use Rattle.muni_check.specs.Pages.{AreFirstUnseen, WritesUnseen}
use Rattle.muni_check.specs.Unseen.{unseen_of}
use Rattle.muni_check.proofs.UnseenLemmas.{AreBefore, lines_past}

pub written-none : (had : Option (List ℕ)) → HasWritten had had []
written-none None = tt
written-none (Some text) = ap (λ t. Some t) (sym (append-nil text))

pub written-more : (had mid has : Option (List ℕ)) (text more : List ℕ) → HasWritten had mid text → HasWritten mid has more → HasWritten had has (text ++ more)
written-more None mid has text more first second = tt
written-more (Some h) mid has text more first second =
    let then = rw first at second in
    then ∙ ap (λ t. Some t) (append_assoc h text more)

pub written-part : (had mid has : Option (List ℕ)) (text more : List ℕ) → HasWritten had mid text → HasWrittenPart mid has more → HasWrittenPart had has (text ++ more)
written-part None mid has text more first second = tt
written-part (Some h) mid has text more first second =
    let then = rw first at second in
    (length text + then.0, then.1 ∙ ap (λ t. Some t) (append_assoc h text (take then.0 more) ∙ ap (λ l. h ++ l) (sym (take-append-add text more then.0))))

pub lines-of-more : (unseen more : List (List ℕ)) → unseen_lines (unseen ++ more) ≡ unseen_lines unseen ++ unseen_lines more
lines-of-more unseen more = flat_map-append unseen_line unseen more

-- the references so far are the first of all
pub first-unseen : (told : Option Tables) (desk : List ℕ) (is_named : List ℕ → Bool) (after : Option (List ℕ)) (unseen : List (List ℕ)) → AreBefore told desk is_named after unseen → AreFirstUnseen desk is_named told unseen
first-unseen None desk is_named after unseen before = record { left = []; all = tt }
first-unseen (Some tables) desk is_named after unseen before = record { left = unseen_of is_named (lines_past tables desk after); all = before }

-- a page could not be read
pub unread : (fault : KeepFault) (told : Option Tables) (desk : List ℕ) (is_named : List ℕ → Bool) (unseen : List (List ℕ)) (had has : Option (List ℕ)) → AreFirstUnseen desk is_named told unseen → HasWritten had has (unseen_lines unseen)
    → WritesUnseen desk is_named told (Err (of_keeper fault)) had has
unread keeper.Failed told desk is_named unseen had has first written = (unseen, first, written)
unread keeper.NoMemory told desk is_named unseen had has first written = (unseen, first, written)
