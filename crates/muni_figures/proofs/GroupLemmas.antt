-- Blocks that are taken from an input one after another.
use Rattle.std.proofs.Common.{◌≡◌, ◌≢◌, ◌∙◌, ℕ, zero, suc, List, [], ◌∷◌, ◌++◌, refl, sym, ap, subst, arith}
use Rattle.std.specs.Prelude.{All}
use Rattle.std.proofs.lemmas.Grind.{flat_map-append}
use Rattle.std.proofs.lemmas.List.{append-nil, append_assoc}
use Rattle.muni_edge.specs.Faults.{Rose}
use Rattle.muni_edge.specs.declared.source.Source.{Ghosts}
use Rattle.muni_desk_io.proofs.TakenLemmas.{taken-then}
use Rattle.muni_figures.specs.Blocks.{Cuts, IsLeft, TakesBlock}
use Rattle.muni_figures.specs.Groups.{CutsAll, TakesGroup}
use Rattle.muni_figures.specs.Rows.{Row, rows_in}
use Rattle.muni_figures.specs.Shares.{rows_of_share, rows_of_shares}
use Rattle.muni_figures.specs.declared.blocks.LineBlocks.{LineBlocks}
use Rattle.muni_figures.specs.declared.blocks.Reading.{Reading}
use Rattle.muni_figures.specs.declared.blocks.Reading.TheVariants.{Open, Ended, Failed}
use Rattle.muni_figures.specs.declared.shares.Share.{Share}
use Rattle.muni_figures.proofs.BlockLemmas.{no-rows}

-- one block
first-cuts : (reading : Reading) (text block held : List ℕ) → Cuts reading text block held → CutsAll reading text (rows_in block ++ []) held
first-cuts Open text block held cuts = record { all = λ more. cuts.rows more ∙ ap (λ l. l ++ rows_in (held ++ more)) (sym (append-nil (rows_in block))); few = cuts.few }
first-cuts Failed text block held cuts = record { all = λ more. cuts.rows more ∙ ap (λ l. l ++ rows_in (held ++ more)) (sym (append-nil (rows_in block))); few = cuts.few }
first-cuts Ended text block held cuts = (ap rows_in (sym cuts.0) ∙ sym (append-nil (rows_in block)), cuts.1)

-- one block more
more-cuts : (was now : Reading) (text piece block middle held : List ℕ) (rows : List Row) → (was ≢ Open → (now ≡ was) × (piece ≡ [])) → CutsAll was text rows middle → Cuts now (middle ++ piece) block held
    → CutsAll now (text ++ piece) (rows ++ (rows_in block ++ [])) held
more-cuts Open now text piece block middle held rows over first then = by now then
  where
    cut : (all : (more : List ℕ) → rows_in (text ++ more) ≡ rows ++ rows_in (middle ++ more)) (more : List ℕ) → rows_in ((middle ++ piece) ++ more) ≡ rows_in block ++ rows_in (held ++ more)
        → rows_in ((text ++ piece) ++ more) ≡ (rows ++ (rows_in block ++ [])) ++ rows_in (held ++ more)
    cut all more next =
        ap rows_in (append_assoc text piece more) ∙ all (piece ++ more)
        ∙ ap (λ l. rows ++ rows_in l) (sym (append_assoc middle piece more)) ∙ ap (λ l. rows ++ l) next
        ∙ sym (append_assoc rows (rows_in block) (rows_in (held ++ more)))
        ∙ ap (λ l. (rows ++ l) ++ rows_in (held ++ more)) (sym (append-nil (rows_in block)))

    by : (now : Reading) → Cuts now (middle ++ piece) block held → CutsAll now (text ++ piece) (rows ++ (rows_in block ++ [])) held
    by Open then = record { all = λ more. cut first.all more (then.rows more); few = then.few }
    by Failed then = record { all = λ more. cut first.all more (then.rows more); few = then.few }
    by Ended then = (first.all piece ∙ ap (λ l. rows ++ l) (ap rows_in (sym then.0) ∙ sym (append-nil (rows_in block))), then.1)
more-cuts Failed Open text piece block middle held rows over first then = absurd (cc (over (λ e. cc e)).0)
more-cuts Failed Ended text piece block middle held rows over first then = absurd (cc (over (λ e. cc e)).0)
more-cuts Failed Failed text piece block middle held rows over first then = record {
  all = λ more.
      ap rows_in (append_assoc text piece more) ∙ first.all (piece ++ more)
      ∙ ap (λ l. rows ++ rows_in l) (sym (append_assoc middle piece more)) ∙ ap (λ l. rows ++ l) (then.rows more)
      ∙ sym (append_assoc rows (rows_in block) (rows_in (held ++ more)))
      ∙ ap (λ l. (rows ++ l) ++ rows_in (held ++ more)) (sym (append-nil (rows_in block)));
  few = then.few;
}
more-cuts Ended Open text piece block middle held rows over first then = absurd (cc (over (λ e. cc e)).0)
more-cuts Ended Failed text piece block middle held rows over first then = absurd (cc (over (λ e. cc e)).0)
more-cuts Ended Ended text piece block middle held rows over first then =
    let none = (over (λ e. cc e)).1 in
    let empty : block ≡ [] = then.0 ∙ ap (λ l. l ++ piece) first.1 ∙ none in
    (ap rows_in (ap (λ l. text ++ l) none ∙ append-nil text) ∙ first.0 ∙ sym (append-nil rows) ∙ ap (λ l. rows ++ (l ++ [])) (sym (ap rows_in empty ∙ no-rows)), then.1)

left-later : {I : Type 0} (source : Ghosts I) (reading : Reading) (old mid new : I) → source.faults mid ≡ source.faults old → IsLeft source reading mid new → IsLeft source reading old new
left-later source Open old mid new same left = left ∙ same
left-later source Ended old mid new same left = (left.0, left.1 ∙ same)
left-later source Failed old mid new same left = subst (λ n. Rose n (source.faults new)) same left

left-then : {I : Type 0} (source : Ghosts I) (was now : Reading) (old mid new : I) → IsLeft source was old mid → (was ≡ Open → IsLeft source now mid new) → (was ≢ Open → (now ≡ was) × (new ≡ mid)) → IsLeft source now old new
left-then source Open now old mid new left goes over = left-later source now old mid new left (goes refl)
left-then source Ended now old mid new left goes over =
    let same = over (λ e. cc e) in
    subst (λ r. IsLeft source r old new) (sym same.0) (subst (λ i. IsLeft source Ended old i) (sym same.1) left)
left-then source Failed now old mid new left goes over =
    let same = over (λ e. cc e) in
    subst (λ r. IsLeft source r old new) (sym same.0) (subst (λ i. IsLeft source Failed old i) (sym same.1) left)

pub group-more : {I : Type 0} (source : Ghosts I) (before middle now : LineBlocks) (shares : List Share) (share : Share) (old mid new : I) → TakesGroup source before middle shares old mid → TakesBlock source middle now share.block.items mid new
    → TakesGroup source before now (shares ++ share ∷ []) old new
group-more source before middle now shares share old mid new group block =
    let piece = group.piece ++ block.piece in
    let over = λ (done : middle.reading ≢ Open). block.over done in
    let joined : (before.held.items ++ group.piece) ++ block.piece ≡ before.held.items ++ piece = append_assoc before.held.items group.piece block.piece in
    let cuts = more-cuts middle.reading now.reading (before.held.items ++ group.piece) block.piece share.block.items middle.held.items now.held.items (rows_of_shares shares)
    (λ done. ((over done).0, (over done).2)) group.cuts block.cuts in
    record {
      piece = piece;
      taken = taken-then (source.left old) (source.left mid) (source.left new) group.piece block.piece piece group.taken block.taken refl;
      cuts = subst (λ rows. CutsAll now.reading (before.held.items ++ piece) rows now.held.items) (sym (flat_map-append rows_of_share shares (share ∷ [])))
          (subst (λ text. CutsAll now.reading text (rows_of_shares shares ++ (rows_of_share share ++ [])) now.held.items) joined cuts);
      left = λ opened. left-then source middle.reading now.reading old mid new (group.left opened) block.left (λ done. ((over done).0, (over done).1));
      over = λ ended.
          let first = group.over ended in
          let done : middle.reading ≢ Open = λ opened. ended (sym first.0 ∙ opened) in
          let then = over done in
          (then.0 ∙ first.0, then.1 ∙ first.1, ap (λ l. group.piece ++ l) then.2 ∙ append-nil group.piece ∙ first.2);
      few = (block.few group.few).1;
    }

pub all-push : {X : Type 0} (P : X → Type 0) (xs : List X) (x : X) → All P xs → P x → All P (xs ++ x ∷ [])
all-push P [] x all is zero d within = is
all-push P [] x all is (suc k) d within = absurd (omega (arith, within))
all-push P (y ∷ ys) x all is zero d within = all 0 d (omega arith)
all-push P (y ∷ ys) x all is (suc k) d within = all-push P ys x (λ k d within. all (suc k) d (omega (arith, within))) is k d (omega (arith, within))
