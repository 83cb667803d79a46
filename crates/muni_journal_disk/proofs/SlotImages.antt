-- The images of a disk between the four calls of a put.
use Rattle.std.proofs.Common.{◌≡◌, ◌≢◌, ◌↔◌, inl, inr, ℕ, ◌+◌, List, [], ◌∷◌, refl, sym, ◌∙◌, ap, arith}
use Rattle.muni_journal_disk.specs.Bytes.{byte_at, StandsAt, IsSameOutside}
use Rattle.muni_journal_disk.specs.Disk.{ComesFrom, IsTorn, GoesBy, StopsLeave}
use Rattle.muni_journal_disk.proofs.Runs.{started, goes_on}
use Rattle.muni_journal_disk.specs.Slots.{IsStep, IsUnopened, IsDoubtful, IsPut, IsTakenBack, AllImages}

pub fewer : (old new IsSo : List ℕ → Type 0) → ((c : List ℕ) → new c → old c) → AllImages old IsSo → AllImages new IsSo
fewer old new IsSo less all = record { each = λ c now. all.each c (less c now) }

pub weaker : (image IsSo IsAlso : List ℕ → Type 0) → AllImages image IsSo → ((c : List ℕ) → IsSo c → IsAlso c) → AllImages image IsAlso
weaker image IsSo IsAlso all so = record { each = λ c now. so c (all.each c now) }

module _ (gate : ℕ) (piece : List ℕ) (image : List ℕ → Type 0) where
  -- until the first sync a stop may leave any bytes of the piece
  pub behind_all : (n : ℕ) (new : List ℕ → Type 0) → IsTorn (gate + 1) n image new → AllImages new (ComesFrom (IsUnopened gate) image)
  behind_all n new torn = record {
    each = λ c now. let from = torn c now in (from.0, from.1, record { each = λ i below. from.2.before i below });
  }

  -- the first sync makes the piece last
  pub staged : (reads mid new : List ℕ → Type 0) → ((c : List ℕ) → reads c → mid c) → AllImages mid (ComesFrom (IsUnopened gate) image)
      → ((c : List ℕ) → reads c → StandsAt (gate + 1) piece c) → ((c : List ℕ) → new c → reads c) → AllImages new (ComesFrom (IsDoubtful gate piece) image)
  staged reads mid new is_image unopened written only = record {
    each = λ c now.
        let from = unopened.each c (is_image c (only c now)) in
        (from.0, from.1, record { before = record { each = λ i below. from.2.each i (omega (arith, below)) }; behind = written c (only c now) });
  }

  -- until then a stop may leave any byte as the gate
  pub gate_all : (mid new : List ℕ → Type 0) → IsTorn gate 1 mid new → AllImages mid (ComesFrom (IsDoubtful gate piece) image) → AllImages new (ComesFrom (IsDoubtful gate piece) image)
  gate_all mid new torn doubtful = record {
    each = λ c now.
        let at = torn c now in
        let from = doubtful.each at.0 at.1 in (
          from.0,
          from.1,
          record {
            before = record { each = λ i below. at.2.before i below ∙ from.2.before.each i below };
            behind = record { each = λ i within. at.2.after (gate + 1 + i) (omega arith) ∙ from.2.behind.each i within };
          },
        );
  }

  -- the second sync makes the open gate last
  pub opened : (reads mid new : List ℕ → Type 0) → ((c : List ℕ) → reads c → mid c) → AllImages mid (ComesFrom (IsDoubtful gate piece) image)
      → ((c : List ℕ) → reads c → StandsAt gate (1 ∷ []) c) → ((c : List ℕ) → new c → reads c) → AllImages new (ComesFrom (IsPut gate piece) image)
  opened reads mid new is_image doubtful written only = record {
    each = λ c now.
        let from = doubtful.each c (is_image c (only c now)) in
        let place : gate ≡ gate + 0 = omega arith in
        (from.0, from.1, record { before = from.2.before; is_open = ap (byte_at c) place ∙ (written c (only c now)).each 0 (omega arith); behind = from.2.behind });
  }

  pub unopened_step : AllImages image (λ c. byte_at c gate ≢ 1) → (c : List ℕ) → ComesFrom (IsUnopened gate) image c → ComesFrom (IsStep gate piece) image c
  unopened_step closed c from = (
    from.0,
    from.1,
    record {
      before = record { each = λ i below. from.2.each i (omega (arith, below)) };
      whole = inl (λ is_open. (closed.each from.0 from.1) (sym (from.2.each gate (omega arith)) ∙ is_open));
    },
  )

  pub doubtful_step : (c : List ℕ) → ComesFrom (IsDoubtful gate piece) image c → ComesFrom (IsStep gate piece) image c
  doubtful_step c from = (from.0, from.1, record { before = from.2.before; whole = inr from.2.behind })

  pub same_step : AllImages image (λ c. byte_at c gate ≢ 1) → (c : List ℕ) → image c → ComesFrom (IsStep gate piece) image c
  same_step closed c now = (c, now, record { before = record { each = λ i below. refl }; whole = inl (closed.each c now) })

-- the gate is the one byte that a stop may leave torn
module _ (gate : ℕ) (image : List ℕ → Type 0) where
  pub gate_torn : (mid new : List ℕ → Type 0) → IsTorn gate 1 mid new → AllImages mid (ComesFrom (IsSameOutside gate 1) image) → AllImages new (ComesFrom (IsSameOutside gate 1) image)
  gate_torn mid new torn kept = record {
    each = λ c now.
        let at = torn c now in
        let from = kept.each at.0 at.1 in (
          from.0,
          from.1,
          record {
            before = λ i below. at.2.before i below ∙ from.2.before i below;
            after = λ i past. at.2.after i past ∙ from.2.after i past;
          },
        );
  }

  pub same_kept : AllImages image (ComesFrom (IsSameOutside gate 1) image)
  same_kept = record { each = λ c now. (c, now, record { before = λ i below. refl; after = λ i past. refl }) }

  pub closed_again : (reads mid new : List ℕ → Type 0) → ((c : List ℕ) → reads c → mid c) → AllImages mid (ComesFrom (IsSameOutside gate 1) image)
      → ((c : List ℕ) → reads c → StandsAt gate (0 ∷ []) c) → ((c : List ℕ) → new c → reads c) → AllImages new (ComesFrom (IsTakenBack gate) image)
  closed_again reads mid new is_image kept written only = record {
    each = λ c now.
        let from = kept.each c (is_image c (only c now)) in
        let place : gate ≡ gate + 0 = omega arith in
        (from.0, from.1, record { others = from.2; is_closed = ap (byte_at c) place ∙ (written c (only c now)).each 0 (omega arith) });
  }

-- a run of calls, and the call after it
module _ {D : Type 0} (clock : D → ℕ) (since : D → ℕ → List ℕ → Type 0) (image : D → List ℕ → Type 0) (IsSo : List ℕ → Type 0) where
  pub begun : (old : D) → ((c : List ℕ) → since old (clock old) c ↔ image old c) → AllImages (image old) IsSo → StopsLeave clock since old old IsSo
  begun old now before = started clock since old IsSo (λ c left. before.each c ((now c).0 left))

  pub next : (old mid new : D) → StopsLeave clock since old mid IsSo → GoesBy (clock mid) (clock new) (since mid) (since new) (image new) → AllImages (image new) IsSo → StopsLeave clock since old new IsSo
  next old mid new so_far time all = goes_on clock since old mid new IsSo (image new) so_far time all.each
