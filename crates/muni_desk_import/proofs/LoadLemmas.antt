-- Rows that come in blocks.
use Rattle.std.proofs.Common.{◌≡◌, ◌≤◌, ◌+◌, ◌⊎◌, ◌∙◌, inl, inr, ℕ, List, [], ◌∷◌, ◌++◌, length, Option, Some, None, Result, Ok, Err, IfSome, refl, sym, ap, subst, arith}
use Rattle.std.specs.Io.KnownBytes.{Consumes, IsAtEnd}
use Rattle.std.proofs.lemmas.List.{append_assoc, append-nil, length-append, length-map}
use Rattle.muni_edge.specs.Faults.{Rose}
use Rattle.muni_edge.specs.declared.sink.Sink as Sink
use Rattle.muni_edge.specs.declared.source.Source as Source
use Rattle.muni_keep.specs.Tables.{Tables}
use Rattle.muni_keep.specs.declared.keeper.Keeper as Keeper
use Rattle.muni_book_step.specs.Step.{Rules}
use Rattle.muni_import.specs.Blocks.{CutsOff}
use Rattle.muni_import.specs.Row.{Row, row_of}
use Rattle.muni_import.specs.Rows.{records_of, rows_of}
use Rattle.muni_import.proofs.BlockLemmas.{few-held}
use Rattle.muni_desk_io.specs.declared.fault.Fault.{Fault}
use Rattle.muni_desk_io.specs.declared.fault.Fault.TheVariants.{Read, Write, Store, NoMemory, TooLarge}
use Rattle.muni_desk_io.proofs.TakenLemmas.{taken-then}
use Rattle.muni_desk_import.specs.Blocks.{AppliedAfter, Done, DoneNext, DoneFirst, DoneBefore, DonePart, DoneMost}
use Rattle.muni_desk_import.specs.Loaded.{DidCame, DidMost, HasTooManyRows, LoadedRows, LoadReported}
use Rattle.muni_desk_import.proofs.FaultLemmas.{if-some, known-first, known-before, known-part, reported-first, reported-before, reported-part}
use Rattle.muni_desk_import.proofs.ImportLemmas.{done-join, done-next, done-none}

-- ---- rows of a block after others
-- the first rows of a block, after others, are the first of them all
abbrev first-behind : (R : Rules) (place : ℕ) (rows these later all : List Row) (old mid now : Option Tables) (had there has : Option (List ℕ)) → Done 1 R rows old mid had there → all ≡ rows ++ (these ++ later)
    → place ≡ 1 + length rows → DoneFirst place R these mid now there has → DoneFirst 1 R all old now had has
first-behind R place rows these later all old mid now had there has done is here first = record {
  rows = rows ++ first.rows;
  left = first.left ++ later;
  split = append_assoc rows first.rows (first.left ++ later) ∙ ap (λ l. rows ++ l) (sym (append_assoc first.rows first.left later) ∙ ap (λ l. l ++ later) first.split) ∙ sym is;
  done = done-join 1 R rows first.rows old mid now had there has done (subst (λ n. Done n R first.rows mid now there has) here first.done);
}

abbrev before-behind : (R : Rules) (place : ℕ) (rows these later all : List Row) (old mid now : Option Tables) (had there has : Option (List ℕ)) → Done 1 R rows old mid had there → all ≡ rows ++ (these ++ later)
    → place ≡ 1 + length rows → DoneBefore place R these mid now there has → DoneBefore 1 R all old now had has
before-behind R place rows these later all old mid now had there has done is here before = record {
  rows = rows ++ before.rows;
  row = before.row;
  left = before.left ++ later;
  split = append_assoc rows before.rows (before.row ∷ before.left ++ later) ∙ ap (λ l. rows ++ l) (sym (append_assoc before.rows (before.row ∷ before.left) later) ∙ ap (λ l. l ++ later) before.split) ∙ sym is;
  done = done-join 1 R rows before.rows old mid now had there has done (subst (λ n. Done n R before.rows mid now there has) here before.done);
}

abbrev part-behind : (R : Rules) (place : ℕ) (rows these later all : List Row) (old mid now : Option Tables) (had there has : Option (List ℕ)) → Done 1 R rows old mid had there → all ≡ rows ++ (these ++ later)
    → place ≡ 1 + length rows → DonePart place R these mid now there has → DonePart 1 R all old now had has
part-behind R place rows these later all old mid now had there has done is here part = record {
  rows = rows ++ part.rows;
  row = part.row;
  left = part.left ++ later;
  split = append_assoc rows part.rows (part.row ∷ part.left ++ later) ∙ ap (λ l. rows ++ l) (sym (append_assoc part.rows (part.row ∷ part.left) later) ∙ ap (λ l. l ++ later) part.split) ∙ sym is;
  done = done-next 1 R rows part.rows part.row old mid now had there has done (subst (λ n. DoneNext n R part.rows part.row mid now there has) here part.done);
}

-- how a block ends early, of all rows
abbrev pub EndsBy : Rules → List Row → Fault → (old now : Option Tables) → (had has : Option (List ℕ)) → Type 0
EndsBy R all Store old now had has = DoneBefore 1 R all old now had has
EndsBy R all NoMemory old now had has = DoneFirst 1 R all old now had has
EndsBy R all Write old now had has = DonePart 1 R all old now had has
EndsBy R all TooLarge old now had has = DoneMost 0 R all old now had has
EndsBy R all Read old now had has = ⊥

ends-behind : {K O : Type 0} (keeper : Keeper.Ghosts K) (sink : Sink.Ghosts O) (R : Rules) (count : ℕ) (rows these later all : List Row) (fault : Fault) (old : Option Tables) (had : Option (List ℕ)) (mid now : K) (before after : O)
    → count ≡ length rows → Done 1 R rows old (keeper.tables mid) had (sink.bytes before) → all ≡ rows ++ (these ++ later) → AppliedAfter keeper sink R count these (Err fault) mid now before after
    → EndsBy R all fault old (keeper.tables now) had (sink.bytes after)
ends-behind keeper sink R count rows these later all Store old had mid now before after counts done is applied =
    before-behind R (count + 1) rows these later all old (keeper.tables mid) (keeper.tables now) had (sink.bytes before) (sink.bytes after) done is (omega (arith, counts)) applied
ends-behind keeper sink R count rows these later all NoMemory old had mid now before after counts done is applied =
    first-behind R (count + 1) rows these later all old (keeper.tables mid) (keeper.tables now) had (sink.bytes before) (sink.bytes after) done is (omega (arith, counts)) applied
ends-behind keeper sink R count rows these later all Write old had mid now before after counts done is applied =
    part-behind R (count + 1) rows these later all old (keeper.tables mid) (keeper.tables now) had (sink.bytes before) (sink.bytes after) done is (omega (arith, counts)) applied.0
ends-behind keeper sink R count rows these later all TooLarge old had mid now before after counts done is applied =
    let most : 0 + length (rows ++ applied.first.rows) ≡ 4_294_967_295 = omega (arith, applied.most, counts, length-append rows applied.first.rows) in
    record {
      first = before-behind R (count + 1) rows these later all old (keeper.tables mid) (keeper.tables now) had (sink.bytes before) (sink.bytes after) done is (omega (arith, counts)) applied.first;
      most = most;
    }
ends-behind keeper sink R count rows these later all Read old had mid now before after counts done is applied = absurd applied

-- no read is made in a block, and a put that failed is counted
not-read : {K O : Type 0} (keeper : Keeper.Ghosts K) (sink : Sink.Ghosts O) (R : Rules) (count : ℕ) (these : List Row) (fault : Fault) (mid now : K) (before after : O)
    → AppliedAfter keeper sink R count these (Err fault) mid now before after → ¬ (fault ≡ Read)
not-read keeper sink R count these Store mid now before after applied = λ is. cc is
not-read keeper sink R count these NoMemory mid now before after applied = λ is. cc is
not-read keeper sink R count these Write mid now before after applied = λ is. cc is
not-read keeper sink R count these TooLarge mid now before after applied = λ is. cc is
not-read keeper sink R count these Read mid now before after applied = absurd applied

rose-write : {K O : Type 0} (keeper : Keeper.Ghosts K) (sink : Sink.Ghosts O) (R : Rules) (count : ℕ) (these : List Row) (fault : Fault) (mid now : K) (first before after : O)
    → sink.faults before ≡ sink.faults first → AppliedAfter keeper sink R count these (Err fault) mid now before after → fault ≡ Write → Rose (sink.faults first) (sink.faults after)
rose-write keeper sink R count these Write mid now first before after same applied is = subst (λ n. Rose n (sink.faults after)) same applied.1
rose-write keeper sink R count these Store mid now first before after same applied is = absurd (cc is)
rose-write keeper sink R count these NoMemory mid now first before after same applied is = absurd (cc is)
rose-write keeper sink R count these TooLarge mid now first before after same applied is = absurd (cc is)
rose-write keeper sink R count these Read mid now first before after same applied is = absurd applied

-- if all rows are done, no put failed
pub only-written : {T : Type 0} (before now : ℕ) (x : T) → (now ≡ before) ⊎ (◌≡◌ {A = Result T Fault} (Ok x) (Err Write)) → now ≡ before
only-written before now x (inl same) = same
only-written before now x (inr never) = absurd (cc never)

-- ---- these rows are done of the bytes that came, and others are held
pub record IsLoaded (R : Rules) (held : List ℕ) (count : ℕ) (first left : Option (List ℕ)) (old now : Option Tables) (had has : Option (List ℕ)) : Type 0 where
  pub rows : List Row
  pub came : List ℕ
  pub taken : Consumes first left came
  pub cut : (more : List ℕ) → rows_of (came ++ more) ≡ rows ++ rows_of (held ++ more)
  pub few : length (rows_of held) ≤ 1
  pub counted : count ≡ length rows
  pub done : Done 1 R rows old now had has

taken-none : (first : Option (List ℕ)) → Consumes first first []
taken-none None = tt
taken-none (Some text) = refl

none-held : length (rows_of []) ≤ 1
unfolding rows_of
none-held = omega (arith, few-held [] tt, length-map (records_of []) row_of)

pub loaded-start : (R : Rules) (first : Option (List ℕ)) (old : Option Tables) (had : Option (List ℕ)) → IsLoaded R [] 0 first first old old had had
loaded-start R first old had = record {
  rows = [];
  came = [];
  taken = taken-none first;
  cut = λ more. refl;
  few = none-held;
  counted = refl;
  done = done-none 1 R old had;
}

-- the rows of all bytes, after a block more
block-cut : (R : Rules) (held piece block rest : List ℕ) (count : ℕ) (first left : Option (List ℕ)) (old now : Option Tables) (had has : Option (List ℕ)) (loaded : IsLoaded R held count first left old now had has) → CutsOff (held ++ piece) block rest
    → (more : List ℕ) → rows_of ((loaded.came ++ piece) ++ more) ≡ loaded.rows ++ (rows_of block ++ rows_of (rest ++ more))
block-cut R held piece block rest count first left old now had has loaded cuts more =
    ap rows_of (append_assoc loaded.came piece more) ∙ loaded.cut (piece ++ more)
    ∙ ap (λ l. loaded.rows ++ l) (ap rows_of (sym (append_assoc held piece more)) ∙ cuts.rows more)

pub piece-taken : (R : Rules) (held piece : List ℕ) (count : ℕ) (first left now : Option (List ℕ)) (old tables : Option Tables) (had has : Option (List ℕ)) (loaded : IsLoaded R held count first left old tables had has) → Consumes left now piece → Consumes first now (loaded.came ++ piece)
piece-taken R held piece count first left now old tables had has loaded taken = taken-then first left now loaded.came piece (loaded.came ++ piece) loaded.taken taken refl

pub block-done : (R : Rules) (held piece block rest : List ℕ) (count after : ℕ) (first left now : Option (List ℕ)) (old mid tables : Option Tables) (had there has : Option (List ℕ)) → IsLoaded R held count first left old mid had there → Consumes left now piece → CutsOff (held ++ piece) block rest
    → Done (count + 1) R (rows_of block) mid tables there has → after ≡ count + length (rows_of block) → IsLoaded R rest after first now old tables had has
block-done R held piece block rest count after first left now old mid tables had there has loaded taken cuts done counts =
    let here : count + 1 ≡ 1 + length loaded.rows = omega (arith, loaded.counted) in
    record {
      rows = loaded.rows ++ rows_of block;
      came = loaded.came ++ piece;
      taken = piece-taken R held piece count first left now old mid had there loaded taken;
      cut = λ more. block-cut R held piece block rest count first left old mid had there loaded cuts more ∙ sym (append_assoc loaded.rows (rows_of block) (rows_of (rest ++ more)));
      few = cuts.few;
      counted = omega (arith, counts, loaded.counted, length-append loaded.rows (rows_of block));
      done = done-join 1 R loaded.rows (rows_of block) old mid tables had there has loaded.done
          (subst (λ n. Done n R (rows_of block) mid tables there has) here done);
    }

-- the rows after a block that are still to come
later-by : (rows these : List Row) (first now : Option (List ℕ)) (came rest : List ℕ) → Consumes first now came → ((more : List ℕ) → rows_of (came ++ more) ≡ rows ++ (these ++ rows_of (rest ++ more))) → IfSome first (λ text. (later : List Row) × (rows_of text ≡ rows ++ (these ++ later)))
later-by rows these None now came rest taken cut = tt
later-by rows these (Some text) None came rest taken cut = absurd taken
later-by rows these (Some text) (Some left) came rest taken cut = (rows_of (rest ++ left), ap rows_of taken ∙ cut left)

block-ended : {K O : Type 0} (keeper : Keeper.Ghosts K) (sink : Sink.Ghosts O) (R : Rules) (held piece block rest : List ℕ) (count : ℕ) (fault : Fault) (first left now : Option (List ℕ)) (old : Option Tables) (had : Option (List ℕ)) (mid last : K) (before after : O)
    → IsLoaded R held count first left old (keeper.tables mid) had (sink.bytes before) → Consumes left now piece → CutsOff (held ++ piece) block rest
    → AppliedAfter keeper sink R count (rows_of block) (Err fault) mid last before after
    → IfSome first (λ text. EndsBy R (rows_of text) fault old (keeper.tables last) had (sink.bytes after))
block-ended keeper sink R held piece block rest count fault first left now old had mid last before after loaded taken cuts applied =
    if-some first
    (λ text later. ends-behind keeper sink R count loaded.rows (rows_of block) later.0 (rows_of text) fault old had mid last before after loaded.counted loaded.done later.1 applied)
    (later-by loaded.rows (rows_of block) first now (loaded.came ++ piece) rest
    (piece-taken R held piece count first left now old (keeper.tables mid) had (sink.bytes before) loaded taken)
    (block-cut R held piece block rest count first left old (keeper.tables mid) had (sink.bytes before) loaded cuts))

-- ---- at the end the block is what is held
end-by : (rows : List Row) (first now : Option (List ℕ)) (came held : List ℕ) → Consumes first now came → IsAtEnd now → ((more : List ℕ) → rows_of (came ++ more) ≡ rows ++ rows_of (held ++ more)) → IfSome first (λ text. rows_of text ≡ rows ++ rows_of held)
end-by rows None now came held taken end cut = tt
end-by rows (Some text) None came held taken end cut = absurd taken
end-by rows (Some text) (Some left) came held taken end cut =
    ap rows_of (taken ∙ ap (λ l. came ++ l) end) ∙ cut [] ∙ ap (λ l. rows ++ rows_of l) (append-nil held)

at-end : (R : Rules) (held piece : List ℕ) (count : ℕ) (first left now : Option (List ℕ)) (old tables : Option Tables) (had has : Option (List ℕ)) (loaded : IsLoaded R held count first left old tables had has) → Consumes left now piece → piece ≡ [] → IsAtEnd now
    → IfSome first (λ text. rows_of text ≡ loaded.rows ++ rows_of held)
at-end R held piece count first left now old tables had has loaded taken none end =
    end-by loaded.rows first now loaded.came held (taken-then first left now loaded.came piece loaded.came loaded.taken taken (sym (append-nil loaded.came) ∙ ap (λ l. loaded.came ++ l) (sym none))) end loaded.cut

pub all-loaded : (R : Rules) (held piece : List ℕ) (count : ℕ) (first left now : Option (List ℕ)) (old mid tables : Option Tables) (had there has : Option (List ℕ)) → IsLoaded R held count first left old mid had there → Consumes left now piece → piece ≡ [] → IsAtEnd now
    → Done (count + 1) R (rows_of held) mid tables there has → IfSome first (λ text. Done 1 R (rows_of text) old tables had has)
all-loaded R held piece count first left now old mid tables had there has loaded taken none end done =
    let here : count + 1 ≡ 1 + length loaded.rows = omega (arith, loaded.counted) in
    let all = done-join 1 R loaded.rows (rows_of held) old mid tables had there has loaded.done (subst (λ n. Done n R (rows_of held) mid tables there has) here done) in
    if-some first (λ text is. subst (λ rows. Done 1 R rows old tables had has) (sym is) all) (at-end R held piece count first left now old mid had there loaded taken none end)

last-ended : {K O : Type 0} (keeper : Keeper.Ghosts K) (sink : Sink.Ghosts O) (R : Rules) (held piece : List ℕ) (count : ℕ) (fault : Fault) (first left now : Option (List ℕ)) (old : Option Tables) (had : Option (List ℕ)) (mid last : K) (before after : O)
    → IsLoaded R held count first left old (keeper.tables mid) had (sink.bytes before) → Consumes left now piece → piece ≡ [] → IsAtEnd now
    → AppliedAfter keeper sink R count (rows_of held) (Err fault) mid last before after
    → IfSome first (λ text. EndsBy R (rows_of text) fault old (keeper.tables last) had (sink.bytes after))
last-ended keeper sink R held piece count fault first left now old had mid last before after loaded taken none end applied =
    if-some first
    (λ text is. ends-behind keeper sink R count loaded.rows (rows_of held) [] (rows_of text) fault old had mid last before after loaded.counted loaded.done (is ∙ ap (λ l. loaded.rows ++ l) (sym (append-nil (rows_of held)))) applied)
    (at-end R held piece count first left now old (keeper.tables mid) had (sink.bytes before) loaded taken none end)

-- ---- how a load ends
pub load-done : {I K O : Type 0} (T : Type 0) (source : Source.Ghosts I) (keeper : Keeper.Ghosts K) (sink : Sink.Ghosts O) (R : Rules) (done : T) (from to : I) (old new : K) (before after : O)
    → IfSome (source.left from) (λ text. Done 1 R (rows_of text) (keeper.tables old) (keeper.tables new) (sink.bytes before) (sink.bytes after))
    → LoadedRows source keeper sink R (Ok done) from to old new before after × IfSome (source.left from) (λ text. LoadReported {T = T} text (Ok done) (sink.bytes before) (sink.bytes after))
load-done T source keeper sink R done from to old new before after all =
    (if-some (source.left from) (λ text (done : Done _ _ _ _ _ _ _). done.did) all, if-some (source.left from) (λ text (done : Done _ _ _ _ _ _ _). done.reports) all)

known-most : (R : Rules) (text : List ℕ) (old now : Option Tables) (had has : Option (List ℕ)) → DoneMost 0 R (rows_of text) old now had has → IfSome old (λ t. DidMost R text t now had has)
known-most R text old now had has most =
    if-some old (λ t did. record { first = record { rows = most.first.rows; row = most.first.row; left = most.first.left; all = most.first.split; did = did }; most = omega (arith, most.most) }) most.first.done.did

too-many : (R : Rules) (text : List ℕ) (old now : Option Tables) (had has : Option (List ℕ)) → DoneMost 0 R (rows_of text) old now had has → HasTooManyRows text
too-many R text old now had has most =
    let first = most.first in
    omega (arith, most.most, ap length first.split, length-append first.rows (first.row ∷ first.left))

-- by a fault of a block, or if memory runs out
load-ended : {I K O T : Type 0} (source : Source.Ghosts I) (keeper : Keeper.Ghosts K) (sink : Sink.Ghosts O) (R : Rules) (fault : Fault) (out : Result T Fault) (from to : I) (old new : K) (before after : O)
    → out ≡ Err fault → IfSome (source.left from) (λ text. EndsBy R (rows_of text) fault (keeper.tables old) (keeper.tables new) (sink.bytes before) (sink.bytes after))
    → ¬ (fault ≡ Read) → (fault ≡ Write → Rose (sink.faults before) (sink.faults after))
    → LoadedRows source keeper sink R out from to old new before after × IfSome (source.left from) (λ text. LoadReported text out (sink.bytes before) (sink.bytes after))
load-ended source keeper sink R Store out from to old new before after ends done other rose = rw ends (
  if-some (source.left from) (λ text. known-before R text (keeper.tables old) (keeper.tables new) (sink.bytes before) (sink.bytes after)) done,
  if-some (source.left from) (λ text. reported-before R text (keeper.tables old) (keeper.tables new) (sink.bytes before) (sink.bytes after)) done,
)
load-ended source keeper sink R NoMemory out from to old new before after ends done other rose = rw ends (
  if-some (source.left from) (λ text. known-first R text (keeper.tables old) (keeper.tables new) (sink.bytes before) (sink.bytes after)) done,
  if-some (source.left from) (λ text. reported-first R text (keeper.tables old) (keeper.tables new) (sink.bytes before) (sink.bytes after)) done,
)
load-ended source keeper sink R Write out from to old new before after ends done other rose = rw ends (
  (if-some (source.left from) (λ text. known-part R text (keeper.tables old) (keeper.tables new) (sink.bytes before) (sink.bytes after)) done, rose refl),
  if-some (source.left from) (λ text. reported-part R text (keeper.tables old) (keeper.tables new) (sink.bytes before) (sink.bytes after)) done,
)
load-ended source keeper sink R TooLarge out from to old new before after ends done other rose = rw ends (
  (
    if-some (source.left from) (λ text. known-most R text (keeper.tables old) (keeper.tables new) (sink.bytes before) (sink.bytes after)) done,
    if-some (source.left from) (λ text. too-many R text (keeper.tables old) (keeper.tables new) (sink.bytes before) (sink.bytes after)) done,
  ),
  if-some (source.left from) (λ text (most : DoneMost _ _ _ _ _ _ _). reported-before R text (keeper.tables old) (keeper.tables new) (sink.bytes before) (sink.bytes after) most.first) done,
)
load-ended source keeper sink R Read out from to old new before after ends done other rose = absurd (other refl)

-- all rows before what is held
first-by : (rows : List Row) (first now : Option (List ℕ)) (came held : List ℕ) → Consumes first now came → ((more : List ℕ) → rows_of (came ++ more) ≡ rows ++ rows_of (held ++ more)) → IfSome first (λ text. Consumes (Some text) now came × ((left : List Row) × (rows ++ left ≡ rows_of text)))
first-by rows None now came held taken cut = tt
first-by rows (Some text) None came held taken cut = absurd taken
first-by rows (Some text) (Some left) came held taken cut = (taken, (rows_of (held ++ left), sym (ap rows_of taken ∙ cut left)))

pub first-loaded : (R : Rules) (held : List ℕ) (count : ℕ) (first left : Option (List ℕ)) (old now : Option Tables) (had has : Option (List ℕ)) → IsLoaded R held count first left old now had has → IfSome first (λ text. DoneFirst 1 R (rows_of text) old now had has)
first-loaded R held count first left old now had has loaded =
    if-some first (λ text behind. record { rows = loaded.rows; left = behind.1.0; split = behind.1.1; done = loaded.done }) (first-by loaded.rows first left loaded.came held loaded.taken loaded.cut)

-- by a fault of the input
came-known : (R : Rules) (held : List ℕ) (count : ℕ) (first left : Option (List ℕ)) (old now : Option Tables) (had has : Option (List ℕ)) (loaded : IsLoaded R held count first left old now had has)
    → IfSome first (λ text. IfSome old (λ t. DidCame R text left t now had has))
came-known R held count first left old now had has loaded =
    let told : loaded.rows ++ rows_of held ≡ rows_of loaded.came = sym (ap rows_of (sym (append-nil loaded.came)) ∙ loaded.cut [] ∙ ap (λ l. loaded.rows ++ rows_of l) (append-nil held)) in
    if-some first
    (λ text behind. if-some old
    (λ t did. record { came = loaded.came; taken = behind.0; first = record { rows = loaded.rows; left = behind.1.0; all = behind.1.1; did = did }; cut = rows_of held; told = told; one = loaded.few })
    loaded.done.did)
    (first-by loaded.rows first left loaded.came held loaded.taken loaded.cut)

pub load-unread : {I K O T : Type 0} (source : Source.Ghosts I) (keeper : Keeper.Ghosts K) (sink : Sink.Ghosts O) (R : Rules) (held : List ℕ) (count : ℕ) (out : Result T Fault) (from mid to : I) (old new : K) (before after : O)
    → out ≡ Err Read → IsLoaded R held count (source.left from) (source.left mid) (keeper.tables old) (keeper.tables new) (sink.bytes before) (sink.bytes after) → source.left to ≡ source.left mid → Rose (source.faults from) (source.faults to)
    → LoadedRows source keeper sink R out from to old new before after × IfSome (source.left from) (λ text. LoadReported text out (sink.bytes before) (sink.bytes after))
load-unread source keeper sink R held count out from mid to old new before after ends loaded same rose = rw ends (
  (
    subst (λ left. IfSome (source.left from) (λ text. IfSome (keeper.tables old) (λ t. DidCame R text left t (keeper.tables new) (sink.bytes before) (sink.bytes after)))) (sym same)
        (came-known R held count (source.left from) (source.left mid) (keeper.tables old) (keeper.tables new) (sink.bytes before) (sink.bytes after) loaded),
    rose,
  ),
  if-some (source.left from) (λ text. reported-first R text (keeper.tables old) (keeper.tables new) (sink.bytes before) (sink.bytes after))
      (first-loaded R held count (source.left from) (source.left mid) (keeper.tables old) (keeper.tables new) (sink.bytes before) (sink.bytes after) loaded),
)

-- by a fault at a row of a block, and at the last row
pub block-fault : {I K O T : Type 0} (source : Source.Ghosts I) (keeper : Keeper.Ghosts K) (sink : Sink.Ghosts O) (R : Rules) (held piece block rest text : List ℕ) (count : ℕ) (fault : Fault) (out : Result T Fault) (from took to : I) (old mid last : K) (first before after : O)
    → out ≡ Err fault → text ≡ block → IsLoaded R held count (source.left from) (source.left took) (keeper.tables old) (keeper.tables mid) (sink.bytes first) (sink.bytes before) → Consumes (source.left took) (source.left to) piece
    → CutsOff (held ++ piece) block rest → sink.faults before ≡ sink.faults first → AppliedAfter keeper sink R count (rows_of text) (Err fault) mid last before after
    → LoadedRows source keeper sink R out from to old last first after × IfSome (source.left from) (λ text. LoadReported text out (sink.bytes first) (sink.bytes after))
block-fault source keeper sink R held piece block rest text count fault out from took to old mid last first before after ends is loaded taken cuts same did =
    let applied = subst (λ l. AppliedAfter keeper sink R count (rows_of l) (Err fault) mid last before after) is did in
    load-ended source keeper sink R fault out from to old last first after ends
    (block-ended keeper sink R held piece block rest count fault (source.left from) (source.left took) (source.left to) (keeper.tables old) (sink.bytes first) mid last before after loaded taken cuts applied)
    (not-read keeper sink R count (rows_of block) fault mid last before after applied)
    (rose-write keeper sink R count (rows_of block) fault mid last first before after same applied)

pub last-fault : {I K O T : Type 0} (source : Source.Ghosts I) (keeper : Keeper.Ghosts K) (sink : Sink.Ghosts O) (R : Rules) (held piece text : List ℕ) (count : ℕ) (fault : Fault) (out : Result T Fault) (from took to : I) (old mid last : K) (first before after : O)
    → out ≡ Err fault → text ≡ held → IsLoaded R held count (source.left from) (source.left took) (keeper.tables old) (keeper.tables mid) (sink.bytes first) (sink.bytes before) → Consumes (source.left took) (source.left to) piece
    → piece ≡ [] → IsAtEnd (source.left to) → sink.faults before ≡ sink.faults first → AppliedAfter keeper sink R count (rows_of text) (Err fault) mid last before after
    → LoadedRows source keeper sink R out from to old last first after × IfSome (source.left from) (λ text. LoadReported text out (sink.bytes first) (sink.bytes after))
last-fault source keeper sink R held piece text count fault out from took to old mid last first before after ends is loaded taken none end same did =
    let applied = subst (λ l. AppliedAfter keeper sink R count (rows_of l) (Err fault) mid last before after) is did in
    load-ended source keeper sink R fault out from to old last first after ends
    (last-ended keeper sink R held piece count fault (source.left from) (source.left took) (source.left to) (keeper.tables old) (sink.bytes first) mid last before after loaded taken none end applied)
    (not-read keeper sink R count (rows_of held) fault mid last before after applied)
    (rose-write keeper sink R count (rows_of held) fault mid last first before after same applied)
