-- What a walk leaves, by how it ends.
use Rattle.std.proofs.Common.{◌≡◌, ◌≤◌, ◌⊎◌, inl, inr, ℕ, List, [], ◌++◌, Option, Some, None, Result, Ok, Err, refl, sym, ap, subst, ◌∙◌, arith, append_assoc}
use Rattle.std.specs.Prelude.{IfSome, ⊤}
use Rattle.std.proofs.lemmas.List.{append-nil}
use Rattle.muni_edge.specs.Faults.{Rose}
use Rattle.muni_edge.specs.Sink.{HasWritten, HasWrittenPart}
use Rattle.muni_edge.specs.declared.sink.Sink as Sink
use Rattle.muni_keep.specs.Tables.{Tables}
use Rattle.muni_keep.specs.declared.fault.KeepFault.{KeepFault}
use Rattle.muni_keep.specs.declared.fault.KeepFault.TheVariants as keep
use Rattle.muni_keep.specs.declared.keeper.Keeper as Keeper
use Rattle.muni_desk_io.specs.Fault.{of_keeper}
use Rattle.muni_desk_io.specs.declared.fault.Fault.{Fault}
use Rattle.muni_desk_io.specs.declared.fault.Fault.TheVariants.{Write, NoMemory}
use Rattle.muni_desk_io.specs.Output.{Writes}
use Rattle.muni_desk_io.specs.Reports.{ReportsWrites}
use Rattle.muni_desk_export.specs.Looks.{LooksOver}
use Rattle.muni_desk_export.specs.Walked.{Walks}
use Rattle.muni_desk_export.proofs.PartLemmas.{written-then, written-none, written-part, part-then, part-longer}

-- a keeper is as it was but for its count of faults, and no put has failed
pub record Stays {K O : Type 0} (keeper : Keeper.Ghosts K) (sink : Sink.Ghosts O) (old new : K) (before after : O) : Type 0 where
  pub unchanged : keeper.tables new ≡ keeper.tables old
  pub later : keeper.faults old ≤ keeper.faults new
  pub lent_as : keeper.lent_as new ≡ keeper.lent_as old
  pub puts : sink.faults after ≡ sink.faults before

-- of a text this is left, and what is before it is written
pub record Wrote (before after : Option (List ℕ)) (all left : List ℕ) : Type 0 where
  pub done : List ℕ
  pub whole : all ≡ done ++ left
  pub written : HasWritten before after done

-- the whole text is written
pub ended : {K O T : Type 0} (keeper : Keeper.Ghosts K) (sink : Sink.Ghosts O) (text : Tables → List ℕ) (done : T) (old new : K) (before after : O)
    → IfSome (keeper.tables old) (λ tables. HasWritten (sink.bytes before) (sink.bytes after) (text tables))
    → Stays keeper sink old new before after → Walks keeper sink text (Ok done) old new before after
ended keeper sink text done old new before after written stays = record {
  whole = written;
  part = tt;
  unchanged = stays.unchanged;
  later = stays.later;
  lent_as = stays.lent_as;
  failed = λ is. absurd (cc is);
  unwritten = λ is. absurd (cc is);
  reported = inl stays.puts;
  puts_later = omega (arith, stays.puts);
  only = tt;
}

-- no memory was left
pub without-memory : {T : Type 0} {K O : Type 0} (keeper : Keeper.Ghosts K) (sink : Sink.Ghosts O) (text : Tables → List ℕ) (old new : K) (before after : O)
    → IfSome (keeper.tables old) (λ tables. HasWrittenPart (sink.bytes before) (sink.bytes after) (text tables))
    → Stays keeper sink old new before after → Walks {T = T} keeper sink text (Err NoMemory) old new before after
without-memory keeper sink text old new before after part stays = record {
  whole = tt;
  part = part;
  unchanged = stays.unchanged;
  later = stays.later;
  lent_as = stays.lent_as;
  failed = λ is. absurd (cc is);
  unwritten = λ is. absurd (cc is);
  reported = inl stays.puts;
  puts_later = omega (arith, stays.puts);
  only = tt;
}

-- A fault of the keeper, or no memory: a first part is written.
pub looked : {K O T : Type 0} (keeper : Keeper.Ghosts K) (sink : Sink.Ghosts O) (text : Tables → List ℕ) (fault : Fault) (why : KeepFault) (result : Result T Fault) (old new : K) (before after : O)
    → result ≡ Err fault → fault ≡ of_keeper why
    → IfSome (keeper.tables old) (λ tables. HasWrittenPart (sink.bytes before) (sink.bytes after) (text tables))
    → Stays keeper sink old new before after
    → (why ≡ keep.Failed → Rose (keeper.faults old) (keeper.faults new) ⊎ (keeper.tables old ≡ None)) → Walks keeper sink text result old new before after
looked keeper sink text fault keep.Failed result old new before after is of part stays failed =
    subst (λ r. Walks keeper sink text r old new before after) (sym (is ∙ ap Err of)) (record {
      whole = tt;
      part = part;
      unchanged = stays.unchanged;
      later = stays.later;
      lent_as = stays.lent_as;
      failed = λ _. failed refl;
      unwritten = λ is. absurd (cc is);
      reported = inl stays.puts;
      puts_later = omega (arith, stays.puts);
      only = tt;
    })
looked keeper sink text fault keep.NoMemory result old new before after is of part stays failed =
    subst (λ r. Walks keeper sink text r old new before after) (sym (is ∙ ap Err of)) (without-memory keeper sink text old new before after part stays)

-- the output failed
pub unput : {K O T : Type 0} (keeper : Keeper.Ghosts K) (sink : Sink.Ghosts O) (text : Tables → List ℕ) (fault : Fault) (result : Result T Fault) (old new : K) (before after : O)
    → result ≡ Err fault → fault ≡ Write
    → IfSome (keeper.tables old) (λ tables. HasWrittenPart (sink.bytes before) (sink.bytes after) (text tables))
    → keeper.tables new ≡ keeper.tables old → keeper.faults old ≤ keeper.faults new → keeper.lent_as new ≡ keeper.lent_as old
    → sink.faults before ≤ sink.faults after → Rose (sink.faults before) (sink.faults after) → Walks keeper sink text result old new before after
unput keeper sink text fault result old new before after is of part unchanged later lent_as puts rose =
    subst (λ r. Walks keeper sink text r old new before after) (sym (is ∙ ap Err of)) (record {
      whole = tt;
      part = part;
      unchanged = unchanged;
      later = later;
      lent_as = lent_as;
      failed = λ is. absurd (cc is);
      unwritten = λ _. rose;
      reported = inr refl;
      puts_later = puts;
      only = tt;
    })

both-written : (told : Option Tables) (a b c : Option (List ℕ)) (one two : Tables → List ℕ) → IfSome told (λ t. HasWritten a b (one t)) → IfSome told (λ t. HasWritten b c (two t)) → IfSome told (λ t. HasWritten a c (one t ++ two t))
both-written None a b c one two first second = tt
both-written (Some t) a b c one two first second = written-then a b c (one t) (two t) first second

one-and-part : (told : Option Tables) (a b c : Option (List ℕ)) (one two : Tables → List ℕ) → IfSome told (λ t. HasWritten a b (one t)) → IfSome told (λ t. HasWrittenPart b c (two t)) → IfSome told (λ t. HasWrittenPart a c (one t ++ two t))
one-and-part None a b c one two first second = tt
one-and-part (Some t) a b c one two first second = part-then a b c (one t) (two t) first second

part-of-both : (told : Option Tables) (a b : Option (List ℕ)) (one two : Tables → List ℕ) → IfSome told (λ t. HasWrittenPart a b (one t)) → IfSome told (λ t. HasWrittenPart a b (one t ++ two t))
part-of-both None a b one two first = tt
part-of-both (Some t) a b one two first = part-longer a b (one t) (two t) first

rose-since : (old mid new : ℕ) → old ≤ mid → Rose mid new → Rose old new
rose-since old mid new later rose = omega arith

rose-before : (old mid new : ℕ) → mid ≡ old → Rose mid new → Rose old new
rose-before old mid new same rose = rw same at rose

-- no put has failed in a walk that is done
no-puts : {O T : Type 0} (sink : Sink.Ghosts O) (done : T) (before after : O) → ReportsWrites sink (Ok done) before after → sink.faults after ≡ sink.faults before
no-puts sink done before after (inl same) = same
no-puts sink done before after (inr is) = absurd (cc is)

reports-since : {O T U : Type 0} (sink : Sink.Ghosts O) (done : T) (result : Result U Fault) (before between after : O)
    → ReportsWrites sink (Ok done) before between → ReportsWrites sink result between after → ReportsWrites sink result before after
reports-since sink done result before between after first (inl same) = inl (same ∙ no-puts sink done before between first)
reports-since sink done result before between after first (inr is) = inr is

failed-since : {K : Type 0} (keeper : Keeper.Ghosts K) (old mid new : K) → keeper.tables mid ≡ keeper.tables old → keeper.faults old ≤ keeper.faults mid
    → Rose (keeper.faults mid) (keeper.faults new) ⊎ (keeper.tables mid ≡ None) → Rose (keeper.faults old) (keeper.faults new) ⊎ (keeper.tables old ≡ None)
failed-since keeper old mid new unchanged later (inl rose) = inl (rose-since (keeper.faults old) (keeper.faults mid) (keeper.faults new) later rose)
failed-since keeper old mid new unchanged later (inr none) = inr (sym unchanged ∙ none)

-- of two walks one after the other the first is done
pub walks-then : {K O T U : Type 0} (keeper : Keeper.Ghosts K) (sink : Sink.Ghosts O) (one two : Tables → List ℕ) (done : T) (result : Result U Fault) (old mid new : K) (before between after : O)
    → Walks keeper sink one (Ok done) old mid before between → Walks keeper sink two result mid new between after → Walks keeper sink (λ tables. one tables ++ two tables) result old new before after
walks-then {T = T} keeper sink one two done (Ok x) old mid new before between after first second = record {
  whole = both-written (keeper.tables old) (sink.bytes before) (sink.bytes between) (sink.bytes after) one two first.whole
      (subst (λ told. IfSome told (λ t. HasWritten (sink.bytes between) (sink.bytes after) (two t))) first.unchanged second.whole);
  part = tt;
  unchanged = second.unchanged ∙ first.unchanged;
  later = omega (arith, first.later, second.later);
  lent_as = second.lent_as ∙ first.lent_as;
  failed = λ is. absurd (cc is);
  unwritten = λ is. absurd (cc is);
  reported = reports-since sink done (Ok x) before between after first.reported second.reported;
  puts_later = omega (arith, first.puts_later, second.puts_later);
  only = tt;
}
walks-then {T = T} keeper sink one two done (Err fault) old mid new before between after first second = record {
  whole = tt;
  part = one-and-part (keeper.tables old) (sink.bytes before) (sink.bytes between) (sink.bytes after) one two first.whole
      (subst (λ told. IfSome told (λ t. HasWrittenPart (sink.bytes between) (sink.bytes after) (two t))) first.unchanged second.part);
  unchanged = second.unchanged ∙ first.unchanged;
  later = omega (arith, first.later, second.later);
  lent_as = second.lent_as ∙ first.lent_as;
  failed = λ is. failed-since keeper old mid new first.unchanged first.later (second.failed is);
  unwritten = λ is. rose-before (sink.faults before) (sink.faults between) (sink.faults after) (no-puts sink done before between first.reported) (second.unwritten is);
  reported = reports-since sink done (Err fault) before between after first.reported second.reported;
  puts_later = omega (arith, first.puts_later, second.puts_later);
  only = second.only;
}

reports-as : {O T U : Type 0} (sink : Sink.Ghosts O) (fault : Fault) (before after : O)
    → ReportsWrites {T = T} sink (Err fault) before after → ReportsWrites {T = U} sink (Err fault) before after
reports-as sink fault before after (inl same) = inl same
reports-as sink fault before after (inr is) = inr (cc is)

-- or it is not, and a part of it is one of both
pub walks-part : {K O T U : Type 0} (keeper : Keeper.Ghosts K) (sink : Sink.Ghosts O) (one two : Tables → List ℕ) (fault : Fault) (other : Result U Fault) (old new : K) (before after : O)
    → other ≡ Err fault → Walks {T = T} keeper sink one (Err fault) old new before after → Walks keeper sink (λ tables. one tables ++ two tables) other old new before after
walks-part {T = T} {U = U} keeper sink one two fault other old new before after is first =
    subst (λ r. Walks keeper sink (λ tables. one tables ++ two tables) r old new before after) (sym is) (record {
      whole = tt;
      part = part-of-both (keeper.tables old) (sink.bytes before) (sink.bytes after) one two first.part;
      unchanged = first.unchanged;
      later = first.later;
      lent_as = first.lent_as;
      failed = λ is. first.failed (cc is);
      unwritten = λ is. first.unwritten (cc is);
      reported = reports-as sink fault before after first.reported;
      puts_later = first.puts_later;
      only = first.only;
    })

-- a text that is this one if the tables are exposed
some-text : (told : Option Tables) (a b : Option (List ℕ)) (one two : Tables → List ℕ) → IfSome told (λ t. one t ≡ two t) → IfSome told (λ t. HasWritten a b (one t)) → IfSome told (λ t. HasWritten a b (two t))
some-text None a b one two same written = tt
some-text (Some t) a b one two same written = subst (HasWritten a b) same written

some-part : (told : Option Tables) (a b : Option (List ℕ)) (one two : Tables → List ℕ) → IfSome told (λ t. one t ≡ two t) → IfSome told (λ t. HasWrittenPart a b (one t)) → IfSome told (λ t. HasWrittenPart a b (two t))
some-part None a b one two same part = tt
some-part (Some t) a b one two same part = subst (HasWrittenPart a b) same part

pub walks-text : {K O T : Type 0} (keeper : Keeper.Ghosts K) (sink : Sink.Ghosts O) (one two : Tables → List ℕ) (result : Result T Fault) (old new : K) (before after : O)
    → IfSome (keeper.tables old) (λ t. one t ≡ two t) → Walks keeper sink one result old new before after → Walks keeper sink two result old new before after
walks-text keeper sink one two (Ok x) old new before after same walks = record {
  whole = some-text (keeper.tables old) (sink.bytes before) (sink.bytes after) one two same walks.whole;
  part = tt;
  unchanged = walks.unchanged;
  later = walks.later;
  lent_as = walks.lent_as;
  failed = walks.failed;
  unwritten = walks.unwritten;
  reported = walks.reported;
  puts_later = walks.puts_later;
  only = walks.only;
}
walks-text keeper sink one two (Err fault) old new before after same walks = record {
  whole = tt;
  part = some-part (keeper.tables old) (sink.bytes before) (sink.bytes after) one two same walks.part;
  unchanged = walks.unchanged;
  later = walks.later;
  lent_as = walks.lent_as;
  failed = walks.failed;
  unwritten = walks.unwritten;
  reported = walks.reported;
  puts_later = walks.puts_later;
  only = walks.only;
}

some-each : (told : Option Tables) (P : Tables → Type 0) → ((t : Tables) → P t) → IfSome told P
some-each None P all = tt
some-each (Some t) P all = all t

-- a text that does not depend on the tables
pub put-walks : {K O : Type 0} (keeper : Keeper.Ghosts K) (sink : Sink.Ghosts O) (text : List ℕ) (result : Result ⊤ Fault) (k : K) (before after : O)
    → Writes sink Write result text before after → Walks keeper sink (λ t. text) result k k before after
put-walks keeper sink text (Ok done) k before after writes = record {
  whole = some-each (keeper.tables k) (λ t. HasWritten (sink.bytes before) (sink.bytes after) text) (λ t. writes.written);
  part = tt;
  unchanged = refl;
  later = omega arith;
  lent_as = refl;
  failed = λ is. absurd (cc is);
  unwritten = λ is. absurd (cc is);
  reported = inl writes.uncounted;
  puts_later = writes.later;
  only = tt;
}
put-walks keeper sink text (Err fault) k before after writes =
    unput keeper sink (λ t. text) fault (Err fault) k k before after refl writes.only
    (some-each (keeper.tables k) (λ t. HasWrittenPart (sink.bytes before) (sink.bytes after) text) (λ t. writes.part)) refl (omega arith) refl writes.later writes.failed

-- ---- a text that is written piece by piece
pub begun : (told : Option Tables) (a : Option (List ℕ)) (all : Tables → List ℕ) → IfSome told (λ t. Wrote a a (all t) (all t))
begun None a all = tt
begun (Some t) a all = record { done = []; whole = refl; written = written-none a }

pub piece-more : (told : Option Tables) (a b c : Option (List ℕ)) (all left next : Tables → List ℕ) (piece : List ℕ) → IfSome told (λ t. Wrote a b (all t) (left t)) → IfSome told (λ t. left t ≡ piece ++ next t) → HasWritten b c piece
    → IfSome told (λ t. Wrote a c (all t) (next t))
piece-more None a b c all left next piece wrote is written = tt
piece-more (Some t) a b c all left next piece wrote is written = record {
  done = wrote.done ++ piece;
  whole = wrote.whole ∙ ap (λ l. wrote.done ++ l) is ∙ sym (append_assoc wrote.done piece (next t));
  written = written-then a b c wrote.done piece wrote.written written;
}

pub pieces-end : (told : Option Tables) (a b : Option (List ℕ)) (all left : Tables → List ℕ) → IfSome told (λ t. Wrote a b (all t) (left t)) → IfSome told (λ t. left t ≡ []) → IfSome told (λ t. HasWritten a b (all t))
pieces-end None a b all left wrote none = tt
pieces-end (Some t) a b all left wrote none = subst (HasWritten a b) (sym (wrote.whole ∙ ap (λ l. wrote.done ++ l) none ∙ append-nil wrote.done)) wrote.written

pub pieces-part : (told : Option Tables) (a b : Option (List ℕ)) (all left : Tables → List ℕ) → IfSome told (λ t. Wrote a b (all t) (left t)) → IfSome told (λ t. HasWrittenPart a b (all t))
pieces-part None a b all left wrote = tt
pieces-part (Some t) a b all left wrote = subst (HasWrittenPart a b) (sym wrote.whole) (written-part a b wrote.done (left t) wrote.written)

pub piece-part : (told : Option Tables) (a b c : Option (List ℕ)) (all left next : Tables → List ℕ) (piece : List ℕ) → IfSome told (λ t. Wrote a b (all t) (left t)) → IfSome told (λ t. left t ≡ piece ++ next t) → HasWrittenPart b c piece
    → IfSome told (λ t. HasWrittenPart a c (all t))
piece-part None a b c all left next piece wrote is part = tt
piece-part (Some t) a b c all left next piece wrote is part =
    subst (HasWrittenPart a c) (sym (wrote.whole ∙ ap (λ l. wrote.done ++ l) is))
    (part-then a b c wrote.done (piece ++ next t) wrote.written (part-longer b c piece (next t) part))

-- a look more
pub stays-on : {K O T : Type 0} (keeper : Keeper.Ghosts K) (sink : Sink.Ghosts O) (result : Result T KeepFault) (old mid new : K) (before after : O)
    → Stays keeper sink old mid before after → LooksOver keeper result mid new → Stays keeper sink old new before after
stays-on keeper sink result old mid new before after stays looks = record {
  unchanged = looks.unchanged ∙ stays.unchanged;
  later = let a = stays.later in let b = looks.later in omega arith;
  lent_as = looks.lent_as ∙ stays.lent_as;
  puts = stays.puts;
}

pub failed-on : {K O T : Type 0} (keeper : Keeper.Ghosts K) (sink : Sink.Ghosts O) (result : Result T KeepFault) (why : KeepFault) (old mid new : K) (before after : O)
    → Stays keeper sink old mid before after → LooksOver keeper result mid new → result ≡ Err why → why ≡ keep.Failed → Rose (keeper.faults old) (keeper.faults new) ⊎ (keeper.tables old ≡ None)
failed-on keeper sink result why old mid new before after stays looks is failed =
    failed-since keeper old mid new stays.unchanged stays.later (looks.failed (is ∙ ap Err failed))

-- nothing is written by a look that is well
pub look-walks : {K O T : Type 0} (keeper : Keeper.Ghosts K) (sink : Sink.Ghosts O) (result : Result T KeepFault) (old new : K) (before : O)
    → LooksOver keeper result old new → Walks {T = ⊤} keeper sink (λ t. []) (Ok tt) old new before before
look-walks keeper sink result old new before looks =
    ended keeper sink (λ t. []) tt old new before before
    (some-each (keeper.tables old) (λ t. HasWritten (sink.bytes before) (sink.bytes before) []) (λ t. written-none (sink.bytes before)))
    (record { unchanged = looks.unchanged; later = looks.later; lent_as = looks.lent_as; puts = refl })
