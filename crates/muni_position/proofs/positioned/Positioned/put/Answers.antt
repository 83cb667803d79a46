use Rattle.std.proofs.Common.{◌≡◌, ℕ, List, true, false, sym, ap, ◌∙◌, rules}
use Rattle.std.specs.Option.{option_map}
use Rattle.muni_keep.specs.Tables.{with_version}
use Rattle.muni_position.specs.Change.{IsMoved, named_before}
use Rattle.muni_position.specs.Holdings.{kept}
use Rattle.muni_position.proofs.ChangeLemmas.{change_moves, change_ranges, right_after, other_put, none_fits, had_room}
use Rattle.muni_position.proofs.positioned.Positioned.put.Goals as goal

pub invariant_of-self : goal.invariant_of-self
invariant_of-self g c =
    let self = c.args.self.now in
    let no : c.watches.result ≡ false = search rules in
    record {
      range = self.range;
      right = other_put c.put_version.result self.desk (g.K.Keeper.tables self.inner) (g.K.Keeper.tables c.put_version.new.self) self.holdings c.args.key.now c.args.version.now (sym c.watches.ensures.tested ∙ no) self.right c.put_version.ensures.edits.kept c.put_version.ensures.edits.unchanged;
    }

pub invariant_of-self-2 : goal.invariant_of-self-2
invariant_of-self-2 g c =
    let self = c.args.self.now in
    let yes : c.watches.result ≡ true = search rules in
    let key = c.args.key.now in
    let version = c.args.version.now in
    let told = g.K.Keeper.tables self.inner in
    let moves : (cusip : List ℕ) → IsMoved cusip c.in_ok-last.last version (kept self.holdings cusip) (kept c.make.new.holdings cusip) = λ cusip. change_moves self.holdings c.make_room.new.holdings c.make.new.holdings c.in_ok-last.last version c.in-Some.change cusip c.in-Some.ensures.change (c.make_room.ensures.same cusip) (c.make.ensures cusip) in
    record {
      range = λ cusip. change_ranges self.holdings c.make_room.new.holdings c.make.new.holdings c.in_ok-last.last version c.in-Some.change cusip c.in-Some.ensures.change self.range (c.make_room.ensures.same cusip) (c.make.ensures cusip);
      right = right_after self.desk told (g.K.Keeper.tables c.put_version-2.new.self) self.holdings c.make.new.holdings key version c.in_ok-last.last (sym c.watches.ensures.tested ∙ yes) self.right c.of.ensures.bounded c.in_ok-last.ensures.found
          (c.in_ok-put_version-2.ensures.edits.kept ∙ ap (option_map (with_version key version)) c.last.ensures.reads.unchanged) moves;
    }

pub returns-in_default-clause-no_room : goal.returns-in_default-clause-no_room
returns-in_default-clause-no_room g c = λ _.
    let self = c.args.self.now in
    let yes : c.watches.result ≡ true = search rules in
    let version = c.args.version.now in
    none_fits self.desk (g.K.Keeper.tables self.inner) self.holdings c.args.key.now version c.in_ok-last.last (named_before c.in_ok-last.last version) version.terms.asked.cusip (sym c.watches.ensures.tested ∙ yes) self.right c.of.ensures.bounded c.in_ok-last.ensures.found
    (c.of.ensures.none c.in_default.is)

pub returns-clause-room : goal.returns-clause-room
returns-clause-room g c =
    let self = c.args.self.now in
    let yes : c.watches.result ≡ true = search rules in
    let key = c.args.key.now in
    let version = c.args.version.now in
    let told = g.K.Keeper.tables self.inner in
    let put = c.in_ok-put_version-2.ensures.edits.kept ∙ ap (option_map (with_version key version)) c.last.ensures.reads.unchanged in
    let moves : (cusip : List ℕ) → IsMoved cusip c.in_ok-last.last version (kept self.holdings cusip) (kept c.make.new.holdings cusip) = λ cusip. change_moves self.holdings c.make_room.new.holdings c.make.new.holdings c.in_ok-last.last version c.in-Some.change cusip c.in-Some.ensures.change (c.make_room.ensures.same cusip) (c.make.ensures cusip) in
    had_room self.desk told (g.K.Keeper.tables c.put_version-2.new.self) c.make.new.holdings key version
    (λ cusip. change_ranges self.holdings c.make_room.new.holdings c.make.new.holdings c.in_ok-last.last version c.in-Some.change cusip c.in-Some.ensures.change self.range (c.make_room.ensures.same cusip) (c.make.ensures cusip))
    (right_after self.desk told (g.K.Keeper.tables c.put_version-2.new.self) self.holdings c.make.new.holdings key version c.in_ok-last.last (sym c.watches.ensures.tested ∙ yes) self.right c.of.ensures.bounded c.in_ok-last.ensures.found put moves)
    put
