use Rattle.std.proofs.Common.{◌≡◌, ◌∙◌, sym, true, false, map}
use Rattle.std.specs.Prelude.{string_bytes}
use Rattle.muni_desk.specs.Words.{are_known}
use Rattle.muni_desk.proofs.WordsLemmas.{known-strings, single-strings}
use Rattle.muni_desk.proofs.words.are_options.Goals as goal

pub returns-then-are_known : goal.returns-then-are_known
returns-then-are_known c =
    let known : are_known (map (λ name. name.now) c.args.names.now) (map string_bytes c.args.words.now) ≡ true = known-strings c.args.names.now c.args.words.now ∙ sym c.are_known.ensures ∙ c.if-are_known.true in
    rw known (c.are_single.ensures ∙ sym (single-strings c.args.single.now c.args.words.now))

pub returns-else-are_known : goal.returns-else-are_known
returns-else-are_known c =
    let unknown : are_known (map (λ name. name.now) c.args.names.now) (map string_bytes c.args.words.now) ≡ false = known-strings c.args.names.now c.args.words.now ∙ sym c.are_known.ensures ∙ c.if-are_known.false in
    rw unknown c.if-are_known.false
