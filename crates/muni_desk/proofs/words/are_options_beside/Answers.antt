use Rattle.std.proofs.Common.{◌≡◌, ◌∙◌, sym, true, false, map}
use Rattle.std.specs.Prelude.{string_bytes}
use Rattle.muni_desk.specs.Words.{are_known_beside}
use Rattle.muni_desk.proofs.WordsLemmas.{known_beside_strings}
use Rattle.muni_desk.proofs.words.are_options_beside.Goals as goal

pub returns-then-are_known_beside : goal.returns-then-are_known_beside
returns-then-are_known_beside c =
    let known : are_known_beside (map (λ plain. plain.now) c.args.plains.now) (map (λ name. name.now) c.args.names.now) (map string_bytes c.args.words.now) ≡ true = known_beside_strings c.args.plains.now c.args.names.now c.args.words.now ∙ sym c.are_known_beside.ensures ∙ c.if-are_known_beside.true in
    rw known c.are_once.ensures

pub returns-else-are_known_beside : goal.returns-else-are_known_beside
returns-else-are_known_beside c =
    let unknown : are_known_beside (map (λ plain. plain.now) c.args.plains.now) (map (λ name. name.now) c.args.names.now) (map string_bytes c.args.words.now) ≡ false = known_beside_strings c.args.plains.now c.args.names.now c.args.words.now ∙ sym c.are_known_beside.ensures ∙ c.if-are_known_beside.false in
    rw unknown c.if-are_known_beside.false
