use Rattle.std.proofs.Common.{◌≡◌, ◌∙◌, sym, true, false, map}
use Rattle.std.specs.Prelude.{string_bytes}
use Rattle.muni_desk.specs.Words.{have_words_once}
use Rattle.muni_desk.proofs.WordsLemmas.{single-strings, words_once_strings}
use Rattle.muni_desk.proofs.words.are_once.Goals as goal

pub returns-then-have_words_once : goal.returns-then-have_words_once
returns-then-have_words_once c =
    let once : have_words_once (map (λ plain. plain.now) c.args.plains.now) (map string_bytes c.args.words.now) ≡ true = words_once_strings c.args.plains.now c.args.words.now ∙ sym c.have_words_once.ensures ∙ c.if-have_words_once.true in
    rw once (c.are_single.ensures ∙ sym (single-strings c.args.single.now c.args.words.now))

pub returns-else-have_words_once : goal.returns-else-have_words_once
returns-else-have_words_once c =
    let more : have_words_once (map (λ plain. plain.now) c.args.plains.now) (map string_bytes c.args.words.now) ≡ false = words_once_strings c.args.plains.now c.args.words.now ∙ sym c.have_words_once.ensures ∙ c.if-have_words_once.false in
    rw more c.if-have_words_once.false
