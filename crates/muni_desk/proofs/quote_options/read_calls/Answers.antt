use Rattle.std.proofs.Common.{◌≡◌, ◌<◌, ◌≤◌, ◌+◌, [], ◌∙◌, None, Some, length, map, drop, sym, refl, ap, arith}
use Rattle.std.proofs.Math.ListN.{drop_of_length-le}
use Rattle.std.proofs.lemmas.Bool.{eqb-true, eqb-false}
use Rattle.std.proofs.lemmas.List.{length-map}
use Rattle.std.specs.Prelude.{codes, string_bytes, option_map}
use Rattle.arrayvec.specs.ArrayVec.{array_vec_len}
use Rattle.muni_msg.specs.Fields.{call_reading}
use Rattle.muni_desk.specs.QuoteOptions.{calls_reading}
use Rattle.muni_desk.specs.Words.{value_in, values_of}
use Rattle.muni_desk.proofs.CallLemmas.{with_more, values-other, values-here, calls-here, calls-fault, calls-first, calls-read, calls-few, calls-many, calls-none}
use Rattle.muni_desk.proofs.quote_options.read_calls.Goals as goal
use Rattle.muni_desk.proofs.quote_options.read_calls.Goals.{in-Some+else-is_full+in_ok-read_call, in_default}

pub loop-word-init : goal.loop-word-init
loop-word-init c =
    let none : array_vec_len c.new-calls.result ≡ 0 = ap length c.new-calls.ensures in
    record {
      room = omega (arith, none);
      count = omega (arith, none);
      read = rw c.new-calls.ensures (calls-first _);
    }

pub returns-then-is_full : goal.returns-then-is_full
returns-then-is_full c =
    let name = codes "--call=" in
    let words = map string_bytes c.args.words.now in
    let place = c.loop-word.word-index in
    let inside : place < length c.args.words.now = omega arith in
    let here : value_in name (string_bytes c.word-item.result) ≡ Some c.in-Some.text.now = ap (value_in name) (sym c.as_bytes.ensures.value) ∙ sym c.value_in.ensures ∙ ap (option_map (λ v. v.now)) c.in-Some.is in
    let left = ap length (values-here name c.args.words.now place c.word-item.result c.in-Some.text.now inside c.word-item.is here) in
    let full : array_vec_len c.loop-word.calls ≡ 40 = eqb-true _ _ (sym c.is_full.ensures.value ∙ c.if-is_full.true) in
    sym (calls-many words (omega (arith, left, full, c.loop-word.invariant.count)))

pub returns-in_err-read_call : goal.returns-in_err-read_call
returns-in_err-read_call c =
    let name = codes "--call=" in
    let words = map string_bytes c.args.words.now in
    let place = c.loop-word.word-index in
    let inside : place < length c.args.words.now = omega arith in
    let here : value_in name (string_bytes c.word-item.result) ≡ Some c.in-Some.text.now = ap (value_in name) (sym c.as_bytes.ensures.value) ∙ sym c.value_in.ensures ∙ ap (option_map (λ v. v.now)) c.in-Some.is in
    let fault : call_reading c.in-Some.text.now ≡ None = sym c.read_call.ensures ∙ c.in_err-read_call.was in
    let left = values-here name c.args.words.now place c.word-item.result c.in-Some.text.now inside c.word-item.is here in
    let none : calls_reading (values_of name words) ≡ None =
    sym c.loop-word.invariant.read
    ∙ ap (λ values. with_more c.loop-word.calls.items (calls_reading values)) left
    ∙ calls-fault c.loop-word.calls.items c.in-Some.text.now (values_of name (drop (place + 1) words)) fault in
    rw (c.from_residual.ensures, calls-none words none) refl

pub loop-word-preserved : goal.loop-word-preserved
loop-word-preserved c =
    let name = codes "--call=" in
    let words = map string_bytes c.args.words.now in
    let place = c.loop-word.word-index in
    let inside : place < length c.args.words.now = omega arith in
    elim c.match-value_in.branch [
      | in-Some+else-is_full+in_ok-read_call w ↦
          let call = w.in_ok-read_call.field-0 in
          let text = w.in-Some.text.now in
          let here : value_in name (string_bytes c.word-item.result) ≡ Some text = ap (value_in name) (sym c.as_bytes.ensures.value) ∙ sym c.value_in.ensures ∙ ap (option_map (λ v. v.now)) w.in-Some.is in
          let reads : call_reading text ≡ Some call = sym w.read_call.ensures ∙ w.in_ok-read_call.was in
          let left = values-here name c.args.words.now place c.word-item.result text inside c.word-item.is here in
          let shorter = ap length left in
          record {
            room = rw w.calls-is (omega (arith, w.is_full.ensures.fits, eqb-false _ _ (sym w.is_full.ensures.value ∙ w.if-is_full.false), w.push.ensures.len));
            count = rw w.calls-is (omega (arith, shorter, w.push.ensures.len, c.loop-word.invariant.count));
            read =
                rw (w.calls-is, w.push.ensures.items)
                (calls-here c.loop-word.calls.items text (values_of name (drop (place + 1) words)) call reads
                ∙ ap (λ values. with_more c.loop-word.calls.items (calls_reading values)) (sym left)
                ∙ c.loop-word.invariant.read);
          }
      | in_default w ↦
          let other : value_in name (string_bytes c.word-item.result) ≡ None = ap (value_in name) (sym c.as_bytes.ensures.value) ∙ sym c.value_in.ensures ∙ ap (option_map (λ v. v.now)) w.in_default.is in
          let left = values-other name c.args.words.now place c.word-item.result inside c.word-item.is other in
          record {
            room = rw w.calls-is c.loop-word.invariant.room;
            count = rw (w.calls-is, ← left) c.loop-word.invariant.count;
            read = rw (w.calls-is, ← left) c.loop-word.invariant.read;
          }
    ]

pub returns : goal.returns
returns c =
    let name = codes "--call=" in
    let words = map string_bytes c.args.words.now in
    let all : length words ≤ c.loop-word.word-index = simp length-map (omega arith) in
    let done : values_of name (drop c.loop-word.word-index words) ≡ [] = ap (values_of name) (drop_of_length-le words all) in
    let few : length (values_of name words) ≤ 40 = omega (arith, c.loop-word.invariant.room, c.loop-word.invariant.count, ap length done) in
    sym (calls-read c.loop-word.calls.items)
    ∙ ap (λ values. with_more c.loop-word.calls.items (calls_reading values)) (sym done)
    ∙ c.loop-word.invariant.read ∙ sym (calls-few words few)
