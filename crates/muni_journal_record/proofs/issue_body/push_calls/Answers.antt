use Rattle.std.proofs.Common.{◌≡◌, ◌+◌, ◌++◌, List, [], ◌∷◌, ℕ, take, get_or, sym, ◌∙◌, ap, arith, rules}
use Rattle.std.specs.List.{flat_map}
use Rattle.std.proofs.lemmas.List.{take_more, flat_map_more}
use Rattle.std.proofs.lemmas.List.Elements.{All-more}
use Rattle.muni_terms.specs.declared.row.Call.{Call}
use Rattle.muni_journal_record.specs.IssueBody.{call_bytes, CallFits}
use Rattle.muni_journal_record.proofs.issue_body.push_calls.Goals as goal

pub loop-i-preserved : goal.loop-i-preserved
loop-i-preserved c =
    let old = c.args.body.now.items in
    let calls = c.args.calls.now in
    let i = c.loop-i.i in
    let x = c.index-calls-i.result in
    let here : get_or calls i x ≡ x = search rules in
    let more : take (i + 1) calls ≡ take i calls ++ x ∷ [] = take_more calls i x c.loop-i-test.true ∙ ap (λ (y : Call). take i calls ++ y ∷ []) here in
    record {
      items = c.push_call.ensures.items ∙ ap (λ (b : List ℕ). b ++ call_bytes c.args.marked x) c.loop-i.invariant.items ∙ flat_map_more (call_bytes c.args.marked) old (take i calls) x
          ∙ ap (λ (l : List Call). old ++ flat_map (call_bytes c.args.marked) l) (sym more);
      len = omega arith;
      fits = All-more CallFits calls i x c.loop-i-test.true c.loop-i.invariant.fits (rw here c.push_call.ensures.fits);
    }
