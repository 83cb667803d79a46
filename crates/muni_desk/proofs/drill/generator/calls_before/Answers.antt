use Rattle.std.proofs.Common.{rules, ◌≡◌, ◌++◌, ◌∙◌, ap, map, sym, arith}
use Rattle.muni_days.specs.Day.{civil}
use Rattle.muni_terms.specs.Issue.{entry_of}
use Rattle.muni_desk.specs.Generator.{if_before, calls_before}
use Rattle.muni_desk.proofs.GeneratorLemmas.{calls-none, calls-more}
use Rattle.muni_desk.proofs.drill.generator.calls_before.Goals as goal

pub loop-place-init : goal.loop-place-init
loop-place-init c = record {
  read = ap (map entry_of) c.new-calls.ensures ∙ calls-none (civil c.args.maturity);
  room = search rules;
}

pub loop-place-preserved : goal.loop-place-preserved
loop-place-preserved c =
    let maturity = civil c.args.maturity in
    record {
      read =
          c.push_if_before.ensures.items
          ∙ (λ i. c.loop-place.invariant.read i ++ if_before maturity (c.call_at.ensures i))
          ∙ sym (calls-more maturity c.loop-place.place);
      room = omega arith;
    }

pub returns : goal.returns
returns c =
    let all : c.loop-place.place ≡ c.args.count = omega arith in
    c.loop-place.invariant.read ∙ ap (calls_before (civil c.args.maturity)) all
