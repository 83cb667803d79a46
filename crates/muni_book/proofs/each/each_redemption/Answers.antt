use Rattle.std.proofs.Common.{◌≡◌, Ok, Err, Result, subst, sym}
use Rattle.muni_sched.specs.Candidates.{AreCandidates}
use Rattle.muni_msg.specs.declared.figures.Figures.{Figures}
use Rattle.muni_msg.specs.declared.refusal.Refusal.{Refusal}
use Rattle.muni_answer.specs.FilledFor.{refusal_of}
use Rattle.muni_answer.proofs.UniqueLemmas.{answers-unique}
use Rattle.muni_book.proofs.each.each_redemption.Goals as goal

pub returns-in-Ok : goal.returns-in-Ok
returns-in-Ok g c = λ right. record {
  list = c.candidates.result.now;
  candidates = subst (AreCandidates c.args.issue.now c.args.asked.now.settle) (sym c.candidates.ensures) c.in-Ok.ensures.candidates;
  shown = c.each_of.ensures;
}

-- what has figures is not refused
refused : (figures : Figures) (why : Refusal) → ◌≡◌ {A = Result Figures Refusal} (Ok figures) (Err why) → ⊥
refused figures why is = cc

pub returns-in-Err : goal.returns-in-Err
returns-in-Err g c = λ right.
    let ends = g.E.Encloser.ends c.args.calculator.now.encloser.now in
    absurd (refused c.args.figures.now (refusal_of c.in-Err.field-0) (answers-unique ends c.args.issue.now c.args.asked.now (Ok c.args.figures.now) (Err (refusal_of c.in-Err.field-0)) right (c.in-Err.ensures ends)))
