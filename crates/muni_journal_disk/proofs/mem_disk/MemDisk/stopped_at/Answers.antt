use Rattle.std.proofs.Common.{◌≡◌, rules, ℕ, ◌-◌, Some, length, get_or, refl, ap, ◌∙◌, arith}
use Rattle.std.specs.Prelude.{slice_get}
use Rattle.std.proofs.lemmas.Option.{slice_get_read}
use Rattle.muni_journal_disk.proofs.Truth.{stopped_image}
use Rattle.muni_journal_disk.proofs.mem_disk.MemDisk.stopped_at.Goals as goal

pub returns : goal.returns
returns c =
    let self = c.args.self.now in
    let call = c.in-Some.call.now in
    let past = self.past.items in
    let place : c.len-calls.result - 1 - c.args.number ≡ length past - 1 - c.args.number = omega arith in
    let there : call ≡ get_or past (length past - 1 - c.args.number) call = c.in-Some.ensures.lookup ∙ ap (λ (k : ℕ). get_or past k call) place in
    let is : slice_get past (length past - 1 - c.args.number) ≡ Some call = slice_get_read past (length past) (length past - 1 - c.args.number) call refl (omega arith) there in
    record {
      stopped = search rules;
      present = search rules;
      image = λ _. stopped_image self.first.items c.in_ok-stopped.field-0.items past c.args.number c.args.kept call (omega arith) is self.truth c.in_ok-stopped.ensures;
    }
