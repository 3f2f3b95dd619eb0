use Rattle.std.proofs.Common.{◌≡◌, ◌+◌, ◌∷◌, ◌++◌, [], take, ap, sym, subst, ◌∙◌, arith}
use Rattle.std.proofs.lemmas.List.{take_more}
use Rattle.exam_commands.specs.Steps.{Run}
use Rattle.exam_office.proofs.Running.{run_more}
use Rattle.exam_office.proofs.steps.run.Goals as goal

pub loop-command-preserved : goal.loop-command-preserved
loop-command-preserved c =
    let i = c.loop-command.command-index in
    let done = c.args.commands.now in
    let x = c.loop-command-item.result in
    let more : take (i + 1) done ≡ take i done ++ x ∷ [] =
    take_more done i x c.loop-command-test.true ∙ ap (λ z. take i done ++ z ∷ []) (sym c.loop-command-item.is) in
    record {
      so_far = subst (λ xs. Run xs c.args.office.now c.push_reserved.new.self.items c.step.new.office) (sym more)
          (subst (λ rs. Run (take i done ++ x ∷ []) c.args.office.now rs c.step.new.office)
          (sym c.push_reserved.ensures.items)
          (run_more (take i done) x c.loop-command.replies.items c.step.result c.args.office.now c.loop-command.office
          c.step.new.office c.loop-command.invariant.so_far c.step.ensures.step));
      answered = omega (arith, c.push_reserved.ensures.len, c.loop-command.invariant.answered);
      room = omega (arith, c.push_reserved.ensures.capacity, c.loop-command.invariant.room);
    }
