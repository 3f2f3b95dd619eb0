use Rattle.std.proofs.Common.{◌≡◌, inr, length, arith, subst}
use Rattle.exam_store.specs.Applied.{AreApplied}
use Rattle.exam_job.proofs.OneCommand.{carried, is_one}
use Rattle.exam_job.proofs.job.carry_out_command.Goals as goal

pub unwrap-requires : goal.unwrap-requires
unwrap-requires g c =
    let answers = c.in_ok-answers.answers in
    let dated = c.args.dated.now in
    let each = subst (λ list. AreApplied g.S.Store list c.args.store.now answers.items c.apply_all.new.self)
    c.from_ref.ensures.value c.in_ok-answers.ensures.each in
    let one : length answers.items ≡ 1 =
    is_one g.S.Store dated.0 dated.1 c.args.store.now c.apply_all.new.self answers.items each in
    c.pop.ensures.variant.1 (omega (arith, one, answers.ok.0))

pub returns : goal.returns
returns g c =
    let answers = c.in_ok-answers.answers in
    let dated = c.args.dated.now in
    let each = subst (λ list. AreApplied g.S.Store list c.args.store.now answers.items c.apply_all.new.self)
    c.from_ref.ensures.value c.in_ok-answers.ensures.each in
    inr (
      c.unwrap.result,
      carried g.S.Store dated.0 dated.1 c.args.store.now c.apply_all.new.self answers.items c.pop.new.self.items
          c.pop.result c.unwrap.result each c.apply_all.ensures.kept
          c.pop.ensures.items c.unwrap.ensures,
      c.tell.ensures,
    )
