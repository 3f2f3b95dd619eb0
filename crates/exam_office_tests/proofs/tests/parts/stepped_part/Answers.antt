use Rattle.exam_office_tests.proofs.tests.parts.stepped_part.Goals as goal

pub step_part-answer-requires : goal.step_part-answer-requires
step_part-answer-requires c =
    c.new-part.ensures.ready c.args.command.now c.args.office.now c.show_good.ensures c.show_order.ensures
    c.in_ok-copy.ensures.agrees
