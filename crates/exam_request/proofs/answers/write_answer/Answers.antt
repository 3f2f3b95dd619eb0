use Rattle.std.proofs.Common.{◌≡◌, ◌++◌, subst, rules}
use Rattle.std.specs.Prelude.{OnErr}
use Rattle.exam_request.specs.Answer.{answer_text}
use Rattle.exam_send.specs.Sending.{AppendsPart}
use Rattle.exam_request.proofs.answers.write_answer.Goals as goal

pub returns-then-body-remaining_capacity-clause-err : goal.returns-then-body-remaining_capacity-clause-err
returns-then-body-remaining_capacity-clause-err g c =
    let all : c.as_slice.result.now ++ c.body-body.result.now ≡ answer_text c.args.answer.now = search rules in
    subst (λ text. OnErr c.send_both.result
    (AppendsPart (g.W.Write.contents c.args.writer.now) (g.W.Write.contents c.send_both.new.writer) text)) all
    c.send_both.ensures.err

pub returns-clause-err : goal.returns-clause-err
returns-clause-err g c =
    let all : c.as_slice-2.result.now ≡ answer_text c.args.answer.now = search rules in
    subst (λ text. OnErr c.send.result
    (AppendsPart (g.W.Write.contents c.args.writer.now) (g.W.Write.contents c.send.new.writer) text)) all
    c.send.ensures.err
