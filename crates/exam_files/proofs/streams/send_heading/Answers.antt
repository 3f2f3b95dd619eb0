use Rattle.std.proofs.Common.{◌++◌, List, ℕ, ap, ◌∙◌}
use Rattle.exam_files.specs.Registers.{register_heading}
use Rattle.exam_files.proofs.Streaming.{streamed}
use Rattle.exam_files.proofs.streams.send_heading.Goals as goal

pub returns-clause-sent : goal.returns-clause-sent
returns-clause-sent g c =
    streamed g.W.Write.contents c.send.result c.args.writer.now c.send.new.writer c.as_slice.result.now
    (register_heading c.args.session.now c.args.count)
    (c.as_slice.ensures.value ∙ c.in_ok-push_heading.ensures.ok
    ∙ ap (λ (t : List ℕ). t ++ register_heading c.args.session.now c.args.count) c.new-text.ensures.items)
    c.send.ensures.ok c.send.ensures.err
