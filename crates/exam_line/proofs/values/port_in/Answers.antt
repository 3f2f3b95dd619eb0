use Rattle.std.specs.Fmt.{decimal}
use Rattle.exam_types.proofs.ValueFacts.{value_found}
use Rattle.exam_line.proofs.values.port_in.Goals as goal

pub returns : goal.returns
returns c = value_found _ decimal 1 65535 c.args.text.now c.port_written.result
    (λ n. (λ h. h, λ h. h)) c.port_written.ensures
