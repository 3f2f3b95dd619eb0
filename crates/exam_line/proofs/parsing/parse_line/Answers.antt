use Rattle.exam_line.proofs.Answering.{fault, read}
use Rattle.exam_line.proofs.parsing.parse_line.Goals as goal

pub returns-in-Ok-try_get_matches_from : goal.returns-in-Ok-try_get_matches_from
returns-in-Ok-try_get_matches_from c =
    let parse = c.in-Ok-try_get_matches_from in
    read c.line_of.result _ _ parse.matches c.in-Ok.ensures parse.ensures.matches parse.ensures.kinds c.line_of.ensures

pub returns-in-Err : goal.returns-in-Err
returns-in-Err c = fault _ _ _ _ c.in-Ok.ensures c.fault_from.ensures c.in-Err.ensures.kinds
