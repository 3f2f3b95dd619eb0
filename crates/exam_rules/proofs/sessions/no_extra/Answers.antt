use Rattle.std.proofs.Common.{ap, is_some, arith, refl}
use Rattle.exam_rules.proofs.sessions.no_extra.Goals as goal

pub unwrap-requires : goal.unwrap-requires
unwrap-requires c = ap is_some ((c.new.ensures 0).1 (omega arith, refl))

pub returns : goal.returns
returns c = ((c.new.ensures c.unwrap.result).0 c.unwrap.ensures).1
