use Rattle.std.proofs.Common.{◌<◌, length, refl, arith, inl, inr, rules}
use Rattle.exam_request.proofs.Nonempty.{opening_text}
use Rattle.exam_request.proofs.posted.members_written.Goals as goal

pub returns-in-Err-OutOfMemory-clause-memory : goal.returns-in-Err-OutOfMemory-clause-memory
returns-in-Err-OutOfMemory-clause-memory c =
    let taken = c.parse.ensures.memory (search rules) in
    let long : 0 < length c.args.text.now =
    elim taken [ inl opens ↦ opening_text c.args.text.now opens | inr full ↦ omega arith ] in
    (refl, long)
