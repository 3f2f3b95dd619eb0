use Rattle.exam_files.proofs.DoorLines.{has_lines}
use Rattle.exam_files.proofs.laws.door_lists_have_a_line_for_each_occupant.Goals as goal

pub returns : goal.returns
returns c = (λ office s hall view text good up is e. has_lines office s hall good up view is text e)
