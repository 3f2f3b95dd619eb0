use Rattle.std.proofs.Common.{◌≡◌, ◌++◌, drop}
use Rattle.std.specs.List.{flat_map}
use Rattle.exam_files.specs.Registers.{appeal_line}
use Rattle.exam_files.proofs.registers.push_appeals.Given as goal

abbrev pub invariant-loop-appeal : goal.invariant-loop-appeal
invariant-loop-appeal l =
    l.text.items ++ flat_map appeal_line (drop l.appeal-index l.appeals) ≡ l.fn.text.items
    ++ flat_map appeal_line l.appeals
