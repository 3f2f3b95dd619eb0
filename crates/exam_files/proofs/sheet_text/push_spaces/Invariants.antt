use Rattle.std.proofs.Common.{◌≡◌, ◌-◌, ◌++◌}
use Rattle.std.specs.Prelude.{replicate}
use Rattle.exam_files.proofs.sheet_text.push_spaces.Given as goal

abbrev pub invariant-loop-space : goal.invariant-loop-space
invariant-loop-space l = l.text.items ++ replicate (l.count - l._space) 32 ≡ l.fn.text.items ++ replicate l.count 32
