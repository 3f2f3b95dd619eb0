use Rattle.std.proofs.Common.{◌≡◌, ◌≤◌, length, take}
use Rattle.std.specs.Prelude.{vec_len}
use Rattle.std.specs.Vec.{vec_capacity}
use Rattle.exam_commands.specs.Steps.{Run}
use Rattle.exam_office.proofs.steps.run.Given as goal

-- the commands so far, and what they answered; and there is room for the other replies
abbrev pub invariant-loop-command : goal.invariant-loop-command
invariant-loop-command l = record {
  so_far : Run (take l.command-index l.commands) l.fn.office l.replies.items l.office;
  answered : vec_len l.replies ≡ l.command-index;
  room : length l.commands ≤ vec_capacity l.replies;
}
