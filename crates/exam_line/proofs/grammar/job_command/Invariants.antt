use Rattle.std.proofs.Common.{◌≡◌, map, take, false}
use Rattle.clap.specs.Words.{app_of}
use Rattle.clap.specs.declared.builder.command.Command.TheViews.{out-Command as fields_of}
use Rattle.exam_line.specs.Grammar.{job_app}
use Rattle.exam_line.proofs.grammar.job_command.Given as goal

-- the words so far
abbrev pub invariant-loop-name : goal.invariant-loop-name
invariant-loop-name l =
    (app_of l.job ≡ job_app l.fn.name (map (λ w. w.0.now) (take l.name-index l.words)))
    × ((fields_of l.job).has_globals ≡ false)
