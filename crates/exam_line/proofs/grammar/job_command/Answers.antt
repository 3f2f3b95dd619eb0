use Rattle.std.proofs.Common.{◌≡◌, ◌<◌, ◌∙◌, ap₂, refl, false, length, arith}
use Rattle.clap.specs.Words.{with_rule}
use Rattle.clap.specs.declared.builder.command.Command.TheViews.{out-Command as fields_of}
use Rattle.exam_line.proofs.Jobs.{job_more}
use Rattle.exam_line.proofs.grammar.job_command.Goals as goal

pub loop-name-preserved : goal.loop-name-preserved
loop-name-preserved c =
    let inside : c.loop-name.name-index < length c.args.words.now = omega arith in
    let local : (fields_of c.in_ok-job.job).has_globals ≡ false =
    c.in_ok-job.ensures.globals ∙ rw (c.loop-name.invariant.1, c.word.ensures.here) refl in (
      c.in_ok-job.ensures.shape c.word.ensures.here ∙ ap₂ with_rule c.loop-name.invariant.0 c.word.ensures.rule
          ∙ job_more _ _ _ _ inside,
      local,
    )
