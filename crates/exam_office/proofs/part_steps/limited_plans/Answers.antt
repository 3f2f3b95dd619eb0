use Rattle.std.proofs.Common.{refl, inr, sym, ◌∙◌}
use Rattle.exam_rules.specs.Relations.{relations_of}
use Rattle.exam_laws.proofs.MadeWithin.{past_may}
use Rattle.exam_office.proofs.part_steps.limited_plans.Goals as goal

pub returns-then-not-stays_within-clause-refusal : goal.returns-then-not-stays_within-clause-refusal
returns-then-not-stays_within-clause-refusal c =
    let past = sym c.stays_within.ensures ∙ c.if-not-stays_within.true in
    inr (
      refl,
      past_may c.args.command.now c.requires.made.0 (relations_of c.args.facts.now) c.requires.made.1 past,
      past,
    )
