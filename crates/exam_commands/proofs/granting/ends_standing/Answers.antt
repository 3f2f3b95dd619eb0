use Rattle.std.proofs.Common.{◌≡◌, ℕ, Bool, List, filter, ap, ◌∙◌}
use Rattle.std.specs.List.{list_any}
use Rattle.exam_rules.specs.declared.rows.Appeal.{Appeal}
use Rattle.exam_rules.specs.Relations.{Code, Relations, is_row_of, relations_of}
use Rattle.exam_commands.specs.declared.command.Decision.{Decision}
use Rattle.exam_commands.specs.Touched.{is_ended}
use Rattle.exam_commands.proofs.AmongOwn.{ended_among}
use Rattle.exam_commands.proofs.granting.ends_standing.Goals as goal

pub loop-key-init : goal.loop-key-init
loop-key-init c =
    let r : Relations = relations_of c.args.facts.now in
    let d : Decision = c.args.decision.now in
    let a : Appeal = c.args.appeal.now in
    let ends : List ((ℕ × Code) × Appeal) → Bool = list_any (is_ended r d a) in
    let start : c.into_iter-key-iterator.result
    ≡ (d.number, filter (is_row_of d.number) c.args.facts.now.appeals.entries) =
    c.into_iter-key-iterator.ensures.into_iter_gives ∙ c.appeals_of-key-items.ensures.rows in (
      tt,
      tt,
      ap (λ (own : ℕ × List ((ℕ × Code) × Appeal)). own.0) start,
      ap (λ (own : ℕ × List ((ℕ × Code) × Appeal)). ends own.1) start
          ∙ ended_among r d a c.args.facts.now.appeals.entries,
    )
