use Rattle.std.proofs.Common.{◌≡◌, ℕ, List, filter, ap, ◌∙◌}
use Rattle.std.specs.List.{find}
use Rattle.exam_rules.specs.declared.rows.Appeal.{Appeal}
use Rattle.exam_rules.specs.Relations.{Code, is_row_of}
use Rattle.exam_commands.specs.Decisions.{is_earlier}
use Rattle.exam_commands.proofs.AmongOwn.{earlier_among}
use Rattle.exam_commands.proofs.granting.earlier_grant.Goals as goal

pub loop-key-init : goal.loop-key-init
loop-key-init c =
    let number : ℕ = c.args.number in
    let asked : Appeal = c.args.appeal.now in
    let start : c.into_iter-key-iterator.result ≡ (number, filter (is_row_of number) c.args.facts.now.appeals.entries) =
    c.into_iter-key-iterator.ensures.into_iter_gives ∙ c.appeals_of-key-items.ensures.rows in (
      tt,
      tt,
      ap (λ (a : ℕ × List ((ℕ × Code) × Appeal)). a.0) start,
      ap (λ (a : ℕ × List ((ℕ × Code) × Appeal)). find (is_earlier number asked.session asked.subject) a.1) start
          ∙ earlier_among number asked.session asked.subject c.args.facts.now.appeals.entries,
    )
