use Rattle.std.proofs.Common.{◌≡◌, ℕ, List, filter, ap, ◌∙◌}
use Rattle.std.specs.List.{list_any}
use Rattle.exam_rules.specs.declared.rows.Appeal.{Appeal}
use Rattle.exam_rules.specs.declared.rows.Subject.{Subject}
use Rattle.exam_rules.specs.Relations.{Code, is_row_of}
use Rattle.exam_commands.specs.Appeals.{is_open_appeal}
use Rattle.exam_commands.proofs.AmongOwn.{open_among}
use Rattle.exam_commands.proofs.appeals.has_open_appeal.Goals as goal

pub loop-appeal-init : goal.loop-appeal-init
loop-appeal-init c =
    let number : ℕ = c.args.number in
    let session : Code = c.args.session.now in
    let subject : Subject = c.args.subject.now in
    let start : c.into_iter-appeal-iterator.result
    ≡ (number, filter (is_row_of number) c.args.facts.now.appeals.entries) =
    c.into_iter-appeal-iterator.ensures.into_iter_gives ∙ c.appeals_of-appeal-items.ensures.rows in (
      tt,
      tt,
      ap (λ (a : ℕ × List ((ℕ × Code) × Appeal)). a.0) start,
      ap (λ (a : ℕ × List ((ℕ × Code) × Appeal)). list_any (is_open_appeal number session subject) a.1) start
          ∙ open_among number session subject c.args.facts.now.appeals.entries,
    )
