use Rattle.std.proofs.Common.{◌≡◌, ◌||◌, ℕ, List, filter, ap, ◌∙◌}
use Rattle.std.specs.BTreeSet.{contains}
use Rattle.std.specs.List.{list_any}
use Rattle.exam_rules.specs.declared.rows.Entry.{Entry}
use Rattle.exam_rules.specs.Relations.{Code, code_cmp, is_row_of, relations_of}
use Rattle.exam_rules.specs.Sessions.{is_live_entry}
use Rattle.exam_repair.proofs.Gathering.{own_any}
use Rattle.exam_repair.proofs.touching.add_entered.Goals as goal

pub loop-key-init : goal.loop-key-init
loop-key-init c =
    let start : c.into_iter-key-iterator.result
    ≡ (c.args.number, filter (is_row_of c.args.number) c.args.facts.now.entries.entries) =
    c.into_iter-key-iterator.ensures.into_iter_gives ∙ c.entries_of-key-items.ensures.rows in (
      tt,
      tt,
      ap (λ (a : ℕ × List ((ℕ × Code) × Entry)). a.0) start,
      λ s. ap (λ b. b || contains code_cmp c.args.codes.now s)
          (ap (λ (a : ℕ × List ((ℕ × Code) × Entry)). list_any
          (is_live_entry (relations_of c.args.facts.now) s c.args.number) a.1) start
          ∙ own_any (relations_of c.args.facts.now) s c.args.number c.args.facts.now.entries.entries),
    )
