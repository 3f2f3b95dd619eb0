use Rattle.std.proofs.Common.{◌≡◌, ◌&&◌, ◌||◌}
use Rattle.std.specs.BTreeSet.{contains}
use Rattle.std.specs.List.{list_any}
use Rattle.exam_rules.specs.declared.rows.Opening.{Opening}
use Rattle.exam_rules.specs.Relations.{Code, code_cmp, same_code}
use Rattle.exam_repair.proofs.touching.add_opened.Given as goal

-- those held and those left are all
abbrev pub invariant-loop-key : goal.invariant-loop-key
invariant-loop-key l = (s : Code)
    → (list_any (λ (o : (Code × Code) × Opening). same_code o.0.0 s && contains code_cmp l.halls o.0.1) l.key-iterator
    || contains code_cmp l.codes s)
    ≡ (list_any (λ (o : (Code × Code) × Opening). same_code o.0.0 s && contains code_cmp l.halls o.0.1)
    l.facts.openings.entries || contains code_cmp l.fn.codes s)
