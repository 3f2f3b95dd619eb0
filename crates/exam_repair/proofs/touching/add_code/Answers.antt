use Rattle.std.proofs.Common.{true, cond, sym, ap, ◌∙◌}
use Rattle.std.specs.BTreeSet.{contains}
use Rattle.std.specs.Cmp.Lexicographic.{texts_ties}
use Rattle.exam_rules.specs.Relations.{code_cmp, same_code}
use Rattle.exam_repair.proofs.Gathering.{taken}
use Rattle.exam_repair.proofs.touching.add_code.Goals as goal

pub returns-clause-ok : goal.returns-clause-ok
returns-clause-ok c = λ s.
    c.in_ok-insert.ensures.updates.0 s
    ∙ ap (λ b. cond b true (contains code_cmp c.args.halls.now s)) (sym (texts_ties c.args.hall s))
    ∙ taken (same_code c.args.hall s) (contains code_cmp c.args.halls.now s)
