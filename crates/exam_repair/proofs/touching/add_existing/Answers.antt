use Rattle.std.proofs.Common.{◌≡◌, ◌||◌, List, [], ap, sym, ◌∙◌}
use Rattle.std.specs.BTreeSet.{contains}
use Rattle.std.specs.List.{list_any}
use Rattle.exam_rules.specs.Relations.{Code, code_cmp, relations_of}
use Rattle.exam_commands.specs.Touched.{names}
use Rattle.exam_repair.proofs.Gathering.{names_any}
use Rattle.exam_repair.proofs.touching.add_existing.Goals as goal

pub returns-clause-ok : goal.returns-clause-ok
returns-clause-ok c =
    let left : c.loop-code.code-iterator ≡ [] = c.in-None.ensures.steps.0 in
    λ s. ap (λ (ks : List Code). list_any
    (λ (k : Code). names (relations_of c.args.facts.now) k s) ks || contains code_cmp c.loop-code.codes s)
    (sym left)
    ∙ c.loop-code.invariant s
    ∙ ap (λ b. b || contains code_cmp c.args.codes.now s)
    (names_any (relations_of c.args.facts.now) s c.args.reached.now.keys)
