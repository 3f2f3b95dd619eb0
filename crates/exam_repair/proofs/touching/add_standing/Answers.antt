use Rattle.std.proofs.Common.{◌≡◌, ◌||◌, ℕ, List, [], ap, sym, ◌∙◌}
use Rattle.std.specs.BTreeSet.{contains}
use Rattle.std.specs.List.{list_any}
use Rattle.std.specs.Map.Iter.{deref_pair}
use Rattle.std.proofs.lemmas.Map.Iter.{rest_all}
use Rattle.exam_rules.specs.declared.rows.Appeal.{Appeal}
use Rattle.exam_rules.specs.Relations.{Code, code_cmp, relations_of}
use Rattle.exam_commands.specs.Touched.{stands_in}
use Rattle.exam_repair.proofs.touching.add_standing.Goals as goal

pub returns-clause-ok : goal.returns-clause-ok
returns-clause-ok c =
    let left : c.loop-key.key-iterator ≡ [] = rest_all deref_pair _ _ _ c.in-None.is c.next.ensures.steps in
    λ s. ap (λ (ms : List ((ℕ × Code) × Appeal)). list_any
    (stands_in (relations_of c.args.facts.now) s) ms || contains code_cmp c.loop-key.codes s) (sym left)
    ∙ c.loop-key.invariant s
