use Rattle.std.proofs.Common.{◌≡◌, ◌&&◌, ◌||◌, List, [], ap, sym, ◌∙◌}
use Rattle.std.specs.BTreeSet.{contains}
use Rattle.std.specs.List.{list_any}
use Rattle.std.specs.Map.Iter.{deref_pair}
use Rattle.std.proofs.lemmas.Map.Iter.{rest_all}
use Rattle.exam_rules.specs.declared.rows.Opening.{Opening}
use Rattle.exam_rules.specs.Relations.{Code, code_cmp, same_code}
use Rattle.exam_repair.proofs.touching.add_opened.Goals as goal

pub returns-clause-ok : goal.returns-clause-ok
returns-clause-ok c =
    let left : c.loop-key.key-iterator ≡ [] = rest_all deref_pair _ _ _ c.in-None.is c.next.ensures.steps in
    λ s. ap (λ (es : List ((Code × Code) × Opening)). list_any
    (λ (o : (Code × Code) × Opening). same_code o.0.0 s && contains code_cmp c.args.halls.now o.0.1) es || contains
    code_cmp c.loop-key.codes s) (sym left)
    ∙ c.loop-key.invariant s
