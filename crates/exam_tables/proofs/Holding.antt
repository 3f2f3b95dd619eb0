-- What tables hold whose keys rise and whose values have their forms.
use Rattle.exam_tables.proofs.Words.{Trees}
use Rattle.exam_rules.specs.Relations.{Relations}
use Rattle.exam_tables.specs.Held.{HoldsFacts, HoldsRelations}

-- they have the rows of the relations
pub held_facts : (all : Trees) (r : Relations) → HoldsRelations all r → HoldsFacts all r
held_facts all r holds t = (holds t).same
