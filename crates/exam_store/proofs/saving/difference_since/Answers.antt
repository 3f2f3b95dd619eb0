use Rattle.std.proofs.Common.{subst}
use Rattle.exam_store.specs.Saves.{TurnsTable}
use Rattle.exam_changes.specs.TablesBefore.{WasTable}
use Rattle.exam_store.proofs.saving.difference_since.Goals as goal

pub returns-in-Same : goal.returns-in-Same
returns-in-Same g c old exact up was =
    let same = subst (λ b. WasTable g.K.Ord.cmp b old c.args.after.now.entries) c.in-Same.is was in
    subst (λ new. TurnsTable g.K.Ord.cmp old new c.no_difference.result) same (c.no_difference.ensures old)
