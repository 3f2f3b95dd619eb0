-- Both lists rise, so the lesser of the two heads is gone or new, and equal heads differ or not. What was walked so
-- far is differed; each turn shortens a list.
use Rattle.exam_tables.proofs.Words.{deref_pair}
use Rattle.std.proofs.Common.{map, sym, ap, ◌∙◌}
use Rattle.exam_tables.proofs.Differing.{refs_delete, refs_put, refs_pass, refs_change}
use Rattle.exam_tables.proofs.differences.merge.Goals as goal
use Rattle.exam_tables.proofs.differences.merge.Goals.{then-ne+in_ok-push-in-Equal, else-ne}

pub rows-preserved-in-Less : goal.rows-preserved-in-Less
rows-preserved-in-Less g c =
    refs_delete g.met.K.Ord.total g.V.PartialEq.eq (map deref_pair c.args.old.now)
    (map deref_pair c.args.new.now) c.rows.old.now c.rows.new.now c.rows.put.items c.rows.put.items
    c.rows.delete.items c.push.new.self.items c.index-old-0.result
    c.in-Less.ensures.bounds c.in-Less.ensures.first c.in_ok-push-in-Less.ensures.items c.rows.invariant

pub rows-preserved-in-Greater : goal.rows-preserved-in-Greater
rows-preserved-in-Greater g c =
    refs_put g.met.K.Ord.total g.V.PartialEq.eq (map deref_pair c.args.old.now)
    (map deref_pair c.args.new.now) c.rows.old.now c.rows.new.now c.rows.put.items c.push-in-Greater.new.self.items
    c.rows.delete.items c.rows.delete.items c.index-new-0.result
    c.in-Greater.ensures.bounds c.in-Greater.ensures.first c.index-new-0.is c.in_ok-push-in-Greater.ensures.items
    c.rows.invariant

pub rows-preserved : goal.rows-preserved
rows-preserved g c =
    let both = c.in-Equal.ensures.bounds in
    let old = map deref_pair c.args.old.now in
    let new = map deref_pair c.args.new.now in
    elim c.if-ne.branch [
      | then-ne+in_ok-push-in-Equal w ↦
          refs_change g.met.K.Ord.total g.V.PartialEq.eq old new c.rows.old.now c.rows.new.now c.rows.put.items
          c.if-ne.put.items c.rows.delete.items c.rows.delete.items
          c.index-old-0-in-Equal.result c.index-new-0-in-Equal.result both.0 both.1 c.in-Equal.ensures.first
          c.rows.invariant (sym c.ne.ensures ∙ w.if-ne.true)
          w.index-new-0-then-ne.result w.index-new-0-then-ne.is
          (ap (λ v. v.items) w.put-is ∙ w.in_ok-push-in-Equal.ensures.items)
      | else-ne w ↦
          refs_pass g.met.K.Ord.total g.V.PartialEq.eq old new c.rows.old.now c.rows.new.now c.rows.put.items
          c.if-ne.put.items c.rows.delete.items c.rows.delete.items
          c.index-old-0-in-Equal.result c.index-new-0-in-Equal.result both.0 both.1 c.in-Equal.ensures.first
          c.rows.invariant (sym c.ne.ensures ∙ w.if-ne.false)
          (ap (λ v. v.items) w.put-is)
    ]
