use Rattle.std.proofs.Common.{◌≡◌, rules}
use Rattle.exam_rules.specs.Relations.{relations_of}
use Rattle.exam_views.proofs.OwnRows.{appeal_turn}
use Rattle.exam_views.proofs.own_source.own_appeals.Goals as goal

pub loop-key-preserved : goal.loop-key-preserved
loop-key-preserved c =
    let same : c.in_ok-clone.field-0 ≡ c.in-Some.appeal.now = search rules in (
      tt,
      tt,
      appeal_turn (relations_of c.args.facts.now) c.in-Some.key.now c.in-Some.appeal.now
          c.in_ok-clone.field-0 c.contains_key.result c.loop-key.key-iterator.1 c.next.new.self.1
          c.loop-key.appeals.items
          c.push.new.self.items _
          same (search rules) c.in-Some.ensures.steps.0 c.in_ok-push.ensures.items c.loop-key.invariant.2,
    )
