use Rattle.std.proofs.Common.{ap, is_some, ◌∙◌}
use Rattle.exam_rules.specs.Relations.{relations_of}
use Rattle.exam_views.proofs.OwnSeats.{between, forward, if_some}
use Rattle.exam_views.proofs.own_source.seats_of.Goals as goal

pub range-requires : goal.range-requires
range-requires c =
    rw (c.new.ensures.start, c.new.ensures.end)
    (forward c.args.session.now c.args.facts.now.candidates.entries c.unwrap.result.0.now c.unwrap-2.result.0.now
    (if_some c.first_key_value.result c.unwrap.result _ c.unwrap.ensures c.first_key_value.ensures.all_from)
    (ap is_some (if_some c.last_key_value.result c.unwrap-2.result _ c.unwrap-2.ensures
    c.last_key_value.ensures.value)))

pub returns-clause-value : goal.returns-clause-value
returns-clause-value c =
    c.range.ensures.between c.new.ensures.exhausted
    ∙ rw (c.new.ensures.start, c.new.ensures.end)
    (between (relations_of c.args.facts.now) c.args.seats.now.entries c.args.session.now c.range.ensures.ordered
    (c.requires.good.best c.args.session.now).lawful c.unwrap.result.0.now c.unwrap-2.result.0.now
    (if_some c.first_key_value.result c.unwrap.result _ c.unwrap.ensures c.first_key_value.ensures.all_from)
    (if_some c.last_key_value.result c.unwrap-2.result _ c.unwrap-2.ensures c.last_key_value.ensures.all_up_to))
