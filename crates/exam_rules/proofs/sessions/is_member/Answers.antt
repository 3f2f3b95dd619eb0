use Rattle.exam_rules.proofs.Words.{relations_of}
use Rattle.exam_rules.proofs.Sitters.{known_listed, unknown_listed}
use Rattle.exam_rules.proofs.sessions.is_member.Goals as goal

pub returns-then-contains_key-clause-listed : goal.returns-then-contains_key-clause-listed
returns-then-contains_key-clause-listed c =
    known_listed (relations_of c.args.facts.now) c.args.session.now c.args.number c.contains_key.result
    c.has_live_entry.result
    c.contains_key.ensures c.if-contains_key.true c.has_live_entry.ensures

pub returns-else-contains_key-clause-listed : goal.returns-else-contains_key-clause-listed
returns-else-contains_key-clause-listed c =
    unknown_listed (relations_of c.args.facts.now) c.args.session.now c.args.number c.contains_key.result
    c.contains_key.ensures c.if-contains_key.false
