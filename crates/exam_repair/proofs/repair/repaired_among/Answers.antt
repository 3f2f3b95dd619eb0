-- The plans of the sessions walked so far are repaired, and nobody sits in the others yet. The table has each session
-- once.
use Rattle.std.proofs.Common.{rules, Contains, [], is_some, ap, sym, subst}
use Rattle.std.specs.Map.Iter.{deref_pair}
use Rattle.std.specs.Cmp.Lexicographic.{nat_list_cmp_total}
use Rattle.std.proofs.lemmas.Map.Iter.{btree_map_turn}
use Rattle.exam_rules.specs.Relations.{relations_of}
use Rattle.exam_repair.proofs.ChosenSessions.{IsRepairedAmong, chosen_waits, none_chosen, one_chosen, one_passed}
use Rattle.exam_repair.proofs.repair.repaired_among.Goals as goal

pub repair_session-requires-clause-few : goal.repair_session-requires-clause-few
repair_session-requires-clause-few c =
    let turn = btree_map_turn deref_pair c.loop-session.yielded c.into_iter-session-iterator.result
    c.loop-session.session-iterator c.next.new.self c.next.result
    (c.in-Some.session, c.in-Some.field-0-1) c.loop-session.yielded_by c.in-Some.is c.next.ensures.steps
    nat_list_cmp_total c.args.facts.now.sessions c.into_iter-session-iterator.ensures.into_iter_gives.0
    c.into_iter-session-iterator.ensures.into_iter_gives.5 in
    c.requires.few c.in-Some.session.now (ap is_some turn.1)

pub repair_session-requires-clause-few_halls : goal.repair_session-requires-clause-few_halls
repair_session-requires-clause-few_halls c =
    let turn = btree_map_turn deref_pair c.loop-session.yielded c.into_iter-session-iterator.result
    c.loop-session.session-iterator c.next.new.self c.next.result
    (c.in-Some.session, c.in-Some.field-0-1) c.loop-session.yielded_by c.in-Some.is c.next.ensures.steps
    nat_list_cmp_total c.args.facts.now.sessions c.into_iter-session-iterator.ensures.into_iter_gives.0
    c.into_iter-session-iterator.ensures.into_iter_gives.5 in
    c.requires.few_halls c.in-Some.session.now (ap is_some turn.1)

pub repair_session-requires-clause-fresh : goal.repair_session-requires-clause-fresh
repair_session-requires-clause-fresh c =
    chosen_waits c.args.sessions.now
    (relations_of c.args.facts.now) c.args.first c.args.seats.now.entries c.loop-session.repaired.entries
    c.in-Some.session.now c.in-Some.field-0-1.now c.next.new.self
    (subst (IsRepairedAmong c.args.sessions.now
    (relations_of c.args.facts.now) c.args.first c.args.seats.now.entries c.loop-session.repaired.entries)
    c.in-Some.ensures.steps c.loop-session.invariant)

pub loop-session-init : goal.loop-session-init
loop-session-init c =
    subst (λ es. IsRepairedAmong c.args.sessions.now
    (relations_of c.args.facts.now) c.args.first c.args.seats.now.entries es c.into_iter-session-iterator.result)
    (sym c.new-repaired.ensures.empty)
    (subst (IsRepairedAmong c.args.sessions.now
    (relations_of c.args.facts.now) c.args.first c.args.seats.now.entries [])
    (sym c.into_iter-session-iterator.ensures.into_iter_gives.0)
    (none_chosen c.args.sessions.now
    (relations_of c.args.facts.now) c.args.first c.args.seats.now.entries
    c.into_iter-session-iterator.ensures.into_iter_gives.5))

pub loop-session-preserved-in-Continue-1 : goal.loop-session-preserved-in-Continue-1
loop-session-preserved-in-Continue-1 c =
    let here : Contains c.args.sessions.now c.in-Some.session.now = search rules in
    one_chosen c.args.sessions.now
    (relations_of c.args.facts.now) c.args.first c.args.seats.now.entries c.loop-session.repaired.entries
    c.in-Some.session.now c.in-Some.field-0-1.now c.next.new.self
    (subst (IsRepairedAmong c.args.sessions.now
    (relations_of c.args.facts.now) c.args.first c.args.seats.now.entries c.loop-session.repaired.entries)
    c.in-Some.ensures.steps c.loop-session.invariant)
    c.repair_session.new.repaired.entries here c.in_ok-repair_session.ensures.ok c.in_ok-repair_session.ensures.others

pub loop-session-preserved : goal.loop-session-preserved
loop-session-preserved c =
    let out : Contains c.args.sessions.now c.in-Some.session.now → ⊥ = search rules in
    one_passed c.args.sessions.now
    (relations_of c.args.facts.now) c.args.first c.args.seats.now.entries c.loop-session.repaired.entries
    c.in-Some.session.now c.in-Some.field-0-1.now c.next.new.self
    (subst (IsRepairedAmong c.args.sessions.now
    (relations_of c.args.facts.now) c.args.first c.args.seats.now.entries c.loop-session.repaired.entries)
    c.in-Some.ensures.steps c.loop-session.invariant)
    out
