use Rattle.std.proofs.Common.{subst}
use Rattle.exam_rules.specs.Relations.{relations_of}
use Rattle.exam_commands.specs.Good.{IsFirstBadOf}
use Rattle.exam_commands.specs.State.{State}
use Rattle.exam_repair.proofs.FirstBad.{of_imports, others, stops, goes_on_ok}
use Rattle.exam_repair.proofs.judging.first_bad_listed.Goals as goal

pub returns-in-Some-clause-ok : goal.returns-in-Some-clause-ok
returns-in-Some-clause-ok c =
    let office : State = record { relations = relations_of c.args.facts.now; seats = c.args.seats.now.entries } in
    stops office of_imports others c.in-Some.table
    (subst (IsFirstBadOf office of_imports) c.in-Some.is
    (c.first_bad_of_imports.ensures.first c.args.seats.now.entries))

pub returns-in-None-clause-ok : goal.returns-in-None-clause-ok
returns-in-None-clause-ok c =
    let office : State = record { relations = relations_of c.args.facts.now; seats = c.args.seats.now.entries } in
    goes_on_ok office of_imports others c.first_bad_of_others.result
    (subst (IsFirstBadOf office of_imports) c.in-None.is
    (c.first_bad_of_imports.ensures.first c.args.seats.now.entries)) c.first_bad_of_others.ensures.ok
