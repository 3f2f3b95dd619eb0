-- To list a part changes none of its facts and plans, so what holds of a listed part holds of this one.
use Rattle.std.proofs.Common.{◌≡◌, rules, Err, inl, sym, subst}
use Rattle.std.specs.Prelude.{IfErr, IfOk, OnErr}
use Rattle.exam_commands.specs.Parts.{Agrees, IsPutBack, IsRefusedIn}
use Rattle.exam_commands.specs.State.{State}
use Rattle.exam_commands.specs.Steps.{MayStep}
use Rattle.exam_laws.proofs.Parting.{refused_back}
use Rattle.exam_office.specs.HeldParts.{HasLists, IsPartFor, IsStep, part_state}
use Rattle.exam_office.proofs.SteppedParts.{lists_after, ready_after, still_part}
use Rattle.exam_office.proofs.part_steps.step_part.Goals as goal

pub list-requires : goal.list-requires
list-requires c = c.requires.kept

pub step_listed-requires-clause-part : goal.step_listed-requires-clause-part
step_listed-requires-clause-part c =
    still_part c.args.command.now c.args.part.now c.list.new.self c.requires c.list.ensures.state
    c.in_ok-list.ensures.listed

pub returns-clause-step : goal.returns-clause-step
returns-clause-step c = λ office after good up agrees put.
    c.step_listed.ensures.step office after good up
    (subst (Agrees c.args.command.now office) (sym c.list.ensures.state) agrees) put

pub returns-clause-made : goal.returns-clause-made
returns-clause-made c =
    subst (λ (old : State). IfOk c.step_listed.result
    (IsStep c.args.command.now c.args.today old c.step_listed.new.part)) c.list.ensures.state
    c.step_listed.ensures.made

pub returns-clause-refusal : goal.returns-clause-refusal
returns-clause-refusal c =
    subst (λ (old : State). IfErr c.step_listed.result (IsRefusedIn c.args.command.now c.args.today old))
    c.list.ensures.state c.step_listed.ensures.refusal

pub returns-clause-err : goal.returns-clause-err
returns-clause-err c =
    subst (λ (old : State). OnErr c.step_listed.result (part_state c.step_listed.new.part ≡ old)) c.list.ensures.state
    c.step_listed.ensures.err

pub returns-clause-ready : goal.returns-clause-ready
returns-clause-ready c =
    ready_after c.args.command.now c.args.part.now c.list.new.self c.step_listed.new.part c.list.ensures.state
    c.step_listed.result c.requires c.step_listed.ensures.err
    c.step_listed.ensures.listed

pub returns-clause-lists : goal.returns-clause-lists
returns-clause-lists c =
    λ were. lists_after c.args.command.now c.args.part.now c.list.new.self c.step_listed.new.part c.list.ensures.state
    c.step_listed.result c.step_listed.ensures.listed

pub returns-in_err-list-clause-step : goal.returns-in_err-list-clause-step
returns-in_err-list-clause-step c = λ office after good up agrees put.
    let e = c.in_err-list.field-0.0 in
    let is : c.from_residual.result ≡ Err e = search rules in
    subst (λ result. MayStep c.args.command.now c.args.today office result after) (sym is)
    (refused_back c.args.today office (part_state c.args.part.now) after good up c.args.command.now e agrees
    (subst (λ (part : State). IsPutBack c.args.command.now office part after) c.list.ensures.state put)
    (inl c.in_err-list.ensures.memory))

pub returns-in_err-list-clause-refusal : goal.returns-in_err-list-clause-refusal
returns-in_err-list-clause-refusal c =
    let is : c.from_residual.result ≡ Err c.in_err-list.field-0.0 = search rules in
    subst (λ result. IfErr result (IsRefusedIn c.args.command.now c.args.today (part_state c.args.part.now))) (sym is)
    (inl c.in_err-list.ensures.memory)

pub returns-in_err-list-clause-ready : goal.returns-in_err-list-clause-ready
returns-in_err-list-clause-ready c =
    let is : c.from_residual.result ≡ Err c.in_err-list.field-0.0 = search rules in
    subst (λ result. OnErr result (IsPartFor c.args.command.now c.list.new.self)) (sym is)
    (subst (IsPartFor c.args.command.now) (sym c.in_err-list.ensures.err) c.requires)

pub returns-in_err-list-clause-lists : goal.returns-in_err-list-clause-lists
returns-in_err-list-clause-lists c = λ were.
    let is : c.from_residual.result ≡ Err c.in_err-list.field-0.0 = search rules in
    subst (λ result. OnErr result (HasLists c.list.new.self)) (sym is)
    (subst HasLists (sym c.in_err-list.ensures.err) were)
