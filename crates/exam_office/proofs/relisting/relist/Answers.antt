use Rattle.std.proofs.Common.{◌≡◌, true, ap, sym, subst, inl, inr}
use Rattle.std.proofs.lemmas.Result.{on_ok_weaker}
use Rattle.exam_rules.specs.Lists.{AreListsOf}
use Rattle.exam_rules.specs.Relations.{Relations, relations_of}
use Rattle.exam_commands.specs.declared.command.Command.{Command}
use Rattle.exam_commands.specs.declared.command.Command.TheVariants as command
use Rattle.exam_commands.specs.FactsMade.{WasMade}
use Rattle.exam_office.proofs.KeptLists.{closing_made, keeps_lists, kept_lists}
use Rattle.exam_office.proofs.relisting.relist.Goals as goal

pub returns-in-Lodge-clause-ok : goal.returns-in-Lodge-clause-ok
returns-in-Lodge-clause-ok c =
    let keeps : keeps_lists c.args.command.now ≡ true =
    elim c.in-Lodge.is [
      | inl w ↦ ap keeps_lists w.1
      | inr rest ↦ elim rest
          [ inl w ↦ ap keeps_lists w.2 | inr w ↦ ap keeps_lists w.1 ]
    ] in
    kept_lists c.args.command.now c.requires.0
    (relations_of c.args.facts.now) c.args.lists.now c.requires.2 keeps c.requires.1

pub returns-in-CloseHall-clause-ok : goal.returns-in-CloseHall-clause-ok
returns-in-CloseHall-clause-ok c =
    let r : Relations = c.requires.0 in
    let t : Relations = relations_of c.args.facts.now in
    let was : WasMade (command.CloseHall c.in-CloseHall.session c.in-CloseHall.hall) r t =
    subst (λ (done : Command). WasMade done r t) c.in-CloseHall.is c.requires.2 in
    on_ok_weaker c.relist_halls.result
    (λ lists. subst (λ (u : Relations). AreListsOf u c.relist_halls.new.lists)
    (sym (closing_made r t c.in-CloseHall.session c.in-CloseHall.hall was))
    (lists r c.requires.2.order c.requires.1)) c.relist_halls.ensures.ok
