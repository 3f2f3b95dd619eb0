use Rattle.std.proofs.Common.{sym, subst}
use Rattle.std.specs.Prelude.{◌↔◌, Contains, IsTrue}
use Rattle.exam_rules.specs.Lists.{AreListsOf}
use Rattle.exam_rules.specs.Relations.{Relations}
use Rattle.exam_commands.specs.Parts.{Agrees, reads}
use Rattle.exam_office.proofs.part.Part.of.Goals as goal

pub returns-clause-agrees : goal.returns-clause-agrees
returns-clause-agrees c =
    subst (λ (r : Relations). Agrees c.args.command.now c.args.office
    (record { relations = r; seats = c.in-Ok.read.1.entries }))
    (sym c.into_parts-facts.ensures.facts) c.in-Ok.ensures.plans

pub returns-clause-lists : goal.returns-clause-lists
returns-clause-lists c =
    subst (λ (r : Relations). AreListsOf r c.into_parts-facts.result.1)
    (sym c.into_parts-facts.ensures.facts) c.into_parts-facts.ensures.lists

pub returns-clause-ready : goal.returns-clause-ready
returns-clause-ready c = record {
  office = c.args.office;
  good = c.show_good.ensures;
  order = c.show_order.ensures;
  agrees = returns-clause-agrees c;
  kept = λ made. record {
    lists = returns-clause-lists c;
    sessions = λ s. subst (λ (r : Relations). Contains c.in-Ok.read.0.items s ↔ IsTrue (reads r c.args.command.now s))
        (sym c.into_parts-facts.ensures.facts) (c.in-Ok.ensures.sessions s);
  };
}
