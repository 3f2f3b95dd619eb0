use Rattle.std.proofs.Common.{refl, None, [], sym, subst}
use Rattle.exam_rules.specs.Lists.{AreListsOf}
use Rattle.exam_rules.specs.Relations.{Relations, no_relations}
use Rattle.exam_commands.specs.Good.{IsGood}
use Rattle.exam_commands.specs.Singles.{same_single_key}
use Rattle.exam_commands.specs.State.{Seats, empty_state}
use Rattle.exam_commands.proofs.Distinct.{distinct_none}
use Rattle.exam_commands.proofs.AllSessions.{unknown_repaired}
use Rattle.exam_office.proofs.office.Office.empty.Goals as goal

good : IsGood empty_state
good = record {
  refer = refl;
  limits = refl;
  single = distinct_none same_single_key;
  marks = refl;
  best = λ s. (unknown_repaired no_relations None [] [] s refl (λ c. refl)).best;
}

pub invariant_of-result : goal.invariant_of-result
invariant_of-result c = (
  subst (λ (r : Relations). IsGood (record { relations = r; seats = c.new-2.result.entries })) (sym c.new.ensures)
      (subst (λ (seats : Seats). IsGood (record { relations = no_relations; seats = seats }))
      (sym c.new-2.ensures.empty) good),
  subst (λ (r : Relations). AreListsOf r c.empty.result) (sym c.new.ensures) c.empty.ensures,
)
