use Rattle.std.proofs.Common.{◌≡◌, Contains, IsTrue, Bool, true, sym, subst, rules}
use Rattle.std.specs.Prelude.{◌↔◌}
use Rattle.std.proofs.lemmas.Result.{IfOk-weaker}
use Rattle.exam_rules.specs.Relations.{Code, Relations, relations_of}
use Rattle.exam_commands.specs.declared.command.Decision.{Decision}
use Rattle.exam_commands.specs.Appeals.{is_grant}
use Rattle.exam_commands.specs.Parts.{reads}
use Rattle.exam_commands.specs.Touched.{touches}
use Rattle.exam_office.proofs.LentPlans.{grant_reads, reads_touched}
use Rattle.exam_office.proofs.lending.read_sessions.Goals as goal

pub returns-in_default : goal.returns-in_default
returns-in_default c = record {
  exact = IfOk-weaker c.touched-in_default.result _ _
      (λ codes is s. subst (λ (b : Bool). Contains codes.items s ↔ IsTrue b)
      (sym (reads_touched c.args.command.now c.in_default.not-Lodge c.in_default.not-Decide
      (relations_of c.args.facts.now) s)) (is s)) c.touched-in_default.ensures.exact;
  memory = c.touched-in_default.ensures.memory;
}

pub returns-then-is_grant-clause-exact : goal.returns-then-is_grant-clause-exact
returns-then-is_grant-clause-exact c =
    let r : Relations = relations_of c.args.facts.now in
    let d : Decision = c.in-Decide.decision in
    let grants : is_grant d.outcome ≡ true = search rules in
    let same : (s : Code) → reads r c.args.command.now s ≡ touches r c.args.command.now s =
    λ s. subst (λ done. reads r done s ≡ touches r done s) (sym c.in-Decide.is) (grant_reads r d s grants) in
    IfOk-weaker c.touched.result _ _
    (λ codes is s. subst (λ (b : Bool). Contains codes.items s ↔ IsTrue b) (sym (same s)) (is s))
    c.touched.ensures.exact
