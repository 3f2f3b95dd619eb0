use Rattle.std.proofs.Common.{ap, is_some, inl, inr, refl, sym, ◌∙◌}
use Rattle.std.specs.Option.{option_copied}
use Rattle.exam_rules.specs.Relations.{code_cmp, has_row}
use Rattle.exam_commands.specs.State.{State}
use Rattle.exam_views.proofs.Showing.{on_err}
use Rattle.exam_office.proofs.office.Office.session_view.Goals as goal

pub returns-in_default-clause-refusal : goal.returns-in_default-clause-refusal
returns-in_default-clause-refusal c =
    inl (
      refl,
      ap (λ (o : State). has_row code_cmp o.relations.sessions c.args.session.now) (sym c.self.view_is)
          ∙ sym (ap is_some c.get.ensures.value) ∙ ap (λ o. is_some (option_copied o)) c.in_default.is,
    )

pub returns-clause-refusal : goal.returns-clause-refusal
returns-clause-refusal c = on_err c.view_of.result _ _
    (λ e memory. inr (
      memory,
      ap (λ (o : State). has_row code_cmp o.relations.sessions c.args.session.now) (sym c.self.view_is)
          ∙ sym (ap is_some c.get.ensures.value) ∙ ap (λ o. is_some (option_copied o)) c.in-Some.is,
    ))
    c.view_of.ensures.memory
