-- A good office whose tables are in order seats every session as promised.
use Rattle.std.proofs.Common.{◌≡◌, ℕ, ◌+◌, ◌≤◌, Bool, true, false, IsTrue, count_by, length, Option, Some, IfSome}
use Rattle.std.proofs.Common.{is_some, ap, sym, subst, refl, ◌∙◌, arith}
use Rattle.std.specs.Option.{option_map}
use Rattle.exam_plan.specs.Problems.{most_members}
use Rattle.exam_plan.specs.Matching.{IsLawful, occupants}
use Rattle.exam_rules.specs.Orders.{AreInOrder}
use Rattle.exam_rules.specs.Relations.{Code, code_cmp, has_row}
use Rattle.exam_rules.specs.Sessions.{members}
use Rattle.exam_rules.specs.Seatings.{seating, plan_of, fits, comes_before}
use Rattle.exam_rules.proofs.InOrder.{lists_rise}
use Rattle.exam_rules.proofs.NamedDesks.{desk_within, desk_apart}
use Rattle.exam_commands.specs.Good.{IsGood}
use Rattle.exam_commands.specs.Headline.{IsSeated, desk_of}
use Rattle.exam_commands.specs.State.{State}
use Rattle.exam_commands.proofs.AllSessions.{unknown_fits}
use Rattle.exam_commands.proofs.SameSeats.{few_members}

module _ (office : State) (s : Code) (good : IsGood office) (up : AreInOrder office.relations) where
  lawful : IsLawful (seating office.relations s) (plan_of office.seats s)
  lawful = (good.best s).lawful

  fit : (c : ℕ) (h : Code) → plan_of office.seats s c ≡ Some h → IsTrue (fits office.relations s c h)
  fit c h e = subst (λ (o : Option Code). IfSome o (λ k. IsTrue (fits office.relations s c k))) e (lawful.fitting c)

  -- who sit before c in the hall
  before : ℕ → Code → ℕ
  before c h = count_by (λ d. comes_before office.relations s d c)
      (occupants (seating office.relations s) (plan_of office.seats s) h)

  desk : (c : ℕ) (h : Code) → plan_of office.seats s c ≡ Some h → desk_of office s c ≡ Some (before c h + 1)
  unfolding before
  desk c h e = ap (option_map
      (λ k. count_by (λ d. comes_before office.relations s d c)
      (occupants (seating office.relations s) (plan_of office.seats s) k) + 1)) e

  -- nobody sits in a session that is not there
  few : (c : ℕ) (h : Code) → plan_of office.seats s c ≡ Some h → length (members office.relations s) ≤ most_members
  few c h e = inner (has_row code_cmp office.relations.sessions s) refl
    where
      inner : (b : Bool) → has_row code_cmp office.relations.sessions s ≡ b
          → length (members office.relations s) ≤ most_members
      inner true there = few_members office.relations good.limits s there
      inner false unknown =
          absurd (let both : true ≡ false = sym (fit c h e) ∙ unknown_fits office.relations s unknown c h in cc)

  pub is_seated : IsSeated office s
  is_seated = record {
    member = λ c h e. lawful.members c (ap is_some e);
    fitting = fit;
    at_desk = λ c h e. (
      before c h + 1,
      desk c h e,
      omega arith,
      desk_within office.relations s (lists_rise office.relations s up) (plan_of office.seats s) lawful c
          (before c h + 1) h e (desk c h e),
    );
    alone = λ c d h ec ed same. desk_apart office.relations s (lists_rise office.relations s up)
        (plan_of office.seats s) lawful (few c h ec) c d h ec ed same;
    greatest = (good.best s).greatest;
  }
