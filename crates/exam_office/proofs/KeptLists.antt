-- A command that changes appeals alone leaves the lists of members and open halls; one that sets an entry live or
-- withdrawn changes one list, and so does the closing of a hall.
use Rattle.std.proofs.Common.{◌≡◌, ℕ, Bool, true, false, cond, List, Option, None, Some, ap, sym, subst, ◌∙◌}
use Rattle.std.specs.Prelude.{is_none}
use Rattle.exam_rules.specs.declared.listing.SessionLists.{SessionLists}
use Rattle.exam_rules.specs.declared.rows.Appeal.{Appeal}
use Rattle.exam_rules.specs.Lists.{AreListsOf, closed}
use Rattle.exam_rules.specs.Relations.{Code, Relations}
use Rattle.exam_commands.specs.declared.command.Command.{Command}
use Rattle.exam_commands.specs.declared.command.Command.TheVariants as command
use Rattle.exam_commands.specs.Appeals.{appeal_at, is_retracted}
use Rattle.exam_commands.specs.Decisions.{is_made, with_decided, with_outcome}
use Rattle.exam_commands.specs.FactsMade.{WasMade, facts_made}
use Rattle.exam_commands.specs.Lodgings as lodgings
use Rattle.exam_commands.specs.State.{State}

-- the command changes only appeals, which no list shows
abbrev pub keeps_lists : Command → Bool
keeps_lists (command.Import import) = false
keeps_lists (command.Withdraw c p) = false
keeps_lists (command.Reinstate c p) = false
keeps_lists (command.CloseHall s h) = false
keeps_lists (command.Lodge l) = true
keeps_lists (command.Retract c reference) = true
keeps_lists (command.Decide d) = true

abbrev Rows : Type 0
Rows = List ((ℕ × Code) × Appeal)

module _ (r : Relations) (lists : SessionLists) (are : AreListsOf r lists) where
  with_decisions : (appeals : Rows) (marks : List ((ℕ × Code) × Unit {0}))
      → AreListsOf (record r { appeals = appeals; standing = marks }) lists
  with_decisions appeals marks = record {
    numbers = are.numbers;
    members = are.members;
    halls = are.halls;
    rising = λ s. record { numbers = (are.rising s).numbers; codes = (are.rising s).codes };
  }

  either : (b : Bool) (appeals : Rows) (marks : List ((ℕ × Code) × Unit {0}))
      → AreListsOf (cond b r (record r { appeals = appeals; standing = marks })) lists
  either true appeals marks = are
  either false appeals marks = with_decisions appeals marks

module _ (today : ℕ) (office : State) (lists : SessionLists) (are : AreListsOf office.relations lists) where
  made_lists : (done : Command) → keeps_lists done ≡ true → AreListsOf (facts_made done today office) lists
  made_lists (command.Import import) keeps = absurd (let differ : false ≡ true = keeps in cc)
  made_lists (command.Withdraw c p) keeps = absurd (let differ : false ≡ true = keeps in cc)
  made_lists (command.Reinstate c p) keeps = absurd (let differ : false ≡ true = keeps in cc)
  made_lists (command.CloseHall s h) keeps = absurd (let differ : false ≡ true = keeps in cc)
  made_lists (command.Lodge l) keeps = inner (is_none (appeal_at office.relations l.number l.reference))
    where
      inner : (b : Bool) → AreListsOf (cond b (lodgings.with_appeal office.relations today l) office.relations) lists
      inner true = with_decisions office.relations lists are
          (lodgings.with_appeal office.relations today l).appeals office.relations.standing
      inner false = are
  made_lists (command.Retract c reference) keeps = inner (appeal_at office.relations c reference)
    where
      inner : (o : Option Appeal) → AreListsOf (lodgings.with_retracted office.relations c reference o) lists
      inner None = are
      inner (Some a) = either office.relations lists are (is_retracted a.status)
          (lodgings.with_retracted_appeal office.relations c reference a).appeals office.relations.standing
  made_lists (command.Decide d) keeps = inner (appeal_at office.relations d.number d.reference)
    where
      inner : (o : Option Appeal) → AreListsOf (with_decided office.relations d o) lists
      inner None = are
      inner (Some a) = either office.relations lists are (is_made office.relations d a)
          (with_outcome office.relations d a).appeals (with_outcome office.relations d a).standing

pub kept_lists : (done : Command) (r t : Relations) (lists : SessionLists) → WasMade done r t → keeps_lists done ≡ true
    → AreListsOf r lists → AreListsOf t lists
kept_lists done r t lists was keeps are =
    subst (λ (u : Relations). AreListsOf u lists) (sym was.made)
    (made_lists was.today was.office lists
    (subst (λ (u : Relations). AreListsOf u lists) (sym was.facts) are) done keeps)

-- ---- a hall closed

pub closing_made : (r t : Relations) (s h : Code) → WasMade (command.CloseHall s h) r t → t ≡ closed r s h
closing_made r t s h was = was.made ∙ ap (λ (u : Relations). closed u s h) was.facts
