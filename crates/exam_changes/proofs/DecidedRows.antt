-- The rows of a decision are those that its outcome says.
use Rattle.std.proofs.Common.{◌≡◌, ℕ, Bool, true, false, cond, not, Option, None, Some, refl, sym}
use Rattle.exam_types.specs.declared.refusal.Refusal.{Refusal}
use Rattle.exam_rules.specs.declared.rows.Appeal.{Appeal}
use Rattle.exam_rules.specs.Relations.{Code, Relations, appeal_cmp, has_row, put_row}
use Rattle.exam_commands.specs.declared.command.Decision.{Decision}
use Rattle.exam_commands.specs.Appeals.{bears_mark, decided}
use Rattle.exam_commands.specs.Decisions.{with_outcome, with_superseded, without_mark}
use Rattle.exam_commands.proofs.Borne.{unmarked_same}
use Rattle.exam_changes.specs.Undoing as undoing

-- if nothing is refused, the appeal is open
pub open_first : (is : Bool) (e : Refusal) (rest : Option Refusal) → cond (not is) (Some e) rest ≡ None → is ≡ true
open_first true e rest none = refl
open_first false e rest none = absurd (let differ : Some e ≡ None = none in cc)

module _ (r : Relations) (d : Decision) (a : Appeal) where
  abbrev key : ℕ × Code
  key = (d.number, d.reference)

  pub rows_of_outcome : (earlier : Option ((ℕ × Code) × Appeal))
      → undoing.with_earlier earlier r.appeals ≡ with_superseded d.number a d.outcome r.appeals
      → has_row appeal_cmp r.standing key ≡ false
      → undoing.with_decided_rows earlier key (record a { status = decided d.outcome d.answer })
      (bears_mark d.outcome) r
      ≡ with_outcome r d a
  rows_of_outcome earlier superseded unmarked = λ i. record r {
    appeals = put_row appeal_cmp (superseded i) key (record a { status = decided d.outcome d.answer });
    standing = marks (bears_mark d.outcome) i;
  }
    where
      marks : (b : Bool) → cond b (put_row appeal_cmp r.standing key tt) r.standing
          ≡ cond b (put_row appeal_cmp r.standing key tt) (without_mark key r.standing)
      marks true = refl
      marks false = sym (unmarked_same r.standing key unmarked)
