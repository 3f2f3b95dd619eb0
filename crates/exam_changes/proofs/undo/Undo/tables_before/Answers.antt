-- Each kind of change names the one table that it touched, or each of them for an import; every other table is what it
-- was.
use Rattle.std.proofs.Common.{None, Some, refl, subst}
use Rattle.exam_rules.specs.Relations.{appeal_cmp, entry_cmp}
use Rattle.exam_rules.specs.Tables as table
use Rattle.exam_commands.proofs.KeyedRows.{appeals_exact, appeals_total}
use Rattle.exam_changes.specs.declared.undo.Undo.{Undo}
use Rattle.exam_changes.specs.Undoing.{IsThere}
use Rattle.exam_changes.proofs.Exchanges.{set_others}
use Rattle.exam_changes.proofs.undo.Undo.tables_before.Goals as goal

pub returns-in-Entry : goal.returns-in-Entry
returns-in-Entry c = λ r up there.
    rw (c.same-before.ensures, c.in-Entry.is)
    (elim [
      | table.Entries ↦ (
        subst (λ (u : Undo). IsThere u r) c.in-Entry.is there,
        set_others entry_cmp appeals_total appeals_exact r.entries c.in-Entry.key (Some c.in-Entry.field-1)
            (up table.Entries),
      )
      | _ ↦ refl
    ])

pub returns-in-NewAppeal : goal.returns-in-NewAppeal
returns-in-NewAppeal c = λ r up there.
    rw (c.same-before.ensures, c.in-NewAppeal.is)
    (elim [
      | table.Appeals ↦ (
        subst (λ (u : Undo). IsThere u r) c.in-NewAppeal.is there,
        set_others appeal_cmp appeals_total appeals_exact r.appeals c.in-NewAppeal.key None (up table.Appeals),
      )
      | _ ↦ refl
    ])

pub returns-in-Appeal : goal.returns-in-Appeal
returns-in-Appeal c = λ r up there.
    rw (c.same-before.ensures, c.in-Appeal.is)
    (elim [
      | table.Appeals ↦ (
        subst (λ (u : Undo). IsThere u r) c.in-Appeal.is there,
        set_others appeal_cmp appeals_total appeals_exact r.appeals c.in-Appeal.key (Some c.in-Appeal.field-1)
            (up table.Appeals),
      )
      | _ ↦ refl
    ])

pub returns-in-Nothing : goal.returns-in-Nothing
returns-in-Nothing c =
    λ r up there. rw (c.same-before.ensures, c.in-Nothing.is) (elim [ table.Entries ↦ refl | _ ↦ refl ])

pub returns-in-Rows : goal.returns-in-Rows
returns-in-Rows c = λ r up there.
    rw c.in-Rows.is (c.tables_before-before.ensures r (subst (λ (u : Undo). IsThere u r) c.in-Rows.is there))

pub returns-in-Openings : goal.returns-in-Openings
returns-in-Openings c = λ r up there.
    rw (c.same-before.ensures, c.in-Openings.is) (elim [ table.Openings ↦ refl | _ ↦ refl ])
