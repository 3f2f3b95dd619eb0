-- An office that is brought to the newest version and opened.
use Rattle.exam_theorem.proofs.Words.{Ghosts, Trees, Database, HasCleanDisk, Survives, Refusal, IsInOrder, IsLeft}
use Rattle.exam_theorem.proofs.Words.{state, Commits, HasDays, OfficeIn, KeepsIt, BringsOver, HasOffice, IsAtRest}
use Rattle.exam_theorem.proofs.Words.{IsVersioned, RestsOn, StopsWith}
use Rattle.std.proofs.Common.{◌≡◌, ◌∙◌, ℕ, inl, inr, arith, sym, ap, subst}
use Rattle.std.specs.Prelude.{Result, Ok, Err, IsTrue}
use Rattle.sqlite.specs.State.{State}
use Rattle.exam_commands.specs.State.{State as Office}
use Rattle.exam_tables.proofs.Committing.{commits_ok, commits_weaker}
use Rattle.exam_store.specs.Found.{Finds, Migrates}
use Rattle.exam_theorem.proofs.Having.{committed_found, keeps_found, keeps_has, migrates_brings, same_found}

-- ---- one transaction or none

-- whatever a migration returns, it brings over what it had
pub brought : {A : Type 0} (old new : State) (result : Result A Refusal) → Commits old new result Migrates
    → Commits old new result BringsOver
brought old new result = commits_weaker old new result Migrates BringsOver migrates_brings

pub brought_over : (old new : State) (versions : ℕ × ℕ) → Commits {E = Refusal} old new (Ok versions) Migrates
    → Commits {A = Unit {0}} {E = Refusal} old new (Ok tt) BringsOver
brought_over old new versions made = commits_ok old new versions tt BringsOver (brought old new (Ok versions) made)

-- ---- a stop, and what stays

module _ {A : Type 0} (old new : State) (result : Result A Refusal) (made : Commits old new result BringsOver)
    (settled : (trees : Trees) → IsTrue old.is_open → old.may_leave trees → trees ≡ old.committed.trees) where
  -- what was there before, or in the newest version
  pub brought_stops : StopsWith old new
  brought_stops office rest clean trees may = elim (made.survives.crash clean trees may) [
    | inl earlier ↦ (
      old.now,
      rest.has,
      settled trees rest.is_open earlier ∙ ap (λ (db : Database). db.trees) rest.committed,
    )
    | inr turned ↦ (
      turned.0,
      keeps_has turned.0 office (turned.1 office rest.has) rest.has.order rest.has.days,
      turned.2,
    )
  ]

pub refused_rests : {A : Type 0} (old new : State) (e : Refusal) → Commits {A = A} old new (Err e) BringsOver
    → RestsOn old new
refused_rests old new e made sound office rest =
    let same = made.same sound in
    record {
      is_open = sound.1;
      committed = same.1 ∙ rest.committed ∙ sym same.0;
      has = subst (λ (db : Database). HasOffice db office) (sym same.0) rest.has;
    }

module _ (old mid : State) (made : Commits {A = Unit {0}} {E = Refusal} old mid (Ok tt) BringsOver) where
  brought_has : HasCleanDisk mid → (office : Office) → HasOffice old.now office → HasOffice mid.now office
  brought_has clean office has = keeps_has mid.now office ((made.turned clean).0 office has) has.order has.days

  -- opening it leaves it
  pub opened_stops : (new : State) → Survives mid new (λ _. ⊥) → StopsWith old new
  opened_stops new survives office rest clean trees may =
      let early : HasCleanDisk mid = omega (arith, survives.clean, clean) in
      elim (survives.crash clean trees may) [
        | inl left ↦ (
          mid.now,
          brought_has early office rest.has,
          made.settled early trees left ∙ ap (λ (db : Database). db.trees) (made.turned early).1,
        )
        | inr none ↦ absurd none
      ]

  pub opened_rests : (new : State) → Survives mid new (λ _. ⊥) → (HasCleanDisk new → IsLeft mid new) → RestsOn old new
  opened_rests new survives left sound office rest =
      let early : HasCleanDisk mid = omega (arith, survives.clean, sound.0) in
      let has = brought_has early office rest.has in
      let settled = (made.turned early).1 in
      elim (left sound.0) [
        | inl same ↦ record {
          is_open = sound.1;
          committed = same.0.committed_is ∙ settled ∙ sym same.0.now_is;
          has = subst (λ (db : Database). HasOffice db office) (sym same.0.now_is) has;
        }
        | inr back ↦
            let undone = back.undone sound.1 in
            record {
              is_open = sound.1;
              committed = undone.1 ∙ sym undone.0;
              has = subst (λ (db : Database). HasOffice db office) (sym (undone.0 ∙ settled)) has;
            }
      ]

module _ {S : Type 0} (g : Ghosts S) (old mid : State)
    (made : Commits {A = Unit {0}} {E = Refusal} old mid (Ok tt) BringsOver) (new : OfficeIn S)
    (finds : Finds mid (state g new.database) new.office) where
  early : HasCleanDisk (state g new.database) → HasCleanDisk mid
  early clean = omega (arith, finds.survives.clean, clean)

  same_opened : HasCleanDisk (state g new.database) → (office : Office) → HasOffice old.now office
      → new.office ≡ office
  same_opened clean =
      same_found old mid (state g new.database) (made.turned (early clean)).0 new.office finds clean

  pub opened_had : (HasCleanDisk mid → IsVersioned old.now → (office : Office) × HasOffice old.now office)
      → HasCleanDisk (state g new.database) → IsVersioned old.now → HasOffice old.now new.office
  opened_had had clean versioned =
      let it = had (early clean) versioned in subst (HasOffice old.now) (sym (same_opened clean it.0 it.1)) it.1

  pub opened_same : IsInOrder new.office → HasCleanDisk (state g new.database) → (office : Office)
      → HasOffice old.now office → (new.office ≡ office) × IsAtRest g new
  unfolding KeepsIt
  opened_same order clean office has =
      let turned = made.turned (early clean) in
      let same = same_opened clean office has in (
        same,
        record {
          is_open = (finds.same clean).0.is_open;
          kept = (
            keeps_found old mid (state g new.database) turned.0 new.office finds clean
                (subst (HasOffice old.now) (sym same) has),
            committed_found old mid (state g new.database) turned.0 new.office finds clean turned.1,
          );
          order = order;
          days = subst (λ (o : Office). HasDays o.relations) (sym same) has.days;
        },
      )
