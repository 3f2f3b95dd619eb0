-- The appeals of a session, as they go out line by line, are its register.
use Rattle.std.proofs.Common.{◌≡◌, ◌∙◌, ◌⊎◌, inl, inr, ℕ, List, [], ◌++◌, true, false, Option, Some, None, Result, Ok}
use Rattle.std.proofs.Common.{Err, refl, sym, ap, subst, append-nil}
use Rattle.std.specs.Prelude.{IfErr, IsErrAnd, is_some}
use Rattle.std.specs.Io.KnownBytes.{Appends}
use Rattle.std.proofs.KnownBytes.{Appends-kept}
use Rattle.sqlite_trees.specs.declared.store.Store.{Ghosts}
use Rattle.exam_send.specs.Sending.{AppendsBeginning}
use Rattle.exam_types.specs.declared.refusal.Refusal.{Refusal}
use Rattle.exam_types.specs.declared.refusal.Refusal.TheVariants.{UnknownSession}
use Rattle.exam_rules.specs.declared.rows.Session.{Session}
use Rattle.exam_rules.specs.Relations.{Code, code_cmp, has_row, row_at}
use Rattle.exam_commands.specs.State.{State}
use Rattle.exam_views.specs.Views.{appeals_of}
use Rattle.exam_files.specs.OfficeSheets.{of_known, register_of}
use Rattle.exam_files.specs.Registers as registers
use Rattle.exam_files.specs.Registers.{register_text}
use Rattle.exam_files.specs.declared.sheet_fault.SheetFault.{SheetFault}
use Rattle.exam_files.specs.declared.sheet_fault.SheetFault.TheVariants as faults
use Rattle.exam_store.specs.InTurn.{FailsToRead}
use Rattle.exam_store.specs.Stores.{OfficeIn}
use Rattle.exam_job.specs.Printed.{Flushes, fault_of}
use Rattle.exam_job.specs.Sheets.{BreaksOffAppeals, Streams}
use Rattle.exam_job.specs.declared.report.JobFault.{JobFault}
use Rattle.exam_job.specs.declared.report.JobFault.TheVariants.{Refused}

module _ {S : Type 0} (g : Ghosts S) (old new : OfficeIn S) where
  breaks : (fault : SheetFault) → registers.BreaksOff (FailsToRead g old new) ⊥ fault
      → BreaksOffAppeals g old new (fault_of fault)
  breaks faults.Write why = tt
  breaks (faults.Refused e) (inl short) = subst (FailsToRead g old new) (sym short) tt
  breaks (faults.Refused e) (inr (inl why)) = why.1
  breaks (faults.Refused e) (inr (inr none)) = absurd none.1

  module _ (office : State) (s : Code) {W : Type 0} (contents : W → Option (List ℕ)) (before : W) where
    abbrev register : List ℕ
    register = register_text s (appeals_of office.relations s)

    abbrev Sent : Result (List ℕ) Refusal → Result (Unit {0}) JobFault → W → Type 0
    Sent text result after = Streams (BreaksOffAppeals g old new) contents text before result after

    -- of a session that there is, and of one that there is not
    of_row : (row : Option Session) (result : Result (Unit {0}) JobFault) (after : W)
        → (is_some row ≡ true → Sent (Ok register) result after)
        → (is_some row ≡ false → (result ≡ Err (Refused UnknownSession)) × (after ≡ before))
        → Sent (of_known (λ session. Ok register) row) result after
    of_row None result after known unknown = unknown refl
    of_row (Some row) result after known unknown = known refl

    -- all went out, and then the writer was flushed
    flushed : (mid : W) (result : Result (Unit {0}) JobFault) (after : W)
        → Appends (contents before) (contents mid) register → Flushes contents mid result after
        → Sent (Ok register) result after
    flushed mid (Ok done) after whole held =
        Appends-kept (contents before) (contents mid) (contents after) register whole held
    flushed mid (Err e) after whole (is, held) = (
      subst (BreaksOffAppeals g old new) (sym is) tt,
      (
        register,
        [],
        sym (append-nil register),
        Appends-kept (contents before) (contents mid) (contents after) register whole held,
      ),
    )

    -- the register of a session that there is
    pub whole : (mid : W) (result : Result (Unit {0}) JobFault) (after : W)
        → (has_row code_cmp office.relations.sessions s ≡ true → Appends (contents before) (contents mid) register)
        → (has_row code_cmp office.relations.sessions s ≡ false → ⊥) → Flushes contents mid result after
        → Sent (register_of office s) result after
    whole mid result after known unknown held =
        of_row (row_at code_cmp office.relations.sessions s) result after
        (λ there. flushed mid result after (known there) held) (λ none. absurd (unknown none))

    -- a beginning of it, or nothing where the session is unknown
    pub part : (fault : SheetFault) (result : Result (Unit {0}) JobFault) (after : W) → result ≡ Err (fault_of fault)
        → (has_row code_cmp office.relations.sessions s ≡ true
        → registers.BreaksOff (FailsToRead g old new) ⊥ fault
        × AppendsBeginning (contents before) (contents after) register)
        → (has_row code_cmp office.relations.sessions s ≡ false
        → (fault ≡ faults.Refused UnknownSession) × (after ≡ before)) → Sent (register_of office s) result after
    part fault result after is known unknown =
        of_row (row_at code_cmp office.relations.sessions s) result after
        (λ there. subst (λ r. Sent (Ok register) r after) (sym is) (breaks fault (known there).0, (known there).1))
        (λ none. (is ∙ ap (λ f. Err (fault_of f)) (unknown none).0, (unknown none).1))

-- ---- the faults

-- a source with as many rows as were counted does not end sooner
enough_rows : (Refuses : Refusal → Type 0) (few : Type 0) → (few → ⊥) → (fault : SheetFault)
    → registers.BreaksOff Refuses few fault → registers.BreaksOff Refuses ⊥ fault
enough_rows Refuses few enough faults.Write why = tt
enough_rows Refuses few enough (faults.Refused e) (inl short) = inl short
enough_rows Refuses few enough (faults.Refused e) (inr (inl refused)) = inr (inl refused)
enough_rows Refuses few enough (faults.Refused e) (inr (inr ended)) = absurd (enough ended.1)

pub none_missing : (Refuses : Refusal → Type 0) (few : Type 0) → (few → ⊥) → (result : Result (Unit {0}) SheetFault)
    → IfErr result (registers.BreaksOff Refuses few)
    → IfErr result (registers.BreaksOff Refuses ⊥)
none_missing Refuses few enough (Ok done) why = tt
none_missing Refuses few enough (Err fault) why = enough_rows Refuses few enough fault why

pub told : (result : Result (Unit {0}) JobFault) (fault : JobFault) → IsErrAnd result (λ f. f ≡ fault)
    → result ≡ Err fault
told (Ok done) fault is = absurd is
told (Err f) fault is = ap Err is

pub unknown_fault : (e : SheetFault)
    → ◌≡◌ {A = Result (Unit {0}) SheetFault} (Err e) (Err (faults.Refused UnknownSession))
    → e ≡ faults.Refused UnknownSession
unknown_fault e is = cc
