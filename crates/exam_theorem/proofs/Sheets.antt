-- A sheet is printed of an office, which is kept.
use Rattle.exam_theorem.proofs.Words.{Ghosts, Code, State, Job, Sheet, OfficeIn, DoesJob, JobFault, told, KeepsOn}
use Rattle.exam_theorem.proofs.Words.{sheet_of, PrintsAsked}
use Rattle.std.proofs.Common.{◌≡◌, ℕ, true, List, Option, Some, Result, refl, sym, ap, subst, inr}
use Rattle.std.specs.Prelude.{is_some}
use Rattle.exam_files.specs.OfficeSheets.{register_of}
use Rattle.exam_line.specs.Lines as line
use Rattle.exam_line.specs.declared.line.Sheet.TheVariants as sheet
use Rattle.exam_job.specs.Sheets.{BreaksOffAppeals, PrintsAppeals, PrintsSheet, Streams}
use Rattle.exam_theorem.proofs.KeptOffice.{read_alone, unchanged}

module _ {S W : Type 0} (g : Ghosts S) (contents : W → Option (List ℕ)) (today : ℕ) (input rest : Option (List ℕ))
    (old new : OfficeIn S) (before : W) (result : Result (Unit {0}) JobFault) (after : W) where
  appeals_kept : (s : Code) → PrintsAppeals g contents s old before result new after → KeepsOn g old new
  appeals_kept s prints = read_alone g old new prints.read

  -- a sheet leaves the office, and what keeps it
  pub sheet_keeps : (s : Code) (which : Sheet)
      → DoesJob g contents (line.print s which) today input rest old before result new after
      → (new.office ≡ old.office) × KeepsOn g old new
  sheet_keeps s sheet.Appeals h = (h.1.read.office, appeals_kept s h.1)
  sheet_keeps s which h = (ap (λ (o : OfficeIn S). o.office) h.1, unchanged g old new h.1)

  pub job_keeps : (job : Job) → is_some (sheet_of job) ≡ true
      → DoesJob g contents job today input rest old before result new after
      → (new.office ≡ old.office) × KeepsOn g old new
  job_keeps (line.print s which) asks h = sheet_keeps s which h
  job_keeps other asks h = absurd cc

  printed : (s : Code) (which : Sheet)
      → DoesJob g contents (line.print s which) today input rest old before result new after
      → PrintsAsked g contents old new (Some (s, which)) before (told result) after
  printed s sheet.Appeals h =
      inr (
        result,
        refl,
        subst
            (λ (o : State). Streams (BreaksOffAppeals g old new) contents (register_of o s) before result after)
            (sym h.1.read.office) h.1.sheet,
      )
  printed s which h = inr (
    result,
    refl,
    subst (λ (it : OfficeIn S). PrintsSheet contents it.office s which before result after)
        (sym h.1) h.2,
  )

  pub job_printed : (job : Job) → is_some (sheet_of job) ≡ true
      → DoesJob g contents job today input rest old before result new after
      → PrintsAsked g contents old new (sheet_of job) before (told result) after
  job_printed (line.print s which) asks h = printed s which h
  job_printed other asks h = absurd cc
