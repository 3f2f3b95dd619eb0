-- A sheet leaves an office in a store as it is.
use Rattle.exam_theorem.proofs.Words.{Ghosts, Code, Job, Sheet, OfficeIn, DoesJob, JobFault, KeepsOn, sheet_of}
use Rattle.std.proofs.Common.{◌≡◌, ℕ, true, List, Option, Result}
use Rattle.std.specs.Prelude.{is_some}
use Rattle.exam_line.specs.Lines as line
use Rattle.exam_line.specs.declared.line.Sheet.TheVariants as sheet
use Rattle.exam_theorem.specs.Life.{Stays}
use Rattle.exam_theorem.proofs.Settling.{IsSettled, reading_settles, unchanged_settles}
use Rattle.exam_theorem.proofs.Sheets.{job_keeps}

module _ {S W : Type 0} (g : Ghosts S) (settled : IsSettled g) (contents : W → Option (List ℕ)) (today : ℕ)
    (input rest : Option (List ℕ)) (old new : OfficeIn S) (before : W) (result : Result (Unit {0}) JobFault)
    (after : W) where
  sheet_stays : (s : Code) (which : Sheet)
      → DoesJob g contents (line.print s which) today input rest old before result new after → new.office ≡ old.office
      → KeepsOn g old new → Stays g old new
  sheet_stays s sheet.Appeals h same on =
      (same, reading_settles g settled ⊥ (λ at. ⊥) old new same h.1.read.survives on)
  sheet_stays s which h same on = (same, unchanged_settles g settled ⊥ (λ at. ⊥) old new h.1)

  pub job_stays : (job : Job) → is_some (sheet_of job) ≡ true
      → DoesJob g contents job today input rest old before result new after → Stays g old new
  job_stays (line.print s which) asks h =
      let kept = job_keeps g contents today input rest old new before result after (line.print s which) asks h in
      sheet_stays s which h kept.0 kept.1
  job_stays other asks h = absurd cc
