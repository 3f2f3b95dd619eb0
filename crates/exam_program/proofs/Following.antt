-- Lines in turn, each over the files that the one before gave back.
use Rattle.std.proofs.Common.{◌≡◌, ◌∙◌, ℕ, List, [], ◌∷◌, Option, None, Some, inl, inr, refl, sym, subst}
use Rattle.std.specs.Prelude.{Result, Ok, Err}
use Rattle.sqlite_disk.specs.declared.Disk as disk
use Rattle.sqlite_disk.specs.declared.Files.{Files}
use Rattle.sqlite_store.specs.declared.store.FileStore.{FileStore}
use Rattle.sqlite_wal.specs.Reads.{AreClean}
use Rattle.sqlite.specs.Effect.{Database}
use Rattle.sqlite.specs.Files.{file_state, over_files}
use Rattle.sqlite.specs.Held.{Held}
use Rattle.exam_commands.specs.State.{State as Office}
use Rattle.exam_line.specs.Lines.{Job, Said}
use Rattle.exam_line.specs.Lines as line
use Rattle.exam_tables.specs.Transactions.{IsSound}
use Rattle.exam_tables.specs.Versions.{ContainsOf, IsBlank, IsVersion, marks_since, version}
use Rattle.exam_store.specs.Kept.{KeepsIn}
use Rattle.exam_store.proofs.Marking.{made_of, no_older}
use Rattle.exam_job.specs.Printed.{Contents}
use Rattle.exam_job.specs.declared.report.JobFault.{JobFault}
use Rattle.exam_program.specs.Files.{HoldOfficeIn, HoldStill, HoldsAfter, Leads, LeadsInTurn, RunInTurn}
use Rattle.exam_program.specs.Running.{IsReady, RunsOn}
use Rattle.exam_program.proofs.Keeping.{OneResult}
use Rattle.exam_program.proofs.Opened.{some_made}
use Rattle.exam_program.proofs.Ran.{in_newest, runs_newest}
use Rattle.exam_program.proofs.Shown.{has_tables, sees}

module _ {D : Type 0} (g : disk.Ghosts D) where
  -- the files hold the office in some version
  still : (j : Job) (result : Result ℕ JobFault) (v : ℕ) (files : Files D) (office : Office) → IsVersion v
      → HoldStill g j result v files office
      → (u : ℕ) × IsVersion u × HoldOfficeIn g u files office
  still line.migrate (Ok status) v files office is h = (version, inr refl, h)
  still line.migrate (Err fault) v files office is (inl h) = (v, is, h)
  still line.migrate (Err fault) v files office is (inr h) = (version, inr refl, h)
  still line.check result v files office is h = (v, is, h)
  still line.init result v files office is h = (v, is, h)
  still (line.import kind path) result v files office is h = (v, is, h)
  still (line.apply done) result v files office is h = (v, is, h)
  still (line.serve port) result v files office is h = (v, is, h)
  still (line.print session sheet) result v files office is h = (v, is, h)

  not_blank : (v : ℕ) (db : Database) (office : Office) → KeepsIn v db office → IsBlank db → ⊥
  not_blank v db office kept blank = some_made (marks_since v) (sym kept.contains.0.schema_is ∙ blank)

  module _ {O E : Type 0} (one_result : OneResult) (contents : Contents O) (errors : Contents E) where
    -- an office was opened only in the newest version
    newest : (said : Said) (was : Held (FileStore D g)) (before : O) (untold : E) (result : Result ℕ JobFault)
        (now : Held (FileStore D g)) (done : Office) (after : O) (told : E) (v : ℕ) (office : Office)
        → IsVersion v → KeepsIn v (file_state was).now office
        → RunsOn over_files contents errors said said.job was before untold result now (Some done) after told
        → IsSound (file_state now)
        → v ≡ version
    newest said was before untold result now done after told v office (inr is) kept runs sound = is
    newest said was before untold result now done after told v office (inl older) kept runs sound =
        absurd
        (no_older v older
        (runs_newest over_files one_result contents errors said was before untold now after told done sound
        (not_blank v (file_state was).now office kept) said.job result runs v (inl older) kept.all
        (made_of v (file_state was).now kept.all kept.contains) kept.version))

    ready : (j : Job) (was : Held (FileStore D g)) (v : ℕ) (office : Office) → v ≡ version
        → (file_state was).committed ≡ (file_state was).now → KeepsIn v (file_state was).now office
        → IsReady j (file_state was)
    ready j was v office is settled kept = (
      settled,
      has_tables j (file_state was).now
          (kept.all, (subst (λ (n : ℕ). ContainsOf n (file_state was).now kept.all) is kept.contains).0),
    )

    -- one line
    led : (said : Said) (was : Held (FileStore D g)) (before : O) (untold : E) (result : Result ℕ JobFault)
        (now : Held (FileStore D g)) (after : O) (told : E) (next : Files D) (v : ℕ) (office : Office)
        → IsVersion v → KeepsIn v (file_state was).now office → (file_state was).committed ≡ (file_state was).now
        → IsSound (file_state now) → AreClean g next.log next.db → (done : Option Office)
        → RunsOn over_files contents errors said said.job was before untold result now done after told
        → HoldsAfter said.job was result done (Ok next)
        → (u : ℕ) × (between : Office) × IsVersion u × Leads g said.job result v office done u between next
        × HoldOfficeIn g u next between
    led said was before untold result now after told next v office is kept settled sound clean None runs holds =
        let left = holds clean settled v is office kept in
        let found = still said.job result v next office is left in
        (found.0, office, found.1, (refl, left, found.2), found.2)
    led said was before untold result now after told next v office is kept settled sound clean (Some done) runs holds =
        let number = newest said was before untold result now done after told v office is kept runs sound in
        let left = in_newest g next done (holds clean (ready said.job was v office number settled kept)) in
        (version, done, inr refl, (number, refl, refl, left), left)

    pub lead : (lines : List Said) (first last : Files D) (v : ℕ) (office : Office) → IsVersion v
        → HoldOfficeIn g v first office → RunInTurn g contents errors first lines last
        → (w : ℕ) × (new : Office) × IsVersion w × LeadsInTurn g contents errors v office lines w new last
    lead [] first last v office is held same =
        (v, office, is, (refl, refl, subst (λ (f : Files D). HoldOfficeIn g v f office) (sym same) held))
    lead (said ∷ rest) first last v office is held
        (was, before, untold, result, next, after, told, found, opened, (now, done, runs, closes, holds), clean, more) =
        let it = sees g first was held found opened in
        let kept : KeepsIn v (file_state was).now office =
        subst (λ (db : Database). KeepsIn v db office) (sym it.1) held.keeps in
        let copied = closes.1 clean in
        let one = led said was before untold result now after told next v office is kept it.0
        (copied.was_clean, copied.was_open) clean done runs holds in
        let later = lead rest next last one.0 one.1 one.2 one.4 more in (
          later.0,
          later.1,
          later.2,
          (
            was,
            before,
            untold,
            result,
            now,
            done,
            after,
            told,
            kept,
            runs,
            one.0,
            one.1,
            next,
            one.2,
            one.3,
            later.3,
          ),
        )
