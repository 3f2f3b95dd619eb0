-- An import file that was read, or was not.
use Rattle.std.proofs.Common.{◌≡◌, ◌∙◌, ℕ, List, Option, Result, Ok, Err, refl, ap, inl, inr}
use Rattle.std.specs.Prelude.{IsErrAnd}
use Rattle.sqlite_trees.specs.declared.store.Store.{Ghosts}
use Rattle.exam_commands.specs.declared.command.Command.TheVariants as command
use Rattle.exam_commands.specs.declared.import_row.Kind.{Kind}
use Rattle.exam_commands.specs.Imports.{ImportRows}
use Rattle.exam_store.specs.Stores.{OfficeIn}
use Rattle.exam_job.specs.Jobs.{Commands, ImportsFile, denoted, short, unread}
use Rattle.exam_job.specs.Reading.{ReadsImport}
use Rattle.exam_job.specs.declared.report.JobFault.{JobFault}

-- it was read, and imported
pub imported : {S W : Type 0} (g : Ghosts S) (contents : W → Option (List ℕ)) (kind : Kind) (today : ℕ)
    (input rest : Option (List ℕ)) (rows : ImportRows)
    (old : OfficeIn S) (before : W) (result : Result (Unit {0}) JobFault) (new : OfficeIn S) (after : W)
    → ReadsImport kind input rest (Ok rows)
    → Commands g contents (command.Import rows) today old before result new after
    → ImportsFile g contents kind today input rest old before result new after
imported g contents kind today input rest rows old before result new after read done = denoted (Ok rows) read done

-- it was not, and nothing was done
pub unimported : {S W : Type 0} (g : Ghosts S) (contents : W → Option (List ℕ)) (kind : Kind) (today : ℕ)
    (input rest : Option (List ℕ)) (fault : JobFault)
    (old : OfficeIn S) (before : W) (result : Result (Unit {0}) JobFault)
    → ReadsImport kind input rest (Err fault) → IsErrAnd result (λ given. given ≡ fault)
    → ImportsFile g contents kind today input rest old before result old before
unimported g contents kind today input rest fault old before (Ok done) read is = absurd is
unimported g contents kind today input rest fault old before (Err given) (inl (inl file, read)) is =
    unread read (ap Err (is ∙ file), refl, refl)
unimported g contents kind today input rest fault old before (Err given) (inl (inr lack, read)) is =
    short read (ap Err (is ∙ lack), refl, refl)
unimported g contents kind today input rest fault old before (Err given) (inr (refusal, refused, read)) is =
    denoted (Err refusal) read (ap Err (is ∙ refused), refl, refl)
