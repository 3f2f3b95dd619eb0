-- An import file that is read.
use Rattle.std.specs.Prelude.{◌≡◌, ◌⊎◌, ⊤, ℕ, ◌+◌, ◌<◌, ◌≤◌, List, length, Option, Result, Ok, Err}
use Rattle.std.specs.Io.KnownBytes.{Consumes, IsAtEnd}
use Rattle.exam_types.specs.declared.refusal.Refusal.{Refusal}
use Rattle.exam_types.specs.declared.refusal.Refusal.TheVariants.{NoMemory}
use Rattle.exam_commands.specs.declared.import_row.Kind.{Kind}
use Rattle.exam_commands.specs.Imports.{ImportRows}
use Rattle.exam_files.specs.ImportFiles.{import_of, most_bytes}
use Rattle.exam_send.specs.Given.{Gave}
use Rattle.exam_job.specs.declared.report.JobFault.{JobFault}
use Rattle.exam_job.specs.declared.report.JobFault.TheVariants.{File, Refused}

-- the most bytes that are read of an import file: one more than it may have
abbrev pub most_read : ℕ
most_read = most_bytes + 1

-- some bytes were read; nothing is said of them
abbrev pub Reads : Option (List ℕ) → Option (List ℕ) → Type 0
Reads input rest = Gave most_read input rest (λ bytes. ⊤)

-- these bytes were read, and they are all bytes of the file, unless there are too many
pub record ReadsAll (input rest : Option (List ℕ)) (bytes : List ℕ) : Type 0 where
  pub few : length bytes ≤ most_read
  pub consumed : Consumes input rest bytes
  pub whole : length bytes < most_read → IsAtEnd rest

-- a read failed, or memory ran out
abbrev pub IsReadFault : JobFault → Type 0
IsReadFault fault = (fault ≡ File) ⊎ (fault ≡ Refused NoMemory)

-- the import that a file denotes, or its refusal; or the file was not read whole
abbrev pub ReadsImport : Kind → Option (List ℕ) → Option (List ℕ) → Result ImportRows JobFault → Type 0
ReadsImport kind input rest (Ok rows) = Gave most_read input rest (λ bytes. import_of kind bytes ≡ Ok rows)
ReadsImport kind input rest (Err fault) =
    (IsReadFault fault × Reads input rest)
    ⊎ ((refusal : Refusal) × (fault ≡ Refused refusal)
    × Gave most_read input rest (λ bytes. import_of kind bytes ≡ Err refusal))
