-- The sheet that words ask for.
use Rattle.std.specs.Prelude.{◌≡◌, ◌⊎◌, ℕ, List, Option, Some, None, Result, Err}
use Rattle.sqlite_trees.specs.declared.store.Store.{Ghosts}
use Rattle.exam_rules.specs.Relations.{Code}
use Rattle.exam_files.specs.OfficeSheets.{register_of}
use Rattle.exam_line.specs.declared.line.LineFault.{LineFault}
use Rattle.exam_line.specs.declared.line.LineFault.TheVariants.{NoMemory}
use Rattle.exam_line.specs.declared.line.Sheet.{Sheet}
use Rattle.exam_line.specs.declared.line.Sheet.TheVariants as sheet
use Rattle.exam_store.specs.Stores.{OfficeIn}
use Rattle.exam_job.specs.Sheets.{BreaksOffAppeals, PrintsSheet, Streams}
use Rattle.exam_job.specs.declared.report.JobFault.{JobFault}
use Rattle.exam_theorem.specs.Following.{LineEnd, told}
use Rattle.exam_theorem.specs.declared.orders.LineStop.TheVariants.{NoLine}

-- The sheet of an office in a store, from the store before it is printed to the store after that. The appeals are read
-- from its database, and break off where one is not read; each other sheet is of the office alone.
abbrev pub PrintsOne : {S W : Type 0} → Ghosts S → (W → Option (List ℕ)) → OfficeIn S → OfficeIn S → Code → Sheet
    → W → Result (Unit {0}) JobFault → W → Type 0
PrintsOne g contents old it s sheet.Appeals before result after =
    Streams (BreaksOffAppeals g old it) contents (register_of it.office s) before result after
PrintsOne g contents old it s which before result after = PrintsSheet contents it.office s which before result after

-- Words that ask for no sheet print nothing, and neither do words for which memory runs out. A sheet that the words ask
-- for is that of the office in the store.
abbrev pub PrintsAsked : {S W : Type 0} → Ghosts S → (W → Option (List ℕ)) → OfficeIn S → OfficeIn S
    → Option (Code × Sheet) → W → LineEnd → W → Type 0
PrintsAsked g contents old it None before end after =
    (fault : LineFault) × (end ≡ Err (NoLine fault)) × (after ≡ before)
PrintsAsked g contents old it (Some asked) before end after =
    ((end ≡ Err (NoLine NoMemory)) × (after ≡ before))
    ⊎ ((job : Result (Unit {0}) JobFault) × (end ≡ told job)
    × PrintsOne g contents old it asked.0 asked.1 before job after)
