-- What a call that writes a text leaves.
use Rattle.std.specs.Prelude.{◌≡◌, ◌⊎◌, ℕ, List, Option, Result, Ok, Err}
use Rattle.std.specs.Io.KnownBytes.{Appends}
use Rattle.exam_send.specs.Sending.{AppendsPart}
use Rattle.exam_types.specs.declared.refusal.Refusal.{Refusal}
use Rattle.exam_types.specs.declared.refusal.Refusal.TheVariants.{NoMemory}
use Rattle.exam_files.specs.declared.sheet_fault.SheetFault.{SheetFault}
use Rattle.exam_files.specs.declared.sheet_fault.SheetFault.TheVariants.{Refused, Write}

-- the text of a value, or the value's refusal
abbrev pub sheet_if : {X : Type 0} → (X → List ℕ) → Result X Refusal → Result (List ℕ) Refusal
sheet_if text (Ok x) = Ok (text x)
sheet_if text (Err e) = Err e

-- the sheet has a text
abbrev pub HasText : Result (List ℕ) Refusal → Type 0
HasText sheet = (text : List ℕ) × (sheet ≡ Ok text)

-- the refusal of the sheet; or memory ran out, which happens only if the sheet is not refused
abbrev pub IsRefusal : Refusal → Result (List ℕ) Refusal → Type 0
IsRefusal refusal sheet = ((refusal ≡ NoMemory) × HasText sheet) ⊎ (sheet ≡ Err refusal)

-- What a call that writes a sheet leaves: all of it was written; or nothing, and the writer is as it was; or a
-- beginning, but not all.
abbrev pub Writes : {W : Type 0} → (W → Option (List ℕ)) → Result (Unit {0}) SheetFault
    → W → W → Result (List ℕ) Refusal → Type 0
Writes contents (Ok done) old new sheet =
    (text : List ℕ) × (sheet ≡ Ok text) × Appends (contents old) (contents new) text
Writes contents (Err (Refused refusal)) old new sheet = (new ≡ old) × IsRefusal refusal sheet
Writes contents (Err Write) old new sheet =
    (text : List ℕ) × (sheet ≡ Ok text) × AppendsPart (contents old) (contents new) text
