-- The text of an appeal register.
use Rattle.std.specs.Prelude.{◌≡◌, ◌⊎◌, ◌≤◌, ⊤, ℕ, IsTrue, List, [], ◌∷◌, ◌++◌, length}
use Rattle.std.specs.Prelude.{drop, codes, Option, Result, Ok, Err}
use Rattle.std.specs.Fmt.{decimal}
use Rattle.std.specs.List.{flat_map}
use Rattle.exam_views.specs.declared.view.AppealRow.{AppealRow}
use Rattle.exam_views.specs.Views.{View}
use Rattle.exam_commands.specs.Words.{kind_word, state_word, subject_text}
use Rattle.std.specs.Io.KnownBytes.{Appends}
use Rattle.exam_send.specs.Sending.{AppendsBeginning}
use Rattle.exam_views.specs.Sources.{is_source_refusal}
use Rattle.exam_types.specs.declared.refusal.Refusal.{Refusal}
use Rattle.exam_types.specs.declared.refusal.Refusal.TheVariants.{BadStore, NoMemory}
use Rattle.exam_types.specs.Days.{day_text}
use Rattle.exam_types.specs.Numbers.{number_text}
use Rattle.exam_files.specs.Padding.{left_in}
use Rattle.exam_files.specs.declared.sheet_fault.SheetFault.{SheetFault}
use Rattle.exam_files.specs.declared.sheet_fault.SheetFault.TheVariants as faults

abbrev pub appeal_line : AppealRow → List ℕ
appeal_line row =
    number_text row.number ++ codes " " ++ left_in 16 row.reference
    ++ codes " " ++ left_in 11 (kind_word row.subject) ++ codes " " ++ left_in 10 (state_word row.state)
    ++ codes " " ++ day_text row.lodged ++ codes " " ++ subject_text row.subject ++ codes "\n"

abbrev pub register_heading : List ℕ → ℕ → List ℕ
register_heading code count =
    codes "APPEALS session " ++ code ++ codes "\nappeals " ++ decimal count ++ codes "\n"

-- the heading, and a line for each appeal
abbrev pub register_text : List ℕ → List AppealRow → List ℕ
register_text code appeals = register_heading code (length appeals) ++ flat_map appeal_line appeals

abbrev pub appeal_register : View → List ℕ
appeal_register view = register_text view.code view.appeals

-- ---- streamed

-- all of it was written, or after a fault a beginning of it
abbrev pub Streams : {W : Type 0} → (W → Option (List ℕ)) → Result (Unit {0}) SheetFault → W → W → List ℕ → Type 0
Streams contents (Ok done) old new text = Appends (contents old) (contents new) text
Streams contents (Err fault) old new text = AppendsBeginning (contents old) (contents new) text

-- the first of the appeals to come was taken, and its line written
abbrev pub SendsNext : List AppealRow → List AppealRow → Option (List ℕ) → Option (List ℕ) → Type 0
SendsNext coming later before after =
    (row : AppealRow) × (coming ≡ row ∷ later) × Appends before after (appeal_line row)

-- nothing was written, or the first of the appeals to come was taken and a beginning of its line written
abbrev pub StopsAtNext : List AppealRow → List AppealRow → Option (List ℕ) → Option (List ℕ) → Type 0
StopsAtNext coming later before after =
    Appends before after []
    ⊎ ((row : AppealRow) × (coming ≡ row ∷ later) × AppendsBeginning before after (appeal_line row))

-- Why a register that is written line by line breaks off: writing failed, memory ran out, the source refused, or it
-- ended before the count.
abbrev pub BreaksOff : (Refusal → Type 0) → Type 0 → SheetFault → Type 0
BreaksOff refuses ends faults.Write = ⊤
BreaksOff refuses ends (faults.Refused e) =
    (e ≡ NoMemory) ⊎ ((IsTrue (is_source_refusal e) × refuses e) ⊎ ((e ≡ BadStore) × ends))

-- no more rows than these were taken from those to come
abbrev pub TakesFew : ℕ → List AppealRow → List AppealRow → Type 0
TakesFew most old new = (n : ℕ) × (n ≤ most) × (new ≡ drop n old)

-- After a fault no more rows than these were asked for: those behind them are still to come, or the source refused the
-- last one.
abbrev pub AsksFor : ℕ → (Refusal → Type 0) → List AppealRow → List AppealRow → SheetFault → Type 0
AsksFor most refuses old new faults.Write = TakesFew most old new
AsksFor most refuses old new (faults.Refused e) =
    TakesFew most old new ⊎ (IsTrue (is_source_refusal e) × refuses e)
