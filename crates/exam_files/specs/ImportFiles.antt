-- What an import file denotes: its rows, or its refusal.
use Rattle.std.specs.Prelude.{◌≡◌, ◌+◌, ◌⊎◌, ℕ, List, [], ◌∷◌, ◌++◌, length, Bool, true, false, Option, Some}
use Rattle.std.specs.Prelude.{None, Result, Ok, Err, nat_lt, codes, unwrap_or, bytes_eq, ◌==◌, ◌&&◌}
use Rattle.std.specs.Prelude.{if◌then◌else◌}
use Rattle.csv.specs.Reading.{default_config, records, strip_bom}
use Rattle.csv.specs.Records.{field_at}
use Rattle.exam_commands.specs.Imports.{ImportRows, conflicts}
use Rattle.exam_rules.specs.declared.rows.Paper.{Paper}
use Rattle.exam_commands.specs.declared.import_row.Kind.{Kind}
use Rattle.exam_commands.specs.declared.import_row.Kind.TheVariants.{Sessions, Papers, Halls, Openings}
use Rattle.exam_commands.specs.declared.import_row.Kind.TheVariants.{Candidates, Entries, Arrangements}
use Rattle.exam_commands.specs.declared.import_row.Row.{Row}
use Rattle.exam_commands.specs.declared.import_row.Row.TheVariants.{OfSession, OfPaper, OfHall, OfOpening}
use Rattle.exam_commands.specs.declared.import_row.Row.TheVariants.{OfCandidate, OfEntry, OfArrangement}
use Rattle.exam_types.specs.Codes.{is_access_code, is_hall_code, is_paper_code, is_session_code}
use Rattle.exam_types.specs.Days.{session_day_in}
use Rattle.exam_types.specs.Features.{features_in}
use Rattle.exam_types.specs.Numbers.{desks_in, extra_in, minutes_in, number_in, start_in, until_in}
use Rattle.exam_types.specs.Texts.{is_name}
use Rattle.exam_types.specs.declared.refusal.Refusal.{Refusal}
use Rattle.exam_types.specs.declared.refusal.Refusal.TheVariants.{BadHeader, BadRow, NoMemory, RowConflict}
use Rattle.exam_types.specs.declared.refusal.Refusal.TheVariants.{TooMany}

-- the call answers the value or the refusal, unless memory ran out
abbrev pub GivesUnlessMemory : {X : Type 0} → Result X Refusal → Result X Refusal → Type 0
GivesUnlessMemory (Ok x) answer = answer ≡ Ok x
GivesUnlessMemory (Err e) answer = (e ≡ NoMemory) ⊎ (answer ≡ Err e)

abbrev pub and_then : {X Y : Type 0} → Result X Refusal → (X → Result Y Refusal) → Result Y Refusal
and_then (Ok x) f = f x
and_then (Err e) f = Err e

-- the value of a column, if its text is one
abbrev pub value_at : {X : Type 0} → ℕ → ℕ → Option X → Result X Refusal
value_at place column None = Err (BadRow place column)
value_at place column (Some x) = Ok x

-- a code or a name is the text itself, if the text is one
abbrev pub text_in : (List ℕ → Bool) → List ℕ → Option (List ℕ)
text_in test bytes = if test bytes then Some bytes else None

abbrev pub flag_in : List ℕ → Option Bool
flag_in bytes =
    if bytes_eq bytes (codes "yes") then Some true
    else (if bytes_eq bytes (codes "no") then Some false else None)

-- the field in a column; empty if there is none
abbrev pub field : ℕ → List (List ℕ) → List ℕ
field i fields = unwrap_or (field_at fields i) []

abbrev pub header_of : Kind → List (List ℕ)
header_of Sessions = codes "session" ∷ codes "date" ∷ codes "start" ∷ []
header_of Papers = codes "paper" ∷ codes "title" ∷ codes "session" ∷ codes "minutes" ∷ codes "requires" ∷ []
header_of Halls = codes "hall" ∷ codes "title" ∷ codes "features" ∷ []
header_of Openings = codes "session" ∷ codes "hall" ∷ codes "desks" ∷ codes "until" ∷ codes "reserved" ∷ []
header_of Candidates = codes "number" ∷ codes "name" ∷ codes "code" ∷ []
header_of Entries = codes "number" ∷ codes "paper" ∷ []
header_of Arrangements = codes "number" ∷ codes "needs" ∷ codes "extra" ∷ []

-- from a column on, the record has these fields
abbrev pub has_fields : ℕ → List (List ℕ) → List (List ℕ) → Bool
has_fields i [] fields = true
has_fields i (text ∷ texts) fields = bytes_eq (field i fields) text && has_fields (i + 1) texts fields

abbrev pub is_header : Kind → List (List ℕ) → Bool
is_header kind fields = (length fields == length (header_of kind)) && has_fields 0 (header_of kind) fields

abbrev pub session_row : ℕ → List (List ℕ) → Result Row Refusal
session_row place fields =
    and_then (value_at place 1 (text_in is_session_code (field 0 fields))) (λ code.
    and_then (value_at place 2 (session_day_in (field 1 fields))) (λ day.
    and_then (value_at place 3 (start_in (field 2 fields))) (λ start.
    Ok (OfSession code (record { day = day; start = start })))))

abbrev pub paper_row : ℕ → List (List ℕ) → Result Row Refusal
paper_row place fields =
    and_then (value_at place 1 (text_in is_paper_code (field 0 fields))) (λ code.
    and_then (value_at place 2 (text_in is_name (field 1 fields))) (λ title.
    and_then (value_at place 3 (text_in is_session_code (field 2 fields))) (λ session.
    and_then (value_at place 4 (minutes_in (field 3 fields))) (λ minutes.
    and_then (value_at place 5 (features_in (field 4 fields))) (λ required.
    let paper : Paper = record { title = title; session = session; minutes = minutes; required = required } in
    Ok (OfPaper code paper))))))

abbrev pub hall_row : ℕ → List (List ℕ) → Result Row Refusal
hall_row place fields =
    and_then (value_at place 1 (text_in is_hall_code (field 0 fields))) (λ code.
    and_then (value_at place 2 (text_in is_name (field 1 fields))) (λ title.
    and_then (value_at place 3 (features_in (field 2 fields))) (λ features.
    Ok (OfHall code (record { title = title; features = features })))))

abbrev pub opening_row : ℕ → List (List ℕ) → Result Row Refusal
opening_row place fields =
    and_then (value_at place 1 (text_in is_session_code (field 0 fields))) (λ session.
    and_then (value_at place 2 (text_in is_hall_code (field 1 fields))) (λ hall.
    and_then (value_at place 3 (desks_in (field 2 fields))) (λ desks.
    and_then (value_at place 4 (until_in (field 3 fields))) (λ until.
    and_then (value_at place 5 (flag_in (field 4 fields))) (λ reserved.
    Ok (OfOpening session hall (record { desks = desks; until = until; reserved = reserved })))))))

abbrev pub candidate_row : ℕ → List (List ℕ) → Result Row Refusal
candidate_row place fields =
    and_then (value_at place 1 (number_in (field 0 fields))) (λ number.
    and_then (value_at place 2 (text_in is_name (field 1 fields))) (λ name.
    and_then (value_at place 3 (text_in is_access_code (field 2 fields))) (λ code.
    Ok (OfCandidate number (record { name = name; code = code })))))

abbrev pub entry_row : ℕ → List (List ℕ) → Result Row Refusal
entry_row place fields =
    and_then (value_at place 1 (number_in (field 0 fields))) (λ number.
    and_then (value_at place 2 (text_in is_paper_code (field 1 fields))) (λ paper.
    Ok (OfEntry number paper)))

abbrev pub arrangement_row : ℕ → List (List ℕ) → Result Row Refusal
arrangement_row place fields =
    and_then (value_at place 1 (number_in (field 0 fields))) (λ number.
    and_then (value_at place 2 (features_in (field 1 fields))) (λ needs.
    and_then (value_at place 3 (extra_in (field 2 fields))) (λ extra.
    Ok (OfArrangement number (record { needs = needs; extra = extra })))))

abbrev pub row_of_kind : Kind → ℕ → List (List ℕ) → Result Row Refusal
row_of_kind Sessions = session_row
row_of_kind Papers = paper_row
row_of_kind Halls = hall_row
row_of_kind Openings = opening_row
row_of_kind Candidates = candidate_row
row_of_kind Entries = entry_row
row_of_kind Arrangements = arrangement_row

-- the row that a record denotes; the count of its fields is checked first, then its columns from the left
unfoldable pub row_of : Kind → ℕ → List (List ℕ) → Result Row Refusal
row_of kind place fields =
    if length fields == length (header_of kind) then row_of_kind kind place fields else Err (BadRow place 0)

-- the rows so far, and those of the records that are left, which are counted on from a place
unfoldable pub rows_from : Kind → ℕ → List Row → List (List (List ℕ)) → Result ImportRows Refusal
rows_from kind place rows [] = Ok (record { kind = kind; rows = rows })
rows_from kind place rows (fields ∷ rest) = and_then (row_of kind place fields) (λ row.
    if conflicts row rows then Err (RowConflict place)
    else rows_from kind (place + 1) (rows ++ row ∷ []) rest)

abbrev pub rows_of : Kind → List (List (List ℕ)) → Result ImportRows Refusal
rows_of kind [] = Err BadHeader
rows_of kind (header ∷ rest) = if is_header kind header then rows_from kind 1 [] rest else Err BadHeader

-- the most bytes of an import file
abbrev pub most_bytes : ℕ
most_bytes = 4194304

abbrev pub is_too_long : List ℕ → Bool
is_too_long bytes = nat_lt most_bytes (length bytes)

-- the rows of the records of a text, or its refusal
abbrev pub rows_in : Kind → List ℕ → Result ImportRows Refusal
rows_in kind bytes = rows_of kind (records default_config (strip_bom bytes))

-- the import that a file denotes, or its refusal
abbrev pub import_of : Kind → List ℕ → Result ImportRows Refusal
import_of kind bytes = if is_too_long bytes then Err TooMany else rows_in kind bytes
