-- Imports: their rows, and what rows with the same key must have in common.
use Rattle.std.specs.Prelude.{◌≡◌, ℕ, Option, Bool, true, false, not, ◌==◌, ◌&&◌, List, [], ◌∷◌, All, filter}
use Rattle.std.specs.List.{list_any, position_from}
use Rattle.exam_rules.specs.Relations.{same_code}
use Rattle.exam_commands.specs.SameRows.{same_arrangement, same_candidate, same_hall, same_opening, same_paper}
use Rattle.exam_commands.specs.SameRows.{same_session}
use Rattle.exam_commands.specs.declared.import_row.Key.{Key}
use Rattle.exam_commands.specs.declared.import_row.Key.TheVariants as key
use Rattle.exam_commands.specs.declared.import_row.Kind.{Kind}
use Rattle.exam_commands.specs.declared.import_row.Kind.TheVariants.{Sessions, Papers, Halls, Openings, Candidates}
use Rattle.exam_commands.specs.declared.import_row.Kind.TheVariants.{Entries, Arrangements}
use Rattle.exam_commands.specs.declared.import_row.Row.{Row}
use Rattle.exam_commands.specs.declared.import_row.Row.TheVariants.{OfSession, OfPaper, OfHall, OfOpening, OfCandidate}
use Rattle.exam_commands.specs.declared.import_row.Row.TheVariants.{OfEntry, OfArrangement}

-- an import: its kind, and its rows in the order of the file
pub record ImportRows : Type 0 where
  pub kind : Kind
  pub rows : List Row

-- the most rows of an import
abbrev pub most_rows : ℕ
most_rows = 4194304

abbrev pub kind_of : Row → Kind
kind_of (OfSession code session) = Sessions
kind_of (OfPaper code paper) = Papers
kind_of (OfHall code hall) = Halls
kind_of (OfOpening session hall opening) = Openings
kind_of (OfCandidate number candidate) = Candidates
kind_of (OfEntry number paper) = Entries
kind_of (OfArrangement number arrangement) = Arrangements

abbrev pub key_of : Row → Key
key_of (OfSession code session) = key.OfSession code
key_of (OfPaper code paper) = key.OfPaper code
key_of (OfHall code hall) = key.OfHall code
key_of (OfOpening session hall opening) = key.OfOpening session hall
key_of (OfCandidate number candidate) = key.OfCandidate number
key_of (OfEntry number paper) = key.OfEntry number paper
key_of (OfArrangement number arrangement) = key.OfArrangement number

abbrev pub same_key : Key → Key → Bool
same_key (key.OfSession s) (key.OfSession t) = same_code s t
same_key (key.OfPaper p) (key.OfPaper q) = same_code p q
same_key (key.OfHall h) (key.OfHall k) = same_code h k
same_key (key.OfOpening s h) (key.OfOpening t k) = same_code s t && same_code h k
same_key (key.OfCandidate c) (key.OfCandidate d) = c == d
same_key (key.OfEntry c p) (key.OfEntry d q) = (c == d) && same_code p q
same_key (key.OfArrangement c) (key.OfArrangement d) = c == d
same_key k l = false

abbrev pub has_key : Key → Row → Bool
has_key k row = same_key (key_of row) k

-- the rows have the same key and the same contents
abbrev pub same_row : Row → Row → Bool
same_row (OfSession s x) (OfSession t y) = same_code s t && same_session x y
same_row (OfPaper p x) (OfPaper q y) = same_code p q && same_paper x y
same_row (OfHall h x) (OfHall k y) = same_code h k && same_hall x y
same_row (OfOpening s h x) (OfOpening t k y) = same_code s t && (same_code h k && same_opening x y)
same_row (OfCandidate c x) (OfCandidate d y) = (c == d) && same_candidate x y
same_row (OfEntry c p) (OfEntry d q) = (c == d) && same_code p q
same_row (OfArrangement c x) (OfArrangement d y) = (c == d) && same_arrangement x y
same_row x y = false

-- one of the rows has the key of this one but other contents
abbrev pub conflicts : Row → List Row → Bool
conflicts row rows = list_any (λ r. has_key (key_of row) r && not (same_row r row)) rows

-- rows with one key are equal
abbrev pub is_consistent : List Row → Bool
is_consistent [] = true
is_consistent (r ∷ rs) = not (conflicts r rs) && is_consistent rs

-- the place of the first row with the key of this one, counted from 0
abbrev pub place_of : Row → List Row → Option ℕ
place_of row rows = position_from (has_key (key_of row)) 0 rows

-- all rows are of the kind
abbrev pub AreOfKind : Kind → List Row → Type 0
AreOfKind kind rows = All (λ row. kind_of row ≡ kind) rows

-- the first row of each key
abbrev pub distinct_rows : List Row → List Row
distinct_rows [] = []
distinct_rows (row ∷ rows) = row ∷ filter (λ other. not (has_key (key_of row) other)) (distinct_rows rows)
