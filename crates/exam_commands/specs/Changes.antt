-- What a command makes of the facts, or why it is refused.
use Rattle.std.specs.Prelude.{ℕ, not, Bool, true, false, List, [], ◌∷◌, ◌++◌, fold, Option, None, Some, Result, Ok, Err}
use Rattle.std.specs.Prelude.{if◌then◌else◌}
use Rattle.std.specs.Option.{option_or}
use Rattle.std.specs.Ordering.{nat_cmp}
use Rattle.exam_types.specs.declared.refusal.Refusal.{Refusal}
use Rattle.exam_types.specs.declared.refusal.Refusal.TheVariants as refusal
use Rattle.exam_rules.specs.Relations.{Code, Relations, code_cmp, opening_cmp, entry_cmp, has_row, put_row, remove_row}
use Rattle.exam_rules.specs.Sessions.{is_live}
use Rattle.exam_rules.specs.Tables as table
use Rattle.exam_rules.specs.Tables.{KeyOf, RowOf, Table, cmp_of, rows_of}
use Rattle.exam_commands.specs.Limits.{within_limits}
use Rattle.exam_commands.specs.declared.import_row.Row.{Row}
use Rattle.exam_commands.specs.declared.import_row.Row.TheVariants as row

-- ---- checks in order

-- the first refusal whose case holds
abbrev pub first_refusal : List (Bool × Refusal) → Option Refusal
first_refusal [] = None
first_refusal (check ∷ checks) = if check.0 then Some check.1 else first_refusal checks

abbrev pub no_session : Relations → Code → Bool × Refusal
no_session r s = (not (has_row code_cmp r.sessions s), refusal.UnknownSession)

abbrev pub no_paper : Relations → Code → Bool × Refusal
no_paper r p = (not (has_row code_cmp r.papers p), refusal.UnknownPaper)

abbrev pub no_candidate : Relations → ℕ → Bool × Refusal
no_candidate r c = (not (has_row nat_cmp r.candidates c), refusal.UnknownCandidate)

abbrev pub no_hall : Relations → Code → Bool × Refusal
no_hall r h = (not (has_row code_cmp r.halls h), refusal.UnknownHall)

-- ---- imports

-- the references of a row, in the order of its columns
abbrev pub row_checks : Relations → Row → List (Bool × Refusal)
row_checks r (row.OfSession s x) = []
row_checks r (row.OfPaper p x) = no_session r x.session ∷ []
row_checks r (row.OfHall h x) = []
row_checks r (row.OfOpening s h x) = no_session r s ∷ no_hall r h ∷ []
row_checks r (row.OfCandidate c x) = []
row_checks r (row.OfEntry c p) = no_candidate r c ∷ no_paper r p ∷ []
row_checks r (row.OfArrangement c x) = no_candidate r c ∷ []

-- the refusal of the first row that refers to what does not exist
abbrev pub rows_refusal : Relations → List Row → Option Refusal
rows_refusal r [] = None
rows_refusal r (row ∷ rows) = option_or (first_refusal (row_checks r row)) (rows_refusal r rows)

-- with these rows in the table
abbrev pub with_table : Relations → (t : Table) → List (KeyOf t × RowOf t) → Relations
with_table r table.Sessions rows = record r { sessions = rows }
with_table r table.Papers rows = record r { papers = rows }
with_table r table.Halls rows = record r { halls = rows }
with_table r table.Openings rows = record r { openings = rows }
with_table r table.Candidates rows = record r { candidates = rows }
with_table r table.Entries rows = record r { entries = rows }
with_table r table.Arrangements rows = record r { arrangements = rows }
with_table r table.Appeals rows = record r { appeals = rows }
with_table r table.Standing rows = record r { standing = rows }

-- the table of a row, its key, and what an import puts there
abbrev pub target : Row → (t : Table) × KeyOf t × RowOf t
target (row.OfSession s x) = (table.Sessions, s, x)
target (row.OfPaper p x) = (table.Papers, p, x)
target (row.OfHall h x) = (table.Halls, h, x)
target (row.OfOpening s h x) = (table.Openings, (s, h), x)
target (row.OfCandidate c x) = (table.Candidates, c, x)
target (row.OfEntry c p) = (table.Entries, (c, p), record { live = true })
target (row.OfArrangement c x) = (table.Arrangements, c, x)

-- a new key is added, and a present one is set to the row; an entry that exists is left as it is
abbrev pub rows_with : (t : Table) → List (KeyOf t × RowOf t) → KeyOf t → RowOf t → List (KeyOf t × RowOf t)
rows_with table.Entries rows k x = if has_row entry_cmp rows k then rows else put_row entry_cmp rows k x
rows_with t rows k x = put_row (cmp_of t) rows k x

abbrev pub with_target : Relations → (t : Table) × KeyOf t × RowOf t → Relations
with_target r to = with_table r to.0 (rows_with to.0 (rows_of r to.0) to.1 to.2)

abbrev pub with_row : Relations → Row → Relations
with_row r x = with_target r (target x)

abbrev pub with_rows : Relations → List Row → Relations
with_rows r rows = fold with_row r rows

-- the facts pass a limit
abbrev pub too_many : Relations → Bool × Refusal
too_many r = (not (within_limits r), refusal.TooMany)

abbrev pub unless : {A : Type 0} → Option Refusal → A → Result A Refusal
unless None value = Ok value
unless (Some refused) value = Err refused

-- all references are looked up in the facts before the import, and only then are the limits of the new facts tested
abbrev pub import_refusal : Relations → List Row → Option Refusal
import_refusal r rows = option_or (rows_refusal r rows) (first_refusal (too_many (with_rows r rows) ∷ []))

abbrev pub imported : Relations → List Row → Result Relations Refusal
imported r rows = unless (import_refusal r rows) (with_rows r rows)

-- ---- entries and openings

abbrev pub no_entry : Relations → ℕ → Code → Bool × Refusal
no_entry r c p = (not (has_row entry_cmp r.entries (c, p)), refusal.NoEntry)

abbrev pub entry_checks : Relations → ℕ → Code → List (Bool × Refusal)
entry_checks r c p = no_candidate r c ∷ no_paper r p ∷ no_entry r c p ∷ []

-- the entry is made live or withdrawn
abbrev pub with_live : Relations → ℕ → Code → Bool → Relations
with_live r c p live = record r { entries = put_row entry_cmp r.entries (c, p) (record { live = live }) }

abbrev pub withdrawal_refusal : Relations → ℕ → Code → Option Refusal
withdrawal_refusal r c p = first_refusal (entry_checks r c p ++ (not (is_live r c p), refusal.AlreadyWithdrawn) ∷ [])

abbrev pub withdrawn : Relations → ℕ → Code → Result Relations Refusal
withdrawn r c p = unless (withdrawal_refusal r c p) (with_live r c p false)

-- the refusal by the checks on the facts as they are
abbrev pub revival_refusal : Relations → ℕ → Code → Option Refusal
revival_refusal r c p = first_refusal (entry_checks r c p ++ (is_live r c p, refusal.NotWithdrawn) ∷ [])

-- then that by the limits of the new facts
abbrev pub reinstatement_refusal : Relations → ℕ → Code → Option Refusal
reinstatement_refusal r c p = option_or (revival_refusal r c p) (first_refusal (too_many (with_live r c p true) ∷ []))

abbrev pub reinstated : Relations → ℕ → Code → Result Relations Refusal
reinstated r c p = unless (reinstatement_refusal r c p) (with_live r c p true)

abbrev pub not_opened : Relations → Code → Code → Bool × Refusal
not_opened r s h = (not (has_row opening_cmp r.openings (s, h)), refusal.HallNotOpened)

abbrev pub without_opening : Relations → Code → Code → Relations
without_opening r s h = record r { openings = remove_row opening_cmp r.openings (s, h) }

abbrev pub closing_refusal : Relations → Code → Code → Option Refusal
closing_refusal r s h = first_refusal (no_session r s ∷ no_hall r h ∷ not_opened r s h ∷ [])

abbrev pub closed : Relations → Code → Code → Result Relations Refusal
closed r s h = unless (closing_refusal r s h) (without_opening r s h)
