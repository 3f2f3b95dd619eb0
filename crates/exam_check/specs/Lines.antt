-- What is printed of a database that was checked.
use Rattle.std.specs.Prelude.{ℕ, List, ◌++◌, Option, None, Some, codes}
use Rattle.exam_commands.specs.declared.table.Table.TheVariants as office
use Rattle.exam_check.specs.declared.tables.Table.{Table}
use Rattle.exam_check.specs.declared.tables.Table.TheVariants as table

-- the name of the table in the database
abbrev pub table_word : Table → List ℕ
table_word table.Office = codes "office"
table_word (table.Of office.Sessions) = codes "session"
table_word (table.Of office.Papers) = codes "paper"
table_word (table.Of office.Halls) = codes "hall"
table_word (table.Of office.Openings) = codes "opening"
table_word (table.Of office.Candidates) = codes "candidate"
table_word (table.Of office.Entries) = codes "entry"
table_word (table.Of office.Arrangements) = codes "arrangement"
table_word (table.Of office.Appeals) = codes "appeal"
table_word (table.Of office.Standing) = codes "standing"
table_word (table.Of office.Seats) = codes "seat"

-- the line for the first bad table, or for none
abbrev pub check_text : Option Table → List ℕ
check_text None = codes "good\n"
check_text (Some t) = codes "bad " ++ table_word t ++ codes "\n"
