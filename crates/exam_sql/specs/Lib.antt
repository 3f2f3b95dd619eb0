-- The definitions that contracts of this crate cite. Each file says:
--
-- - Tables: the eleven tables, each with its key and its texts; the schema as it grows
-- - Made: the databases of both versions: with the table of marks, or without it
-- - Content, Changes: what a table holds: its rows in any order; what putting a row, deleting a row and many of both
--   make of it
-- - Keyed, Plain: what the lemmas ask of a table with one key; a query on one table
-- - Loads: the text that loads a table
-- - Texts: the texts that delete an opening or a seat by its key, that load tables, and that read an appeal by its key
-- - Refusals: why a statement on the rows of a table fails, and what one that succeeds makes of the
--   database
pub mod Tables
pub mod Changes
pub mod Content
pub mod Keyed
pub mod Loads
pub mod Made
pub mod Plain
pub mod Refusals
pub mod Texts
