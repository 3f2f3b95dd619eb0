-- The definitions that contracts of this crate cite. Each file says:
--
-- - Printed: the lines that the program prints: for replies, refusals, faults, and words that are not understood
-- - Reading, Sheets: what is read of an import file; the sheets of an office, and how much of one is written
-- - Jobs: what a line does to the office in a store, what it prints, the exit status
-- - Migrations: what bringing an office to the newest version does and prints
pub mod Printed
pub mod Reading
pub mod Sheets
pub mod Jobs
pub mod Migrations
