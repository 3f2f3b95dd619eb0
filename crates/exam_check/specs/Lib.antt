-- The definitions that contracts of this crate cite. Each file says:
--
-- - FirstBad: the first bad table of a database
-- - Reading: what reading the tables one after the other finds, and what it leaves
-- - Refused: why no answer is given
-- - Lines: what is printed of a database that was checked
pub mod FirstBad
pub mod Lines
pub mod Reading
pub mod Refused
