-- The definitions that contracts of this crate cite. Each file says:
--
-- - TablesBefore: what the tables and the plans were before a command, described by what they are after it
-- - Undoing: the facts with a change taken back
pub mod TablesBefore
pub mod Undoing
