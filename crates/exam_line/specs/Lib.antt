-- The definitions that contracts of this crate cite. Each file says:
--
-- - Dated: the day on which a line's command is applied
-- - Grammar: which options, commands and words the program takes
-- - Lines: what a line says: the value that each word is the text of, the job, the day and the path; and how a call
--   answers it
pub mod Dated
pub mod Grammar
pub mod Lines
