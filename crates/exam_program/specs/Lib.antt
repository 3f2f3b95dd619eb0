-- The definitions that contracts of this crate cite. Each file says:
--
-- - Checking: what is found and printed of the first bad table
-- - Opening: what opening an office in an open database finds, or why none is opened; the refusal for each error of an
--   opening
-- - Running: what a command line comes to over an open database
-- - Files: what the files of the database hold afterwards
-- - Words: what words come to, from the bytes of the files to the exit status and both outputs
pub mod Checking
pub mod Opening
pub mod Running
pub mod Files
pub mod Words
