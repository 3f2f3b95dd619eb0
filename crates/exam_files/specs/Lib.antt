-- The definitions that contracts of this crate cite. Each file says:
--
-- - ImportFiles: the rows that a file of a kind denotes, or its refusal, from the records that csv finds in it; each
--   column by what exam_types says of its value
-- - Accepted: which files are accepted, and with which rows
-- - Refused: which record and which column a refusal names
-- - Doors, Attendances, Clashes, Exports, Registers, Shortages, Places, Padding: the texts of the
--   sheets
-- - DoorLines: a door list by its lines
-- - OfficeSheets: what each sheet prints, in the office's words
-- - Writing: what a sheet leaves: all of its text, nothing, or a beginning that is not all
-- - Left: what a reader of csv has yet to give
-- - Held: what a writer of csv over memory has written
pub mod Accepted
pub mod Attendances
pub mod Clashes
pub mod DoorLines
pub mod Doors
pub mod Exports
pub mod Held
pub mod ImportFiles
pub mod Left
pub mod OfficeSheets
pub mod Padding
pub mod Places
pub mod Refused
pub mod Registers
pub mod Shortages
pub mod Writing
