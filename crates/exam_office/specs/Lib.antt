-- The definitions that contracts of this crate cite. Each file says:
--
-- - HeldParts: the part of an office that a command reads, as the program holds it, and how a step over it is taken
--   back
-- - Drafts: a command that is carried out on an office and may still be taken back
-- - Relisting: what a command changes in the lists of members and open halls, and how they are put back as they
--   were
pub mod Relisting
pub mod HeldParts
pub mod Drafts
