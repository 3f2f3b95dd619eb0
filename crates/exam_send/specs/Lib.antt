-- The definitions that contracts of this crate cite. Each file says:
--
-- - Sending, Given: a beginning of the bytes was written, perhaps all of them or not all; what a reader gave
pub mod Sending
pub mod Given
