-- The definitions that contracts of this crate cite. Each file says:
--
-- - Orders: what an order says: the words of a command line with the bytes of the file that it imports, or the
--   bytes of a request; which command a line gives; who may lose a seat by an order
-- - Requests: the answer to a request, and the office after it
-- - Following: the outcomes of orders, one after the other, and the office after each
-- - Printing: the sheet that words ask for
-- - Keeping: the tables of a database that keep an office
-- - Resting: the office that a database has, in whichever version; what a stop leaves of it; why none is opened, and
--   what that leaves
-- - Life: what one order comes to, and what many do, from a database on
pub mod Orders
pub mod Requests
pub mod Following
pub mod Printing
pub mod Keeping
pub mod Resting
pub mod Life
