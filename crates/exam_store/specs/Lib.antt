-- The definitions that contracts of this crate cite. Each file says:
--
-- - Saves: the changes that save an office, and why it is not saved
-- - Refused: a good office of a version; tables that hold none
-- - Kept: the database that keeps an office
-- - Found: what opening finds: the office that the tables keep, or why there is none
-- - Parts: what is loaded from the tables of an office: the office, and the version of a good one
-- - Applied: a command on an office in a database: its step or a failure of the store; lists of
--   commands
-- - Stops: what the next run opens after a stop in the middle of a command
-- - InTurn: the appeals of a session, read one by one: the store that is held, what comes, and why none is read
-- - OnlyRead: what reading appeals leaves
-- - Stores: what contracts see of a store: its office, and its connection
pub mod Applied
pub mod Found
pub mod InTurn
pub mod Kept
pub mod OnlyRead
pub mod Parts
pub mod Refused
pub mod Saves
pub mod Stops
pub mod Stores
