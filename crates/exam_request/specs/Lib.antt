-- The definitions that contracts of this crate cite. Each file says:
--
-- - Sizes: how many lines and bytes a request may have
-- - Input, Head, Asked: the end of a head in the bytes that come in; what its lines say, or their first fault; what a
--   request asks
-- - Posted: what the body of a posting lodges
-- - Targets, Table: how a target is read, and the table of routes for it
-- - Methods, Choices: the methods of each route; what is done for a request, by the candidate that it names and their
--   access code
-- - Json, Bodies: how members are written; the bodies that show a candidate their rows
-- - Faults, Answer: the numbers of faults; the status, head and body of each answer
-- - Values, SeatRows, Written: what the program's own parts mean: the serde_json value that an object is written from,
--   the texts of a seat, the body of an answer
pub mod Answer
pub mod Asked
pub mod Bodies
pub mod Choices
pub mod Faults
pub mod Head
pub mod Input
pub mod Json
pub mod Methods
pub mod Posted
pub mod SeatRows
pub mod Sizes
pub mod Table
pub mod Targets
pub mod Values
pub mod Written
