-- The definitions that contracts of this crate cite. Each file says:
--
-- - Relations: the facts as relations: of each table the rows with their keys, in the order of the keys; look-up and
--   change of a row
-- - Tables: the tables of facts by name: of each the types of its keys and rows, the order of its keys, its rows
-- - Sessions: members; who has a live entry, also of numbers of no candidate; live papers; the sitting paper (that of a
--   granted clash appeal if it is live and of the session, else the least); clashes; granted and barred; standing
--   grants; the arrangement in force; the finish, rounded up to the minute
-- - Granted: what a candidate's granted appeals for a session give: the first that asks for something wanted
-- - Seatings: when a hall suits a member and fits; desks; the order of desks; the seating problem of a session, at
--   numbers and codes (seating) and at indices (problem_of, indexed_seating)
-- - Lists: of each session its members and its open halls as lists, an index beside the facts; how a list changes when
--   the paper of one candidate changes, and which facts differ in one entry
-- - Names: the index of a number and of a code, and what an index names: the naming of a session, and its plans and
--   chains read by it; that members and open halls rise
-- - Orders: that the keys of every table rise
-- - Plans: a plan by the places of halls, read from where candidates sit
-- - Examples: worked cases, computed by the check: 90 minutes and 25 percent from 09:00 end at 10:53; a withdrawn entry
--   does not count; a standing grant counts from its session's date on
pub mod Relations
pub mod Tables
pub mod Sessions
pub mod Seatings
pub mod Examples
pub mod Names
pub mod Granted
pub mod Lists
pub mod Orders
pub mod Plans
