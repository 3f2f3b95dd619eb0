-- The definitions that contracts of this crate and of the crates above it cite. Each file says:
--
-- - Imports: the rows of an import; the key of a row; when two rows have the same key and when they
--   are the same row; when a row contradicts an earlier one; the first row of each key
-- - SameRows: when the contents of two rows of a table are the same, column by column
-- - State: an office as its relations and seats; the empty office
-- - Limits: the seven limits of an office, by the table to which each belongs; the two that were less in an older
--   version of the tables
-- - Singles: what a candidate may have only once for a session: a granted clash or arrangement appeal, and an open
--   appeal of each kind
-- - Good: a good office: references, limits, appeals that a candidate may have only once, every session's plan best;
--   a good office table by table, and the first table that is bad
-- - Changes: the checks of a command in their order, the first refusal, the facts after it; the table, the key and the
--   row that a row of an import puts
-- - Appeals: kinds, closing days and states of appeals; what is stored of one; whether one of a
--   kind is open
-- - Lodgings: the checks of a lodging and of a retraction in their order, and the facts after them
-- - Decisions: the checks of a decision and the facts after it: which grants it supersedes, and who is seated first
-- - NextPlans: the plans and the reply that a command makes, from its change of the facts on
-- - Exchanges: how rows replace others, key by key, and how they are taken back
-- - FactsMade: for each command, the facts before the limits are tested, and the refusal by the checks on the facts as
--   they are
-- - Moves: how many others sit, over all sessions, in another hall than before
-- - Replies: whether the stored row is the same, is another or does not exist; the counts over the first rows of the
--   keys of a file; what each command answers
-- - Repairs: the new plan of a session: the repair of the old one for the new facts, and best
-- - Steps: one command and its change: either the facts change or the refusal says why not, every session has its next
--   plan, the reply; who keeps a seat for certain, and which candidate a command names; a run over commands with their
--   days, where each may also run out of memory and change nothing
-- - Orders: that the keys of every table and of the seats rise
-- - Touched: which sessions a command reaches, whether or not they exist, and which it touches
-- - Parts: the facts and the plans that one command reads, and the office with them put back
-- - Words: the words for the kinds, the states and the subjects of appeals
-- - Examples: worked plans, computed by the check
-- - Headline: what an office promises for every session
-- - Between: lists of commands without an import or the closing of a hall
-- - KeptRows: the rows that a command leaves in the tables: all except the opening that closing a hall takes away
-- - Own: what the office shows of one candidate
pub mod Appeals
pub mod Lodgings
pub mod Decisions
pub mod Changes
pub mod Imports
pub mod Limits
pub mod Replies
pub mod SameRows
pub mod State
pub mod Repairs
pub mod Good
pub mod Singles
pub mod Steps
pub mod Between
pub mod KeptRows
pub mod Orders
pub mod Touched
pub mod Exchanges
pub mod FactsMade
pub mod NextPlans
pub mod Parts
pub mod Headline
pub mod Moves
pub mod Own
pub mod Words
pub mod Examples
