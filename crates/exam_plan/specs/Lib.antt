-- The definitions that contracts of this crate cite. Each file says:
--
-- - Matching: a seating problem (members, fits, desks, the two orders); a plan, where each
--   candidate sits or nowhere; lawful (a matching); best, over all lawful plans (maximum); unseated;
--   deficiency certificate (Hall violator); contested (inessential); desk number; keeps
-- - Chains: an augmenting chain (augmenting path), the order of chains (shorter first, then in list
--   order), the least chain, the plan after moving along
-- - Repair: who stays (by fit, then the least numbers within the desks); a turn takes the least of
--   all chains, if there is one; the sweep's turns, and the halls that each turn without a chain
--   adds to the dead ones
-- - Problems: seatings at indices: lists of desks, fits and ranks, and the plan that a list is
-- - Naming: a seating by indices beside one by names: the name of each index and the index of each
--   name; plans by indices read by names, and by names read by indices
-- - HallSets: a set of halls as a number, and its halls below a bound
-- - Tallies: a number for each hall by binary digits, each a set of halls: used by private functions alone
-- - DeskOrder: the order in which desks are numbered: used by private functions alone
-- - Searches: what the searches of the code keep: used by private functions alone
pub mod Matching
pub mod Chains
pub mod Repair
pub mod HallSets
pub mod Tallies
pub mod Problems
pub mod DeskOrder
pub mod Searches
pub mod Naming
