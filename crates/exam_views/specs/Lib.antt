-- The definitions that contracts of this crate cite. Each file says:
--
-- - Desks: what is shown of a candidate with their desks, and without
-- - Sources: appeals that come one by one
-- - Views: a session as it is shown: its row, the halls, its openings, members, papers, clashes and appeals, and its
--   seating problem with a best plan; the seats and the shortages that such a view shows; and the same for the office,
--   by numbers and codes
pub mod Desks
pub mod Views
pub mod Sources
