-- The definitions that contracts of this crate cite. Each file says:
--
-- - Codes: which bytes are a code: capitals, digits and, for sessions and papers, dashes; each with
--   its lengths, as numbers
-- - Digits: the last k decimal digits of a number, and the number that digits spell
-- - Numbers: the ranges of the numbered values, as numbers; seven digits for a candidate, HH:MM for
--   a time; the value that a text is
-- - Features: the names of the features; the text of a feature set: its names in their order joined by
--   +, or -; the empty set, which set holds another, equality, the sum by which a set is stored
-- - FeatureSums: a mask is the sum of the set that it represents (used only by the type of sets)
-- - Texts: what a name and a reason are: 1 to 80 and 0 to 200 bytes of UTF-8 with no control
--   character below U+0080
-- - Days: the calendar from 2000 to 2199: leap years, lengths of months, the civil date of a day
--   number, its text
-- - Refusals: the numbers by which refusals are printed; a call that refuses for memory alone
-- - Padding: how a code lies in its array (used only by its type)
pub mod Codes
pub mod Days
pub mod Digits
pub mod Features
pub mod FeatureSums
pub mod Numbers
pub mod Padding
pub mod Refusals
pub mod Texts
