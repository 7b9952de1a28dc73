-- Laws of the tests on entries, by subject.
-- one turn of each loop over references
pub mod Turns
-- the figures of one type entry, by its kind
pub mod Figures
-- the tally of the counts of nodes, and what the counts mean
pub mod Tallies
-- section 6's types and types at the limit, by computation
pub mod TallyTable
-- testing the type entries
pub mod Types
-- verdicts on one entry after another
pub mod Verdicts
-- testing the term entries
pub mod Terms
-- testing the function entries
pub mod Functions
-- terms that nothing uses
pub mod Unused
-- all tests on entries
pub mod Whole
