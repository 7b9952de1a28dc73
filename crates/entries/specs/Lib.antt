-- What the tests on a program's entries say. The modules in reading order:
-- what is noted of entries in arrays: uses of terms, figures of types
pub mod Marks
-- the tally of the counts of nodes (02, F-4)
pub mod Tally
-- the same, of section 6's types and of types at the limit, as a proposition
pub mod TallyCases
-- what the tests on entries answer
pub mod Tested
