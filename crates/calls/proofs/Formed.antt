-- Well-formed programs: the tests accept exactly what section 1 says.
-- how often a term is used, as the tests find it
pub mod Uses
-- fields in order, within the counts
pub mod Fields
-- what entries name
pub mod Named
-- a program as a whole
pub mod Whole
