-- The calls on a journal, from the rows of the program on.
-- what open, convert and rollback answer of a program that loads
pub mod Turns
-- convert after its run
pub mod Converting
-- the parts of rollback
pub mod Rollbacks
