-- Laws that the proofs of forward evaluation cite.
-- what is read is inside the program
pub mod Bounds
-- answers as numbers
pub mod Answers
-- runs in code, one after another
pub mod Runs
-- new nodes
pub mod Making
-- steps that have no parts to evaluate
pub mod Leaves
-- entering a term, and the kinds that bind nothing
pub mod Steps
-- the kinds that bind variables
pub mod Binds
-- arguments as a scope, and the run of a function
pub mod Starting
-- the arguments of a call
pub mod Placing
-- calls
pub mod Calling
-- the numbers that a run is lent
pub mod Lending
