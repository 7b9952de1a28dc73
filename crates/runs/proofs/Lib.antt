-- Laws that the proofs of runs cite.
-- values loaded as nodes, one after another
pub mod Loads
-- the answers of a run, and the output
pub mod Ends
-- what is asked at the start, in either direction
pub mod Starts
-- a forward run, from the values to the outcome
pub mod Forward
-- a backward run, from the values to the outcome
pub mod Backward
