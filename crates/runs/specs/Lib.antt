-- Runs of calls that were admitted. The modules in reading order:
-- values as nodes, where a run begins
pub mod Begun
-- how a run ends: the answer, and the output
pub mod Ended
-- what a forward run asks for, and what evaluation gives
pub mod Ahead
-- the same of a backward run
pub mod Back
