-- Laws of scripts, by subject.
-- a call that stands in a script
pub mod Parts
-- a script parsed, and what hinders its playing
pub mod Parsed
-- the lines of answers, and the workspace after a call
pub mod Lines
-- front parts of a buffer, and one call made there
pub mod Fronts
-- one turn, and the calls in turn
pub mod Turns
-- the first call
pub mod Beginnings
-- reading all calls first
pub mod Scans
-- calls split before the first that would cut the fields
pub mod Splits
-- the calls in turn, on a journal that the plain book keeps
pub mod Book
-- playing step by step is playing the parsed calls
pub mod Played
-- demand 3 of a script
pub mod Demand
