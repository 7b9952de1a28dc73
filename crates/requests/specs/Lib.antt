-- The rows of section 4 for a program in bytes. The modules in reading order:
-- what the rows of the program answer
pub mod Calls
-- what the rows of a run answer
pub mod Runs
