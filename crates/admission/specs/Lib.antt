-- What a call gives a run. The modules in reading order:
-- the function and the values that are given
pub mod Given
-- what admission asks of the program, and what it answers
pub mod Admitting
