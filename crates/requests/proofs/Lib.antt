-- Laws of the rows, by subject.
-- the rows of the program
pub mod Beginning
-- the same, as the call check answers them
pub mod Checks
-- rows Call, Run and Output
pub mod Rows
