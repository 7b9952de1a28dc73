-- What loading a program says.
-- what it answers, against calls/specs/Load, and what a run may begin with
pub mod Loading
-- the same for what is loaded into arrays of its own or into room that is lent, and whether it is accepted
pub mod Loads
-- the tally of the counts of type nodes (02, F-4)
pub mod Tally
