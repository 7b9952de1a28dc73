-- Laws that the proofs of backward evaluation cite.
-- runs, one after another
pub mod Runs
-- the number that stops a run
pub mod Stops
-- from the code's slots and state to views
pub mod Frames
-- steps that have no parts to run
pub mod Leaves
-- the ancilla arguments of a call
pub mod Gathering
-- a term that is run next
pub mod Parts
-- a term is entered, and the values and scopes that it is entered with
pub mod Entering
-- the kinds that bind nothing
pub mod Steps
-- let and let pair
pub mod Lets
-- a case under first match
pub mod Matched
-- calls
pub mod Calling
-- a term is entered, in code
pub mod Arriving
-- the last part of a term
pub mod LastPart
-- a scope with one variable more, in code
pub mod Opening
-- variables leave a scope, in code
pub mod Leaving
-- the kinds that bind nothing, in code
pub mod Stepping
-- let, let pair and case, in code
pub mod Scoping
-- a branch of a case that chooses by an ancilla, in code
pub mod Bound
-- a case that chooses by an ancilla, in code
pub mod Chosen
-- a call in code
pub mod Called
-- the run of a function
pub mod Starting
-- accepted programs
pub mod Accepted
