-- Laws that the checker's proofs cite.
-- contexts as the code holds them
pub mod Contexts
-- namings that wait: in lent bytes, one after another
pub mod Waiting
-- and settled after the body of a let
pub mod Settling
-- how many terms a function has
pub mod Sizes
-- the tests after a part is typed
pub mod Deciding
-- variables: what they are, and one more
pub mod Naming
-- what an outcome says, one after another, and what stays ready
pub mod Answers
-- the tree of a term entry by its kind, and its parts
pub mod Trees
-- variables, unit, inl and inr, roll, unroll
pub mod Steps
-- pairs
pub mod Pairing
-- room in the scope, the scope of a bound term, and the end of a let
pub mod Closing
-- let and let pair
pub mod Binding
-- case
pub mod Branching
-- the function that a call names
pub mod Called
-- calls
pub mod Passing
-- what a function asks for, put together
pub mod Asking
-- the parameters of a function
pub mod Parameters
-- the tests of a function whose body is typed
pub mod Ending
-- the scope of a function's parameters
pub mod Starts
-- typing one function
pub mod Checks
-- the functions in order
pub mod Turns
