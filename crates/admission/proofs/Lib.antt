-- Laws that the proofs of admission cite.
-- the parts of a function's entry
pub mod Parameters
-- values within the limits, and in number
pub mod Right
-- values of their types
pub mod Typed
-- the answers
pub mod Answers
-- programs that were read and tested
pub mod Tested
