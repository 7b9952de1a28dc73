-- Laws of sets of variables.
-- bits of numbers
pub mod Bits
-- what the operations on sets hold
pub mod Sets
-- all variables of a set inside; a set in two halves
pub mod Inside
