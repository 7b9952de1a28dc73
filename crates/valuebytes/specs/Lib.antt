-- Reading values from bytes, and whether a value is of a type. The modules in reading order:
-- where values end, how many there are, the parts of a pair
pub mod Ends
-- the kinds of values by their first bytes
pub mod ValueKinds
-- a type entry under the recursive entries that enclose it
pub mod Scopes
-- what the test of a value's type is given, and what it answers
pub mod Typing
-- a value's bytes read by types: the parts that a byte promises, and the types that are pending
pub mod Stack
