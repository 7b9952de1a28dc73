-- Laws of the journal's bytes, by subject.
-- where a field ends
pub mod Ends
-- zeros to the end
pub mod Zeros
-- the walk over a journal's fields
pub mod Walks
-- a journal in form, and what stands at its places
pub mod Stands
-- runs put into bytes: a number, one run behind or before another, a run moved
pub mod Pastes
-- what the writing functions put into a buffer
pub mod Writes
-- the journals that open, convert and rollback leave
pub mod Turns
