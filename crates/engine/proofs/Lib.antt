-- Laws of the public calls, by subject.
-- the workspace, before and after a call
pub mod Beginning
-- the call check
pub mod Checks
-- the calls forward and backward
pub mod Directions
-- the calls open, convert and rollback
pub mod Turns
