-- The journal's bytes in code. The modules in reading order:
-- where the fields of a journal stand, and what the test of the form answers
pub mod Places
-- the journals that open, convert and rollback leave
pub mod Turns
