-- Laws of the calls on a journal, by subject.
-- runs as convert and rollback go on from them, and what is answered of the journal that they leave
pub mod Values
-- open
pub mod Opens
-- convert
pub mod Converts
-- rollback
pub mod Rollbacks
-- the rows of the program before those of the journal
pub mod Loads
-- the test of a journal's form
pub mod Forms
