-- The eight calls on bytes, and the plain book. The modules in reading order:
-- answers: accepted, or refused with number and place (section 4)
pub mod Answer
-- the program's fields: refusals 2 and 3 (sections 1 and 4)
pub mod Fields
-- what a field says: the entries, and their trees (section 1)
pub mod Entries
-- references, uses, types: refusals 4 and 5 (section 4)
pub mod Named
-- how the crates above count the nodes of type entries
pub mod Figures
-- closed types, and entries that name lower ones (section 1)
pub mod Closed
-- what those tests find, for the contracts of the crates above
pub mod Tested
-- well-formed programs, as propositions (section 1)
pub mod Formed
-- a program read and typed: refusals 2 to 8 (section 4)
pub mod Load
-- values from bytes, and whether a value is of a type (section 1)
pub mod Values
-- check, forward and backward (section 4)
pub mod Runs
-- the journal's form (section 5)
pub mod Journal
-- open, convert and rollback (sections 4 and 5)
pub mod Conversions
-- the nurse's reader and the workshop's (02, F-1)
pub mod Readers
-- the plain book (section 5)
pub mod Book
-- what is proved of all these, as propositions
pub mod Claims
-- section 6's cases and those of F-1 and F-2, as propositions
pub mod Cases
-- each limit at its edge, outcomes, and a list of calls, as propositions
pub mod Borders
-- sample calls with their answers, as one proposition
pub mod Samples
