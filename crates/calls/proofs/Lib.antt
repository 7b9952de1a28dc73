-- Laws of the calls and the book, by subject. A reader who wants only what is claimed reads specs/Claims and proofs/Theorems.
-- laws of answers
pub mod Answer
-- values are read from the bytes that they are written as, and from no others
pub mod Values
-- the journal is read from the bytes that it is written out as, and from no others
pub mod Journal
-- the claims about values, types and journals from bytes
pub mod Laws
-- with which numbers an answer may be refused
pub mod Refusals
-- what the counting of type entries means for their trees
pub mod Entries
-- what accepted entries are, and the trees of their terms
pub mod Trees
-- the tests on programs accept exactly what section 1 says
pub mod Formed
-- what is loaded is well-formed and typed, and nothing else
pub mod Load
-- check, forward and backward: their parts, their refusals, and the claims about them
pub mod Runs
-- the plain book: demand 3
pub mod Book
-- the claims about the readers of a journal (02, F-1)
pub mod Readers
-- definitions that cases compute with
pub mod Compute
-- section 6's cases, orders and samples, by computation
pub mod Table
-- each limit at its edge, outcomes, and a list of calls, by computation
pub mod Borders
-- the claims, proved
pub mod Theorems
