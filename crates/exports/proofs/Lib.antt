-- Laws of the exported calls.
-- the four numbers of an answer
pub mod Numbers
-- what is played of a script
pub mod Scripts
