-- Laws of decoded programs, by subject.
-- numbers put into rows
pub mod Puts
-- rows that agree say the same; lists of what rows say
pub mod Agreeing
-- the row of an entry, and all rows of a program
pub mod Decoding
-- trees of terms by the kinds of their rows, parts, functions
pub mod Trees
-- which variables trees name
pub mod Named
-- the sets of the variables that terms name, in one pass over the rows
pub mod Sets
-- the set of a case's row decides whether it chooses by an ancilla
pub mod Chosen
-- every term entry is used, so what holds of bodies and goes to parts holds of each
pub mod Used
-- rows and sets have room for typed terms and their parts
pub mod Fitting
-- what decoding asks for, and the rows, of an accepted program; the program that the rows are
pub mod Accepted
