-- Laws of codes, by subject.
-- a type's outermost free variable
pub mod Closing
-- the figures of entries in lent bytes
pub mod Figuring
-- the tree of a code by its form, and of a product node from its parts
pub mod Trees
-- the outermost node of a code's tree, and its parts
pub mod Outer
-- settling
pub mod Plain
-- when two types are equal, by their settled codes and outermost nodes
pub mod Equal
-- what a recursive entry unfolds to
pub mod Unfold
-- how many nodes a type has
pub mod Counts
-- new product nodes: what is put, and what stays
pub mod Growing
-- hints at products, and the product of two types by what is found
pub mod Hinting
-- what typing asks of a type, by its outermost node
pub mod Asked
-- how the sources of codes come about
pub mod Beginning
-- keys and figures of one entry
pub mod Keys
-- one entry more has its figures
pub mod Entering
-- the figures of an entry as the code puts them together; looking for a key
pub mod Entries
-- looking for aliases
pub mod Tracing
