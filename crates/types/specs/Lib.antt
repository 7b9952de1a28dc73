-- The types that typing gives a term. The modules in reading order:
-- the bytes that typing is lent
pub mod Layout
-- what is kept of each type entry: canonical numbers, free variables
pub mod Figures
-- codes as numbers
pub mod Numbers
-- codes of types, and the tree of a code
pub mod Codes
-- the outermost node of a code's tree
pub mod Shapes
-- what a recursive entry unfolds to
pub mod Unfolding
-- the nodes of type entries, counted
pub mod Counts
-- new product nodes
pub mod Growth
-- how the figures of entries come about
pub mod Numbering
-- what codes stand on is one fact, so that a struct may keep it
pub mod Once
-- codes and keys by what the code holds together
pub mod Basis
