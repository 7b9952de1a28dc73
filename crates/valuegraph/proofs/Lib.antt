-- Laws of the value graph, by subject.
-- what a node's fields hold once it is put, and heaps that agree
pub mod Places
-- kinds and their numbers
pub mod Numbered
-- a value of a kind over its parts
pub mod Shapes
-- values at nodes, older nodes under growth, new nodes
pub mod Heaps
-- what the making of nodes cites
pub mod Making
-- when two nodes have the same value
pub mod Equal
-- what storing cites
pub mod Storing
-- what loading cites
pub mod Loading
