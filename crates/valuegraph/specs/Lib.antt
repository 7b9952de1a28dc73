-- Values in lent bytes.
-- the value graph: nodes in bytes, and the value at a node
pub mod Nodes
-- values from bytes to nodes
pub mod Loads
-- values from nodes to bytes
pub mod Stores
