-- Sets of variables.
pub mod Sets
