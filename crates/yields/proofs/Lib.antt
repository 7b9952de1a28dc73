-- Laws of may-yield in code, by subject.
-- the ancilla values in slots
pub mod Ancillae
-- a form makes values of one kind
pub mod Shapes
-- answers, exact or at a glance, joined
pub mod Judging
-- a node's kind, as it was read and compared
pub mod Read
-- what a term may yield, by its form
pub mod Forms
