-- May-yield in code.
-- ancilla values in slots, what the code asks for, and its answer
pub mod Yields
