-- Backward evaluation in code. The modules in reading order:
-- the variables of a term: named in scope, and at most so many as the binding state holds
pub mod Scoped
-- what an outcome means
pub mod Outcomes
-- what evaluation asks for, and what it ensures
pub mod Ready
-- the ancilla arguments of a call, and the run of a function
pub mod Calls
