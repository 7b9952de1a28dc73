-- Forward evaluation in code. The modules in reading order:
-- what an outcome means
pub mod Outcomes
-- what evaluation asks for, and what it ensures
pub mod Ready
