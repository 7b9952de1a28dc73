-- The checker in code. The modules in reading order:
-- contexts as the code holds them
pub mod Contexts
-- namings that wait, in lent bytes
pub mod Waiting
-- how many terms a tree has
pub mod Sizes
-- what an outcome means
pub mod Outcomes
-- what typing a term asks for, and what it ensures
pub mod Ready
-- the same by function
pub mod Asked
-- what typing the functions answers
pub mod Checked
-- the last three over what the functions read together
pub mod Subjects
