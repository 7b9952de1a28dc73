-- Laws of refusals and answers in words.
-- all meanings are short
pub mod Short
-- what a reader wrote, within its output and at its start
pub mod Outputs
