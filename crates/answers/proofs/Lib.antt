-- Laws of answers.
-- a refusal that is not the workspace's
pub mod Answers
