-- What the calls answer.
-- the number and place of a refusal, and answers in the definitions' terms
pub mod Answers
