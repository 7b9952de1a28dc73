-- Refusals in words. The modules in reading order:
-- what each refusal means
pub mod Meanings
-- answers as text
pub mod Replies
