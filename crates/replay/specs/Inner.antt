-- What functions below the public one promise.
-- the line of what a public call answers
pub mod Told
-- playing a script step by step
pub mod Steps
-- a script's calls in code
pub mod Read
