-- What the public calls say.
-- the calls that run a function
pub mod Runs
-- the rows of a call in a workspace that is long enough
pub mod Serving
