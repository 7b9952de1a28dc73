-- Calls in lines, answered by lines. The modules in reading order:
-- a length brought down to the most that makes a difference
pub mod Capped
-- the line that answers a line
pub mod Answering
-- what the buffers hold afterwards
pub mod Lent
