-- Laws of calls and answers as text.
-- text put into a buffer, piece by piece
pub mod Writing
-- digits become bytes, and bytes digits
pub mod Digits
-- decimal digits become numbers, and numbers digits
pub mod Figures
-- a byte found in a line
pub mod Finding
-- the words of a line, one after another
pub mod Spaces
-- what a line says
pub mod Saying
