-- Laws of bytes, by subject.
-- numbers of two and four bytes
pub mod Numbers
-- runs of bytes: zeros, copies
pub mod Runs
-- runs of zeros, byte by byte and block by block
pub mod Zeros
-- numbers put into bytes
pub mod Puts
-- runs put into bytes
pub mod Pastes
