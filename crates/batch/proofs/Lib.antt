-- Laws of calls in lines.
-- a length beyond the most changes no answer
pub mod Capping
-- a run's answer as a line
pub mod Telling
-- what the buffers hold afterwards
pub mod Lending
