-- Calls and answers as text. The modules in reading order:
-- what is put into a buffer
pub mod Wrote
-- bytes as hexadecimal digits
pub mod Hexadecimal
-- what a decoded word leaves in a buffer
pub mod Decoded
-- numbers as decimal digits
pub mod Decimal
-- the words of a line
pub mod Words
-- texts as bytes
pub mod Text
-- the call that a line says
pub mod Calls
-- what reading a line leaves in the buffers
pub mod Left
-- what a parsed call says in code
pub mod Parsed
-- answers as lines
pub mod Answers
