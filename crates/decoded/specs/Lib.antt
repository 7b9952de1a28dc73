-- A program decoded into rows of numbers. The modules in reading order:
-- rows and what they say; the program that they are
pub mod Rows
-- the variables that terms name
pub mod Naming
-- what decoding asks for, and what it does
pub mod Decoding
