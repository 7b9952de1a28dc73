-- What the code says of programs. The modules in reading order:
-- the kinds of entries by name
pub mod Kinds
-- the numbers of the kinds, as the code's enums have them
pub mod KindNumbers
-- the numbers of the tags, as the code's enum has them
pub mod Tags
-- where the fields of a program's entries stand
pub mod Places
-- what reading one field answers
pub mod Found
-- the parts of an entry's field, and fields that are well-formed
pub mod Parts
-- the references of an entry, as runs in its field
pub mod Lists
-- the parameters of a function as a row of a table
pub mod Signatures
-- the program, and a function of it, by offsets
pub mod Programs
