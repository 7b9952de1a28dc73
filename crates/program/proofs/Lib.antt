-- Laws of programs as bytes, by subject.
-- one field: the tests on it, in the order of the code
pub mod Formed
-- the kinds as enums
pub mod KindCases
-- which entry a field is, by its kind
pub mod Shapes
-- how many bytes a well-formed field has, by its kind
pub mod Rooms
-- the fields of an accepted layout are well-formed
pub mod Inside
-- the tags as an enum
pub mod TagCases
-- one field placed: the layout and its counts with a field more
pub mod Placing
-- one field read: its tests and its answer
pub mod Found
-- the pass over the fields
pub mod Reading
-- runs of references, and what an entry names
pub mod Lists
-- the table of signatures: its rows, and how they are stored
pub mod Rows
-- the table while the fields are read
pub mod Signing
-- the functions of a program, by offsets
pub mod Programs
