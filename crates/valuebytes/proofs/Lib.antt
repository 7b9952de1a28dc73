-- Laws of reading values from bytes, by subject.
-- counting the values still to come agrees with reading
pub mod Pending
-- the kinds of values by their first bytes
pub mod ByteKinds
-- where a value ends, found by counting
pub mod Ends
-- bytes that are one value; the parts of a pair
pub mod Whole
-- values one after another, counted
pub mod Many
-- values one after another, and where each begins
pub mod Walks
-- closed types put for variables
pub mod Plugs
-- the types that cells stand for
pub mod Scopes
-- the trees of type entries, by kind
pub mod Trees
-- cells: what a variable names, cells that are kept, one cell more
pub mod Cells
-- bytes read by pending types
pub mod Turns
-- the test as callers ask it
pub mod Asked
-- a walk over a value's bytes with a stack of pending types
pub mod Walking
-- the stack: one type taken, one more, one more cell
pub mod Stack
-- the parts of a value by the entry of its type
pub mod Split
-- entries under cells in one array, and their columns
pub mod Columns
-- one byte of a value: what is pending behind it
pub mod Advancing
-- the parts that a first byte promises, case by case
pub mod Promised
-- a pair's components in their parts of its bytes
pub mod Components
