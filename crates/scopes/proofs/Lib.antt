-- Laws of scopes.
-- a slot's number, and a variable's slot
pub mod Marks
-- the scope that slots hold
pub mod Scopes
-- cells, and the states that they are
pub mod Cells
-- the binding state: views, and what opening, meeting and leaving do to the rules' state
pub mod Bound
-- from the state in code to its view
pub mod Views
-- older states
pub mod Older
-- a variable is met, in code
pub mod Meeting
