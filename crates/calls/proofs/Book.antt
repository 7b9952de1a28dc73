-- The plain book: laws of rows (Rows), what the calls do to the journal (Calls), one turn (Turn), lists of calls (List), demand 3 (Demand).
pub mod Rows
pub mod Calls
pub mod Turn
pub mod List
pub mod Demand
