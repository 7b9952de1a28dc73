-- Scopes: what is known of each variable while a term runs.
-- scopes in lent slots
pub mod Slots
-- the cells that a binding state names
pub mod Cells
-- the binding state of a backward run, by value
pub mod Bindings
