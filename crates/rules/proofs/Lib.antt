-- The laws behind the claims, by subject. A reader who wants only what is claimed reads specs/Claims and proofs/Theorems.
-- small laws of logic and Booleans
pub mod Basics
-- laws of lists
pub mod Lists
-- laws of values
pub mod Val
-- values of a type, shape by shape
pub mod OfType
-- laws of runs
pub mod Run
-- laws of scopes
pub mod Scope
-- what a state says of a scope
pub mod State
-- typing in the form that the run theorems use: by recursion on the term
pub mod Directed
-- cases that choose by an ancilla
pub mod Choice
-- typing as a function decides the rules, and what the rules type is typed in Directed's form
pub mod Typing
-- which variables a state knows
pub mod Known
-- what a term yields, it may yield (the source's Theorem 1)
pub mod Yield
-- values keep their types
pub mod Preserve
-- runs that answer, or are short of fuel, room or size
pub mod Outcome
-- runs that are not stuck
pub mod Fine
-- the numbers of refusals, and that what forward answers fits
pub mod Numbers
-- states whose values have the variables' types
pub mod StateTy
-- forward: sound, complete, never stuck
pub mod Forward
-- backward: sound, complete, never stuck
pub mod Backward
-- more fuel, room or size never changes an answer
pub mod Monotone
-- 15 is never met at a case that chooses by an ancilla
pub mod Matching
-- the claims, proved
pub mod Theorems
-- section 6's cases, and F-3's, by computation
pub mod Table
