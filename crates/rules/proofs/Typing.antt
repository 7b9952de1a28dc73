-- Typing: the function of specs/Check decides the rules of specs/Typing, a term has one type, and what the rules type is typed
-- in the form that the run theorems use.
-- contexts: what a variable is bound to
pub mod Contexts
-- the tests of typing decide
pub mod Tests
-- which variables a derivation uses
pub mod Uses
-- a function's parameters, and its declaration as the typing of its body
pub mod Functions
-- sets of variables up to dynamic ones of type unit
pub mod Weaken
-- the dynamic variables that a term uses
pub mod Least
-- contexts with fewer marks, and how namings are settled after the body of a let
pub mod Namings
-- the namings that wait in a term, from those of its parts
pub mod Waiting
-- what holds of every answer of typing that is no refusal
pub mod Pass
-- what typing as a function accepts, the rules type
pub mod Sound
-- what the rules type, typing as a function accepts
pub mod Complete
-- a term has one type
pub mod Unique
-- what the rules type is typed by recursion on the term
pub mod ToDirected
