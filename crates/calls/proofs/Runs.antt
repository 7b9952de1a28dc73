-- Check, forward and backward: the parts of a call (Parts); a call as a whole, in either direction (Calls); with which numbers calls
-- are refused (Numbers), each by some call (Met); the claims of specs/Claims about them (Claims).
pub mod Parts
pub mod Calls
pub mod Numbers
pub mod Met
pub mod Claims
