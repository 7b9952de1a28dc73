-- What a script of journal calls is, and what playing it leaves.
-- the bytes of a script
pub mod Scripts
-- the lines that answer its calls
pub mod Lines
-- playing it
pub mod Playing
-- the plain book of a script
pub mod Booked
-- what functions below the public one promise
pub mod Inner
