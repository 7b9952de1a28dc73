-- Bytes: numbers in them, the high byte first (section 1), and runs of them.
pub mod Numbers
pub mod Runs
