-- What the commands report.
pub mod Reports
pub mod Plays
