-- the laws of the reports
pub mod Reporting
-- and of the readers' reports
pub mod ReadBack
-- the line of a call
pub mod Telling
-- text behind a first text
pub mod Behind
