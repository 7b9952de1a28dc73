-- a program of unit terms alone
pub mod Counted
-- programs of as many entries as may be, by computation
pub mod Borders
