-- programs of as many entries as may be, as propositions
pub mod Borders
