-- Laws of loading, by subject.
-- what each row gives the answer
pub mod Loading
-- the tally of the counts, for each row
pub mod Tallies
-- what is loaded into room that is lent
pub mod Rooms
