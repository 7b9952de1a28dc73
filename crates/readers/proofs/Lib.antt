-- Laws of the readers.
-- what a reader answers and leaves in its output, of a journal in form and of one that is not
pub mod Reading
