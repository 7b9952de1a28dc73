-- What the readers' common parts say.
-- bytes into an output that may be too short, and the form of a journal that may have none
pub mod Reading
