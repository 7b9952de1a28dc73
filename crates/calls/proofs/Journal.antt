-- Laws of the journal: it is read from the bytes that it is written out as, and from no others, in a buffer of any length that has
-- room for its fields.
-- one field, and one entry
pub mod Fields
-- the entries, with zeros behind
pub mod Entries
-- the whole journal in a buffer, and in one of another length
pub mod Buffers
