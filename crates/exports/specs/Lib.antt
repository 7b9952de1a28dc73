-- What the exported calls tell. The modules in reading order:
-- answers as four numbers
pub mod Told
