pub mod Kept  -- a record written with what was read from it
