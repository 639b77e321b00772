-- What the meaning rests on, in reading order:
--     Records                 a log is its records and a torn rest
--     Kind, Read              the kind of a record; what a record says
--     Reading                 reading, by the records alone
--     Parts, Stores           the bytes after the records, once each store of an addition is made
--     Added, History          one addition; any history of them
--     Current                 the current records, by position and after an addition
-- Then what the code's loops rest on:
--     Judging                 the numbers of a record are a shape or not
--     Survey                  a pass that judges records
--     Walk, Stepping          any loop over the records of a log
--     Latest, Ahead           the latest of a name; whether a name is held from a place on
--     Marks                   the last places of names, in a table
--     Nth                     the current record at a position
--     Storing                 stores made as far as they are allowed
pub mod Records
pub mod Kind
pub mod Read
pub mod Reading
pub mod Parts
pub mod Stores
pub mod Added
pub mod History
pub mod Current
pub mod Judging
pub mod Survey
pub mod Walk
pub mod Stepping
pub mod Latest
pub mod Ahead
pub mod Marks
pub mod Nth
pub mod Storing
