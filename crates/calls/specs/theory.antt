-- The theory of the calls, which only proves.
--     Found, Logs, Thirteen    what 13 for a floor above its limit changes, and what it does not
--     Fits                     each field of a reply has room in its bytes
--     Few, Stored              how many corners are made; the bytes that are written
pub mod Found
pub mod Logs
pub mod Thirteen
pub mod Fits
pub mod Few
pub mod Stored
