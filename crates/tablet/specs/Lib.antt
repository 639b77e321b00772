-- Readings of the tablet: the exact value of a double, what a reading and a corner come to, and the ticket's reasons for a refusal; the
-- code's tests.
pub mod Double
pub mod Reading
pub mod Reason
pub mod Cases
pub mod Test
