-- The theory of boxes, which only proves.
pub mod Gaps
