-- The theory, which only proves: what each question answers of what its inner function finds.
pub mod Parts
