-- Stretches of edges that turn one way; then why two of them make a shape.
pub mod Stretch
pub mod theory
