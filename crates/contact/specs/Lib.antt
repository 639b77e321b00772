-- First contact as the code finds it: what it works on. What contact is: crate `motion`.
pub mod Share
