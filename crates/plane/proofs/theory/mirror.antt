-- The mirror image of a shape, and how large it is.
pub mod Mirror
pub mod MirrorSize
