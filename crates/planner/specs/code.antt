-- What the functions of the code make, and what they ask of their callers.
pub mod Passes
pub mod Post
pub mod Ordering
pub mod Validation
