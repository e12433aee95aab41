-- What the functions of the code make, and what they ask of their callers.
pub mod Texts
pub mod Joins
pub mod Post
