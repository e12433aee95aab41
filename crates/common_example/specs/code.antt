-- What the functions of the code make, and what they ask of their callers.
pub mod Sides
pub mod Graph
pub mod Classes
pub mod Sizes
pub mod arrays
pub mod Roots
pub mod Writing
pub mod Deciding
pub mod Example
pub mod Common
