-- What the functions of the code make, and what they ask of their callers.
pub mod Post
pub mod NamesPost
pub mod ChecksPost
