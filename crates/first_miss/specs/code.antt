-- The walk that the code takes, what its functions ask of their callers, and what they say.
pub mod Walk
pub mod Post
