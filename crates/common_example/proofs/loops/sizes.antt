-- Sizes of values, and whether there is space.
pub mod SizeLoops
pub mod LevelSizes
pub mod Decisions
