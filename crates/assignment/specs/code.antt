-- What the functions of the code ask of their callers, and what they make.
pub mod Previewing
pub mod Judging
pub mod Flats
pub mod KeyMatching
pub mod Flattening
pub mod Binding
