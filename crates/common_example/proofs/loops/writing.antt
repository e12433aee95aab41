-- Writing the value.
pub mod WriteWords
pub mod WriteLoops
pub mod WriteParts
