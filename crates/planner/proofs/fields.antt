pub mod FieldOrder
pub mod FieldLoops
pub mod Objects
