pub mod Plain
pub mod ShapeRefusals
pub mod Counterexample
