-- What is proved of assignments, and of the pairs of an `=`.
pub mod Shapes
pub mod Binding
pub mod Sides
pub mod PairsSimple
pub mod PairsInOrder
pub mod PairsPlanned
pub mod PairsAnswered
pub mod ShortPairs
pub mod ShortAssignments
