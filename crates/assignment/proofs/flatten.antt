pub mod PairSides
pub mod FlatNodes
pub mod FlatLoops
