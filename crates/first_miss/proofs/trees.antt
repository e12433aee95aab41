pub mod KeySets
pub mod Forget
pub mod Walks
pub mod Nodes
pub mod Examples
