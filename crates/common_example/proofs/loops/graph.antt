-- The arrays of the graph.
pub mod LiteralOrder
pub mod LikeLoops
pub mod PlaceLaws
pub mod KeyOrderLoops
pub mod GraphLoops
pub mod PartsTold
