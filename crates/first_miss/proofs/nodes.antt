pub mod KeyLaws
pub mod WalkNodes
pub mod WalkParts
pub mod PartNodes
