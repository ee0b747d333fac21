pub mod PartialCubes
pub mod PointSets
pub mod UsedCubes
pub mod GivenCareSets
pub mod CarePoints
