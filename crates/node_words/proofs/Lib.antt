pub mod Sizes
pub mod FirstTables
pub mod RoleLemmas
pub mod RegionLemmas
pub mod OpeningWords
pub mod GeometryNumbers
