pub mod MovedLists
pub mod PartRuns
pub mod RunsShown
pub mod PairLooks
pub mod MergedRuns
pub mod FoundClusters
pub mod EarlierCourses
pub mod SlowCourses
pub mod ApartCourses
pub mod EarlierClusters
mod MergedGroups
mod GroupUnions
mod GroupRuns
mod GroupObjects
mod JoinedRegions
mod RegionClusters
pub mod SweptRegions
