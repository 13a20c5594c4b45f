pub mod Files
pub mod Lookups
pub mod RuleFiles
pub mod Sources
pub mod Unread
