pub mod FolderRules
pub mod Handing
pub mod Passed
pub mod PatternRules
pub mod RuleLines
