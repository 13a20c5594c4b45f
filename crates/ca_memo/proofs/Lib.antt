pub mod OrdersOfUse
pub mod MemoKeys
pub mod RecentResults
