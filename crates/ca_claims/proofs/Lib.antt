pub mod UnknownRules
