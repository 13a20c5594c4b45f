-- The names of this crate's definitions that other crates and proofs cite, passed on from one place. It declares nothing.
pub use Rattle.ca_budget.specs.Spending.{EndsAtLimit, Spent, Spends}
pub use Rattle.ca_budget.specs.Tries.{tries, most_tries}
