-- The names of this crate's definitions that other crates and proofs cite, passed on from one place. It declares nothing.
pub use Rattle.ca_evolution.specs.Later.{IsEvolvedFrom, IsUnreachedFor}
pub use Rattle.ca_evolution.specs.Spending.{Takes, HasLimits}
pub use Rattle.ca_evolution.specs.Steps.{TakesSteps, TakesRun, step_work, CanGoOn}
