-- The names of this crate's definitions that other crates and proofs cite, passed on from one place. It declares nothing.
pub use Rattle.ca_steps.specs.Reach.{IsWiderByAtMost, IsInReach, LeavesReach, LeavesReachBefore, grown_box}
pub use Rattle.ca_steps.specs.Later.{IsBackAnywhere, IsBackInPlace, IsLeast}
pub use Rattle.ca_steps.specs.Primes.{IsPrime}
pub use Rattle.ca_steps.specs.Stepped.{HasStates, IsStepped, Steps}
