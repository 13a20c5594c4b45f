pub mod Prelude
pub mod Reach
pub mod Later
pub mod Primes
pub mod Stepped
pub mod inner
