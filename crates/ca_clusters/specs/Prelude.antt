-- The names of this crate's definitions that other crates and proofs cite, passed on from one place. It declares nothing.
pub use Rattle.ca_clusters.specs.Clusters.{first_plane, GoesRound, AreClusters}
pub use Rattle.ca_clusters.specs.Objects.{AreDisjoint, AreObjects}
pub use Rattle.ca_clusters.specs.Ranges.{WasOutside}
