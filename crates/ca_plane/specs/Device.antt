-- What a reader or writer that counts its failures does (our own).
use Rattle.std.specs.Prelude.{◌≡◌, ℕ, ◌+◌, ◌-◌, ◌^◌, ◌<◌, min, Option, List, ◌++◌, length}
use Rattle.std.specs.Io.KnownBytes.{Appends}

-- what is read or written, and the count of its failures
pub record Counted (T : Type 0) : Type 0 where
  pub inner : T
  pub failures : ℕ

-- the count of failures rose by one, or stays at its greatest value
abbrev pub Rises : ℕ → ℕ → Type 0
Rises old new = new ≡ min (old + 1) (2 ^ 64 - 1)

-- the bytes sent in the call are the first of these, but not all, and known bytes of the writer grew by exactly those
abbrev pub AppendsPrefix : Option (List ℕ) → Option (List ℕ) → List ℕ → Type 0
AppendsPrefix old new bytes = (sent : List ℕ) × (unsent : List ℕ) × (bytes ≡ sent ++ unsent) × (0 < length unsent) × Appends old new sent
