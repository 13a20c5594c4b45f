-- Which parts meet first (our own).
use Rattle.std.specs.Prelude.{◌≡◌, ℕ, ◌<◌, ◌⊎◌, List, map, length, slice_index_or, IsTrue, IfSome, ⊤}
use Rattle.std.specs.List.{All, AllPairs}
use Rattle.ca_plane.specs.Prelude.{after}
use Rattle.ca_parts.specs.Prelude.{AreApart, AreApartBefore, NeverMeet, AreApartAfter, plane_at}
use Rattle.ca_clusters.specs.declared.{part.Part.Part, meetings.Encounter.Encounter, meetings.Look.Look}
use Rattle.ca_clusters.specs.declared.meetings.Encounter.TheVariants.{Meet, Never, NotYet}
use Rattle.ca_clusters.specs.inner.Runs.{origin}

-- the two parts at these places, the first before the other, aren't apart after n generations, and no two of all aren't before
pub record MeetFirst (next : List ℕ → ℕ) (parts : List Part) (one other n : ℕ) : Type 0 where
  pub order : one < other
  pub there : other < length parts
  pub before : AllPairs (AreApartBefore next n) (map origin parts)
  pub meet : AreApart (after next (plane_at (map origin parts) one) n) (after next (plane_at (map origin parts) other) n) → ⊥

abbrev pub IsEncounter : (List ℕ → ℕ) → List Part → Encounter → Type 0
IsEncounter next parts (Meet one other) = (n : ℕ) × MeetFirst next parts one other n
IsEncounter next parts Never = All (λ part. IsTrue part.is_back) parts × AllPairs (NeverMeet next) (map origin parts)
IsEncounter next parts (NotYet pairs) = ⊤

-- pairs of places go by the second place and then by the first: the pair at i and j comes before the one at these
abbrev pub IsEarlierPair : (i j one other : ℕ) → Type 0
IsEarlierPair i j one other = (i < j) × ((j < other) ⊎ ((j ≡ other) × (i < one)))

-- what the two parts show is apart after each number of generations below n
abbrev pub ShowApartBefore : ℕ → Part → Part → Type 0
ShowApartBefore n part another = (m : ℕ) → m < n → AreApartAfter part.shows another.shows m

-- both parts are known to come back, and what they show never meets
pub record ShowBackAndApart (part another : Part) : Type 0 where
  pub back : IsTrue part.is_back
  pub back_too : IsTrue another.is_back
  pub apart : (n : ℕ) → AreApartAfter part.shows another.shows n

-- what the parts at these places show, the first before the other, isn't apart after n generations
pub record ShowMeeting (parts : List Part) (one other n : ℕ) : Type 0 where
  pub order : one < other
  pub there : other < length parts
  pub meet : (d : Part) → AreApartAfter (slice_index_or parts one d).shows (slice_index_or parts other d).shows n → ⊥

-- what the look says is true of the pairs that come before the one at these places
pub record IsTrueLook (parts : List Part) (one other : ℕ) (look : Look) : Type 0 where
  pub before : (i j : ℕ) (d : Part) → IsEarlierPair i j one other
      → ShowApartBefore look.most (slice_index_or parts i d) (slice_index_or parts j d)
  pub first : IfSome look.first (λ pair. ShowMeeting parts pair.0 pair.1 look.most)
  pub never : IsTrue look.is_never → (i j : ℕ) (d : Part) → IsEarlierPair i j one other
      → ShowBackAndApart (slice_index_or parts i d) (slice_index_or parts j d)
