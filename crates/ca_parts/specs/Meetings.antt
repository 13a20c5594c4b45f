-- When two pictures meet that go on alone (our own).
use Rattle.std.specs.Prelude.{ℕ, ◌<◌, ◌≤◌, List, ⊤}
use Rattle.ca_plane.specs.Prelude.{Picture, cell, after}
use Rattle.ca_parts.specs.declared.meeting.Meeting.{Meeting}
use Rattle.ca_parts.specs.declared.meeting.Meeting.TheVariants.{Never, At, NotYet}
use Rattle.ca_parts.specs.Parts.{AreApart, AreApartBefore, NeverMeet}
use Rattle.ca_parts.specs.Phases.{Course, shown}

-- after n generations the two aren't apart, and after each smaller number they are
pub record IsFirstMeeting (next : List ℕ → ℕ) (p q : Picture) (n : ℕ) : Type 0 where
  pub meet : AreApart (after next p n) (after next q n) → ⊥
  pub before : AreApartBefore next n p q

-- they never meet; they meet first after that many generations, which are no more than `most`; or they are apart after each
-- number of generations up to `most`
abbrev pub IsMeeting : (List ℕ → ℕ) → Picture → Picture → ℕ → Meeting → Type 0
IsMeeting next p q most Never = NeverMeet next p q
IsMeeting next p q most (At n) = IsFirstMeeting next p q n × (n ≤ most)
IsMeeting next p q most NotYet = (n : ℕ) → n ≤ most → AreApart (after next p n) (after next q n)

-- this holds where the answer is that they don't meet yet
abbrev pub IfNotYet : Meeting → Type 0 → Type 0
IfNotYet Never Holds = ⊤
IfNotYet (At n) Holds = ⊤
IfNotYet NotYet Holds = Holds

-- what two courses show is apart after n generations
abbrev pub AreApartAfter : Course → Course → ℕ → Type 0
AreApartAfter one other n = AreApart (cell (shown one n)) (cell (shown other n))

-- when what they show meets, as `IsMeeting` says it of pictures that go on alone
abbrev pub IsShownMeeting : Course → Course → ℕ → Meeting → Type 0
IsShownMeeting one other most Never = (n : ℕ) → AreApartAfter one other n
IsShownMeeting one other most (At n) = (AreApartAfter one other n → ⊥) × ((m : ℕ) → m < n → AreApartAfter one other m) × (n ≤ most)
IsShownMeeting one other most NotYet = (n : ℕ) → n ≤ most → AreApartAfter one other n
