-- What is found of a plane, and its code.
use Rattle.std.specs.Prelude.{◌≡◌, ℕ, List, Option, None, Some, Vec, Bool, true, false}
use Rattle.std.specs.declared.alloc.Global.{Global}
use Rattle.ca_plane.specs.Prelude.{Picture, IsAfter}
use Rattle.ca_answers.specs.declared.{identity.Identity.Identity, scope.Scope.Scope, coded_look.CodedLook.CodedLook}
use Rattle.ca_answers.specs.Prelude.{IsLook, IsCodeOf, IsNoObject}

-- where codes are looked for, the code of cells that are this object under a rule; else none
abbrev pub IsFoundCode : (List ℕ → ℕ) → Picture → Identity → (coded : Bool) → Option (Vec ℕ Global) → Type 0
IsFoundCode next cells identity true None = IsNoObject identity
IsFoundCode next cells identity true (Some code) = IsCodeOf next cells identity code.items
IsFoundCode next cells identity false found = found ≡ None

-- a look at the plane n generations after these cells finds what it is, and this is its code
abbrev pub IsCodedLook : (List ℕ → ℕ) → Picture → (n : ℕ) → Scope → (coded : Bool) → CodedLook → Type 0
IsCodedLook next cells n scope coded found = (later : Picture) × IsAfter next cells n later × IsLook next later scope found.look
    × IsFoundCode next later found.look.identity coded found.code
