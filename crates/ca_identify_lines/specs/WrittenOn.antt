-- What a call that writes a text on some things, one after another, does to its device, whose writer tells its bytes by `contents`.
use Rattle.std.specs.Prelude.{◌≡◌, ℕ, ◌<◌, List, length, take, Option}
use Rattle.std.specs.Io.KnownBytes.{Appends}
use Rattle.ca_plane.specs.Prelude.{Counted, Rises, AppendsPrefix}

-- a text on some things is written whole, with what is reported of it, and no write failed
pub record WritesOn {W X T : Type 0} (contents : W → Option (List ℕ)) (old new : Counted W) (IsText : List X → List ℕ → T → Type 0)
    (things : List X) (told : T) : Type 0 where
  pub text : List ℕ
  pub is : IsText things text told
  pub written : Appends (contents old.inner) (contents new.inner) text
  pub kept : new.failures ≡ old.failures

-- the text on the first `count` of them, but not on all, is written whole
pub record WritesOnFirst {W X T : Type 0} (contents : W → Option (List ℕ)) (old new : Counted W) (IsText : List X → List ℕ → T → Type 0)
    (things : List X) : Type 0 where
  pub count : ℕ
  pub fewer : count < length things
  pub told : T
  pub writes : WritesOn contents old new IsText (take count things) told

-- a first part of the text on the first `count` of them is written, but not all of it, and then a write fails, which is
-- counted
pub record WritesPartOn {W X T : Type 0} (contents : W → Option (List ℕ)) (old new : Counted W) (IsText : List X → List ℕ → T → Type 0)
    (things : List X) : Type 0 where
  pub count : ℕ
  pub told : T
  pub text : List ℕ
  pub is : IsText (take count things) text told
  pub front : AppendsPrefix (contents old.inner) (contents new.inner) text
  pub counted : Rises old.failures new.failures
