-- Live cells spread by one cell a generation at most, and nothing comes of an empty plane.
use Rattle.std.proofs.Common.{◌≡◌, ◌≢◌, ℕ, List, inl, inr, arith}
use Rattle.std.specs.Prelude.{ℤ, replicate}
use Rattle.std.proofs.lemmas.Bool.{cases_eq}
use Rattle.std.proofs.lemmas.Int.{ints}
use Rattle.ca_plane.specs.declared.point.Bounds.{Bounds}
use Rattle.ca_plane.specs.Prelude.{Picture, cell, IsLive, after, IsInBox, IsWithin}
use Rattle.ca_plane.proofs.Pictures.{cell-from_not_live}
use Rattle.ca_steps.specs.Prelude.{grown_box}
use Rattle.ca_plane.proofs.After.{after_dead}

-- a picture that isn't live shows 0 after n generations too
pub none_after : (next : List ℕ → ℕ) (p : Picture) → next (replicate 9 0) ≡ 0 → (IsLive p → ⊥) → (n : ℕ) (x y : ℤ) → after next p n x y ≡ 0
none_after next p quiet dead n x y = after_dead next (cell p) quiet n x y (λ u v _. cell-from_not_live p dead u v)

-- a place with one of a box within n of it is in the box grown by n
IsInBox-grown_box : (box : Bounds) (n : ℕ) (x y u v : ℤ) → IsWithin n x y u v → IsInBox box u v → IsInBox (grown_box box n) x y
IsInBox-grown_box box n x y u v near within =
    (omega (arith, ints, near, within), omega (arith, ints, near, within), omega (arith, ints, near, within), omega (arith, ints, near, within))

-- outside a box of all live cells, grown by n on each side, no cell is live after n generations
pub spread : (next : List ℕ → ℕ) (p : Picture) (box : Bounds) → next (replicate 9 0) ≡ 0 → ((u v : ℤ) → cell p u v ≢ 0 → IsInBox box u v)
    → (n : ℕ) (x y : ℤ) → (IsInBox (grown_box box n) x y → ⊥) → after next p n x y ≡ 0
spread next p box quiet all n x y out =
    after_dead next (cell p) quiet n x y (λ u v near.
    elim (cases_eq (cell p u v) 0) [ inl e ↦ e | inr live ↦ absurd (out (IsInBox-grown_box box n x y u v near (all u v live))) ])
