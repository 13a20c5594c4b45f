-- The next generation, written place by place as a window moves over the plane.
use Rattle.std.proofs.Common.{◌≡◌, ◌≢◌, ℕ, zero, suc, ◌+◌, ◌*◌, ◌<◌, ◌≤◌, List, [], length, refl, sym, ap, ◌∙◌, subst, inl, inr, ◌⊎◌, arith, Bool, true, false, Some, None, replicate}
use Rattle.std.specs.Prelude.{ℤ, pos, neg_ℤ, ◌+ℤ◌, ◌-ℤ◌, ◌-◌, ◌≤ℤ◌, ◌<ℤ◌, ◌^◌, if◌then◌else◌}
use Rattle.std.specs.List.{All}
use Rattle.std.proofs.lemmas.Int.{ints}
use Rattle.ca_plane.specs.declared.point.Point.{Point}
use Rattle.ca_plane.specs.Prelude.{Picture, cell, around, after, IsAfter, Sets}
use Rattle.ca_plane.proofs.Pictures.{place-from_true, cell-Sets, cell-Sets-other}
use Rattle.ca_steps.specs.Prelude.{IsInReach}
use Rattle.ca_steps.specs.declared.{row.Row.Row, window.MovingWindow.MovingWindow}
use Rattle.ca_steps.specs.inner.Order.{IsBefore}
use Rattle.ca_steps.specs.inner.Row.{ShowsRow, IsLiveRow, MovesOn}
use Rattle.ca_steps.specs.inner.Window.{nine_states, ShowsWindow, east_of, IsNextPlace, MovesTo}
use Rattle.ca_steps.specs.inner.Written.{IsWritten}
use Rattle.ca_steps.proofs.Reading.{compared, not_both, not_itself, before-trans}
use Rattle.ca_steps.proofs.Windows.{IsReady, IsReady-next, ShowsWindow-next, quiet_beyond, quiet_end, nine_states-around}

-- ---- at first

-- (x, y) is the north-western corner of a plane
abbrev pub IsCorner : ℤ → ℤ → Type 0
IsCorner x y = (x ≡ neg_ℤ (pos (2 ^ 62))) × (y ≡ neg_ℤ (pos (2 ^ 62)))

-- a row that shows nothing yet, a row beside the corner at most
ShowsRow-corner : (p : Picture) (row : Row) (x y b : ℤ) → All (λ e. IsInReach e.0.x e.0.y) p → IsCorner x b → y ≤ℤ (b +ℤ pos 1) → row.west ≡ 0 → row.centre ≡ 0 → row.east ≡ 0 → row.ahead ≡ p → ShowsRow p row x y
ShowsRow-corner p row x y b reach corner near west centre east ahead = record {
  west = west ∙ sym (quiet_beyond p (x -ℤ pos 1) y reach (λ inside. outside y b corner near inside.2));
  centre = centre ∙ sym (quiet_beyond p x y reach (λ inside. outside y b corner near inside.2));
  east = east ∙ sym (quiet_beyond p (x +ℤ pos 1) y reach (λ inside. outside y b corner near inside.2));
  ahead = record {
    after = λ u v later. ap (λ q. cell q u v) ahead;
    gone = λ u v not_later. ap (λ q. cell q u v) ahead ∙ quiet_beyond p u v reach (λ inside. not_later (inl (inside_later y b v corner near inside.2)));
  };
}
  where
    outside : (y b : ℤ) → IsCorner x b → y ≤ℤ (b +ℤ pos 1) → neg_ℤ (pos (2 ^ 62 - 2)) ≤ℤ y → ⊥
    outside y b corner near inside = omega (arith, ints)

    inside_later : (y b v : ℤ) → IsCorner x b → y ≤ℤ (b +ℤ pos 1) → neg_ℤ (pos (2 ^ 62 - 2)) ≤ℤ v → y <ℤ v
    inside_later y b v corner near inside = omega (arith, ints)

-- a window that is in the corner
pub ShowsWindow-corner : (p : Picture) (w : MovingWindow) → All (λ e. IsInReach e.0.x e.0.y) p → IsCorner w.place.x w.place.y → (w.north.west ≡ 0) × (w.north.centre ≡ 0) × (w.north.east ≡ 0) × (w.north.ahead ≡ p) → (w.middle.west ≡ 0) × (w.middle.centre ≡ 0) × (w.middle.east ≡ 0) × (w.middle.ahead ≡ p) → (w.south.west ≡ 0) × (w.south.centre ≡ 0) × (w.south.east ≡ 0) × (w.south.ahead ≡ p) → ShowsWindow p w
ShowsWindow-corner p w reach corner north middle south = record {
  north = ShowsRow-corner p w.north w.place.x (w.place.y -ℤ pos 1) w.place.y reach corner (omega (arith, ints)) north.0 north.1 north.2 north.3;
  middle = ShowsRow-corner p w.middle w.place.x w.place.y w.place.y reach corner (omega (arith, ints)) middle.0 middle.1 middle.2 middle.3;
  south = ShowsRow-corner p w.south w.place.x (w.place.y +ℤ pos 1) w.place.y reach corner (omega (arith, ints)) south.0 south.1 south.2 south.3;
}

-- up to the corner nothing is live, and nothing is born
pub IsWritten-corner : (next : List ℕ → ℕ) (p new : Picture) (a b : ℤ) → All (λ e. IsInReach e.0.x e.0.y) p → IsCorner a b → new ≡ [] → next (replicate 9 0) ≡ 0 → IsWritten next p new a b
IsWritten-corner next p new a b reach corner empty quiet = record {
  up_to = λ x y not_later.
      let low : y ≤ℤ b = up_to_row a b x y not_later in
      ap (λ q. cell q x y) empty ∙ sym quiet ∙ sym (ap next (nothing_round x y low));
  behind = λ x y later. ap (λ q. cell q x y) empty;
}
  where
    up_to_row : (a b x y : ℤ) → (IsBefore a b x y → ⊥) → y ≤ℤ b
    up_to_row a b x y not_later = elim (compared a b x y) [ inl later ↦ absurd (not_later later) | inr o ↦ omega (arith, ints) ]

    outside : (v : ℤ) → v ≤ℤ (b +ℤ pos 1) → neg_ℤ (pos (2 ^ 62 - 2)) ≤ℤ v → ⊥
    outside v near inside = omega (arith, ints)

    nothing : (u v : ℤ) → v ≤ℤ (b +ℤ pos 1) → cell p u v ≡ 0
    nothing u v near = quiet_beyond p u v reach (λ inside. outside v near inside.2)

    nothing_round : (x y : ℤ) → y ≤ℤ b → around (cell p) x y ≡ replicate 9 0
    nothing_round x y low =
        simp (nothing (x -ℤ pos 1) (y -ℤ pos 1) (omega (arith, ints)), nothing x (y -ℤ pos 1) (omega (arith, ints)), nothing (x +ℤ pos 1) (y -ℤ pos 1) (omega (arith, ints)), nothing (x -ℤ pos 1) y (omega (arith, ints)), nothing x y (omega (arith, ints)), nothing (x +ℤ pos 1) y (omega (arith, ints)), nothing (x -ℤ pos 1) (y +ℤ pos 1) (omega (arith, ints)), nothing x (y +ℤ pos 1) (omega (arith, ints)), nothing (x +ℤ pos 1) (y +ℤ pos 1) (omega (arith, ints)))

-- ---- place by place

-- the state of the next place is written
set_there : (next : List ℕ → ℕ) (p old new : Picture) (w : MovingWindow) (at : Point) (s : ℕ) → next (replicate 9 0) ≡ 0 → IsWritten next p old w.place.x w.place.y → IsReady p w at → s ≡ next (around (cell p) at.x at.y) → Sets old new at s → IsWritten next p new at.x at.y
set_there next p old new w at s quiet written ready state sets = record {
  up_to = λ x y not_later.
      elim (compared x y at.x at.y) [
        | inl before ↦
            cell-Sets-other old new at s x y sets (not_itself x y at.x at.y before)
            ∙ elim (compared w.place.x w.place.y x y) [
              | inl later ↦ written.behind x y later ∙ sym (ap next (ready.between x y later before) ∙ quiet)
              | inr o ↦ written.up_to x y (λ later. not_both w.place.x w.place.y x y later o)
            ]
        | inr o ↦ elim o [
          | inl same ↦ rw (same.0, same.1) (cell-Sets old new at s sets ∙ state)
          | inr later ↦ absurd (not_later later)
        ]
      ];
  behind = λ x y later.
      cell-Sets-other old new at s x y sets (λ e f. not_itself at.x at.y x y later (sym e) (sym f))
      ∙ written.behind x y (before-trans w.place.x w.place.y at.x at.y x y ready.later later);
}

pub IsWritten-set : (next : List ℕ → ℕ) (p old new : Picture) (w v : MovingWindow) (at : Point) (nine : List ℕ) (s : ℕ) → next (replicate 9 0) ≡ 0 → All (λ e. IsInReach e.0.x e.0.y) p → ShowsWindow p w → IsWritten next p old w.place.x w.place.y → IsNextPlace w (Some at) → MovesTo w v at → nine ≡ nine_states v → s ≡ next nine → Sets old new at s → IsWritten next p new v.place.x v.place.y
IsWritten-set next p old new w v at nine s quiet reach shows written to moves sight state sets =
    let ready = IsReady-next p w at reach shows to in
    let there : nine ≡ around (cell p) at.x at.y = sight ∙ subst (λ (q : Point). nine_states v ≡ around (cell p) q.x q.y) moves.place (nine_states-around p v (ShowsWindow-next p w v at shows ready moves)) in
    subst (λ (q : Point). IsWritten next p new q.x q.y) (sym moves.place) (set_there next p old new w at s quiet written ready (state ∙ ap next there) sets)

-- a state of 0 is there without a write
pub IsWritten-skip : (next : List ℕ → ℕ) (p old : Picture) (w v : MovingWindow) (at : Point) (nine : List ℕ) (s : ℕ) → next (replicate 9 0) ≡ 0 → All (λ e. IsInReach e.0.x e.0.y) p → ShowsWindow p w → IsWritten next p old w.place.x w.place.y → IsNextPlace w (Some at) → MovesTo w v at → nine ≡ nine_states v → s ≡ next nine → s ≡ 0 → IsWritten next p old v.place.x v.place.y
IsWritten-skip next p old w v at nine s quiet reach shows written to moves sight state zero_there =
    let ready = IsReady-next p w at reach shows to in
    IsWritten-set next p old old w v at nine s quiet reach shows written to moves sight state (λ x y. unchanged _ (cell old x y) (λ here. let place = place-from_true x y at here in rw (place.0, place.1) (written.behind at.x at.y ready.later ∙ sym zero_there)))
  where
    unchanged : (b : Bool) (v : ℕ) → (b ≡ true → v ≡ s) → v ≡ (if b then s else v)
    unchanged true v same = same refl
    unchanged false v same = refl

-- at the end the new picture shows the next state everywhere
pub IsWritten-end : (next : List ℕ → ℕ) (p new : Picture) (w : MovingWindow) → next (replicate 9 0) ≡ 0
    → IsWritten next p new w.place.x w.place.y → ShowsWindow p w → IsNextPlace w None → IsAfter next p 1 new
IsWritten-end next p new w quiet written shows none = λ x y. sym (shown x y)
  where
    shown : (x y : ℤ) → cell new x y ≡ after next p 1 x y
    shown x y = elim (compared w.place.x w.place.y x y) [
      | inl later ↦ written.behind x y later ∙ sym (ap next (quiet_end p w x y shows none later) ∙ quiet)
      | inr o ↦ written.up_to x y (λ later. not_both w.place.x w.place.y x y later o)
    ]

-- ---- the end comes

-- how far a row still has to move until its last cell in sight is its western one
abbrev pub lag : ℕ → ℕ → ℕ
lag zero zero = 0
lag (suc c) zero = 1
lag zero (suc e) = 2
lag (suc c) (suc e) = 2

-- how many moves a row can still take
abbrev pub row_moves : Row → ℕ
row_moves row = 3 * length row.ahead + lag row.centre row.east

-- how many moves a window can still take
abbrev pub moves_left : MovingWindow → ℕ
moves_left w = row_moves w.north + row_moves w.middle + row_moves w.south

-- with each move they don't become more
lag-kept : (centre east taken m n : ℕ) → n ≤ m → (taken ≢ 0 → n < m) → 3 * n + lag east taken ≤ 3 * m + lag centre east
lag-kept zero zero zero m n le less = omega arith
lag-kept (suc c) zero zero m n le less = omega arith
lag-kept zero (suc e) zero m n le less = omega arith
lag-kept (suc c) (suc e) zero m n le less = omega arith
lag-kept zero zero (suc t) m n le less = let one : n < m = less (λ e. let no : ⊥ = omega (arith, e) in no) in omega arith
lag-kept (suc c) zero (suc t) m n le less = let one : n < m = less (λ e. let no : ⊥ = omega (arith, e) in no) in omega arith
lag-kept zero (suc e) (suc t) m n le less = let one : n < m = less (λ e. let no : ⊥ = omega (arith, e) in no) in omega arith
lag-kept (suc c) (suc e) (suc t) m n le less = let one : n < m = less (λ e. let no : ⊥ = omega (arith, e) in no) in omega arith

-- they become fewer where a live cell was in sight or comes in
lag-falls : (centre east taken m n : ℕ) → n ≤ m → (taken ≢ 0 → n < m) → ((centre ≢ 0) ⊎ (east ≢ 0)) ⊎ (taken ≢ 0) → 3 * n + lag east taken < 3 * m + lag centre east
lag-falls zero zero zero m n le less some = absurd (elim some [ inl kept ↦ elim kept [ inl c ↦ c refl | inr e ↦ e refl ] | inr t ↦ t refl ])
lag-falls (suc c) zero zero m n le less some = omega arith
lag-falls zero (suc e) zero m n le less some = omega arith
lag-falls (suc c) (suc e) zero m n le less some = omega arith
lag-falls zero zero (suc t) m n le less some = let one : n < m = less (λ e. let no : ⊥ = omega (arith, e) in no) in omega arith
lag-falls (suc c) zero (suc t) m n le less some = let one : n < m = less (λ e. let no : ⊥ = omega (arith, e) in no) in omega arith
lag-falls zero (suc e) (suc t) m n le less some = let one : n < m = less (λ e. let no : ⊥ = omega (arith, e) in no) in omega arith
lag-falls (suc c) (suc e) (suc t) m n le less some = let one : n < m = less (λ e. let no : ⊥ = omega (arith, e) in no) in omega arith

row_moves-kept : (old new : Row) (at : Point) → MovesOn old new at → row_moves new ≤ row_moves old
row_moves-kept old new at moves =
    let kept = lag-kept old.centre old.east (cell old.ahead at.x at.y) (length old.ahead) (length new.ahead) moves.ahead.longer moves.ahead.fewer in
    subst (λ e. 3 * length new.ahead + lag new.centre e ≤ row_moves old) (sym moves.east) (subst (λ c. 3 * length new.ahead + lag c (cell old.ahead at.x at.y) ≤ row_moves old) (sym moves.centre) kept)

row_moves-fall : (old new : Row) (at : Point) → MovesOn old new at → IsLiveRow old ⊎ (cell old.ahead at.x at.y ≢ 0) → row_moves new < row_moves old
row_moves-fall old new at moves some =
    let falls = lag-falls old.centre old.east (cell old.ahead at.x at.y) (length old.ahead) (length new.ahead) moves.ahead.longer moves.ahead.fewer some in
    subst (λ e. 3 * length new.ahead + lag new.centre e < row_moves old) (sym moves.east) (subst (λ c. 3 * length new.ahead + lag c (cell old.ahead at.x at.y) < row_moves old) (sym moves.centre) falls)

-- a row whose cells bring the window on
abbrev Brings : Row → ℤ → ℤ → Type 0
Brings row x y = IsLiveRow row ⊎ (cell row.ahead x y ≢ 0)

some_row : (w : MovingWindow) (at : Point) → IsNextPlace w (Some at) → (Brings w.north (at.x +ℤ pos 1) (at.y -ℤ pos 1) ⊎ Brings w.middle (at.x +ℤ pos 1) at.y) ⊎ Brings w.south (at.x +ℤ pos 1) (at.y +ℤ pos 1)
some_row w at next =
    elim next [
      | inl kept ↦ elim kept.0 [
        | inl upper ↦ elim upper [ inl north ↦ inl (inl (inl north)) | inr middle ↦ inl (inr (inl middle)) ]
        | inr south ↦ inr (inl south)
      ]
      | inr quiet ↦ elim quiet.1.here [
        | inl upper ↦ elim upper [ inl north ↦ inl (inl (inr north)) | inr middle ↦ inl (inr (inr middle)) ]
        | inr south ↦ inr (inr south)
      ]
    ]

pub moves_left-fall : (old new : MovingWindow) (at : Point) → IsNextPlace old (Some at) → MovesTo old new at → moves_left new < moves_left old
moves_left-fall old new at next moves =
    let north = row_moves-kept old.north new.north (record { y = at.y -ℤ pos 1; x = at.x +ℤ pos 1 }) moves.north in
    let middle = row_moves-kept old.middle new.middle (east_of at) moves.middle in
    let south = row_moves-kept old.south new.south (record { y = at.y +ℤ pos 1; x = at.x +ℤ pos 1 }) moves.south in
    elim (some_row old at next) [
      | inl upper ↦ elim upper [
        | inl brings ↦ let falls = row_moves-fall old.north new.north (record { y = at.y -ℤ pos 1; x = at.x +ℤ pos 1 }) moves.north brings in omega arith
        | inr brings ↦ let falls = row_moves-fall old.middle new.middle (east_of at) moves.middle brings in omega arith
      ]
      | inr brings ↦ let falls = row_moves-fall old.south new.south (record { y = at.y +ℤ pos 1; x = at.x +ℤ pos 1 }) moves.south brings in omega arith
    ]
