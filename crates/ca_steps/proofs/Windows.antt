-- A window that moves over a picture from one place to the next.
use Rattle.std.proofs.Common.{◌≡◌, ◌≢◌, refl, sym, ap, ◌∙◌, subst, inl, inr, ◌⊎◌, arith, Option, Some, None, replicate}
use Rattle.std.specs.Prelude.{ℤ, pos, negsuc, ◌+ℤ◌, ◌-ℤ◌, ◌≤ℤ◌}
use Rattle.std.specs.List.{All}
use Rattle.std.proofs.lemmas.Int.{ints}
use Rattle.std.proofs.lemmas.Bool.{cases_eq}
use Rattle.std.proofs.lemmas.List.Elements.{All-contains}
use Rattle.ca_plane.specs.declared.point.Point.{Point}
use Rattle.ca_plane.specs.Prelude.{Picture, cell, around, IsInPlane}
use Rattle.ca_plane.proofs.Pictures.{cell-Sets, cell-Sets-other, Contains-cell}
use Rattle.ca_steps.specs.Prelude.{IsInReach}
use Rattle.ca_steps.specs.declared.{row.Row.Row, window.MovingWindow.MovingWindow}
use Rattle.ca_steps.specs.inner.Order.{IsBefore, NoneBefore, IsFirstOrNone, IsFirstPlace, IsEarlier}
use Rattle.ca_steps.specs.inner.CellsAhead.{AreCellsAhead}
use Rattle.ca_steps.specs.inner.Row.{ShowsRow, IsQuietRow, IsLiveRow, MovesOn}
use Rattle.ca_steps.specs.inner.Window.{nine_states, ShowsWindow, IsQuiet, StaysLive, SeesAhead, east_of, IsNextPlace, MovesTo}
use Rattle.ca_steps.proofs.Reading.{compared, not_both, not_itself, before-moved, before-trans, IsFirstOrNone-either, IsFirstOrNone-same}

-- ---- the first place from which a cell ahead is seen

up_one : (y : ℤ) → y +ℤ negsuc 0 ≡ y -ℤ pos 1
up_one y = omega (arith, ints)

no_step : (y : ℤ) → y +ℤ pos 0 ≡ y
no_step y = omega (arith, ints)

-- from the first places of the three rows
pub IsFirstOrNone-SeesAhead : (w : MovingWindow) (a b c upper r : Option Point) → IsFirstOrNone (λ x y. cell w.north.ahead (x +ℤ pos 1) (y +ℤ negsuc 0) ≢ 0) a → IsFirstOrNone (λ x y. cell w.middle.ahead (x +ℤ pos 1) (y +ℤ pos 0) ≢ 0) b → IsFirstOrNone (λ x y. cell w.south.ahead (x +ℤ pos 1) (y +ℤ pos 1) ≢ 0) c → IsEarlier a b upper → IsEarlier upper c r → IsFirstOrNone (SeesAhead w) r
IsFirstOrNone-SeesAhead w a b c upper r north middle south two three =
    let north' : IsFirstOrNone (λ x y. cell w.north.ahead (x +ℤ pos 1) (y -ℤ pos 1) ≢ 0) a = IsFirstOrNone-same (λ x y. cell w.north.ahead (x +ℤ pos 1) (y +ℤ negsuc 0) ≢ 0) (λ x y. cell w.north.ahead (x +ℤ pos 1) (y -ℤ pos 1) ≢ 0) a (λ x y live. subst (λ v. cell w.north.ahead (x +ℤ pos 1) v ≢ 0) (up_one y) live) (λ x y live. subst (λ v. cell w.north.ahead (x +ℤ pos 1) v ≢ 0) (sym (up_one y)) live) north in
    let middle' : IsFirstOrNone (λ x y. cell w.middle.ahead (x +ℤ pos 1) y ≢ 0) b = IsFirstOrNone-same (λ x y. cell w.middle.ahead (x +ℤ pos 1) (y +ℤ pos 0) ≢ 0) (λ x y. cell w.middle.ahead (x +ℤ pos 1) y ≢ 0) b (λ x y live. subst (λ v. cell w.middle.ahead (x +ℤ pos 1) v ≢ 0) (no_step y) live) (λ x y live. subst (λ v. cell w.middle.ahead (x +ℤ pos 1) v ≢ 0) (sym (no_step y)) live) middle in
    let two' : IsFirstOrNone (λ x y. (cell w.north.ahead (x +ℤ pos 1) (y -ℤ pos 1) ≢ 0) ⊎ (cell w.middle.ahead (x +ℤ pos 1) y ≢ 0)) upper = IsFirstOrNone-either (λ x y. cell w.north.ahead (x +ℤ pos 1) (y -ℤ pos 1) ≢ 0) (λ x y. cell w.middle.ahead (x +ℤ pos 1) y ≢ 0) a b upper north' middle' two in
    IsFirstOrNone-either (λ x y. (cell w.north.ahead (x +ℤ pos 1) (y -ℤ pos 1) ≢ 0) ⊎ (cell w.middle.ahead (x +ℤ pos 1) y ≢ 0)) (λ x y. cell w.south.ahead (x +ℤ pos 1) (y +ℤ pos 1) ≢ 0) upper c r two' south three

-- ---- one row

-- the row is ready to move on to (x, y): what stays in sight is right, and no cell ahead is passed over
pub record Awaits (p : Picture) (row : Row) (x y : ℤ) : Type 0 where
  pub west : row.centre ≡ cell p (x -ℤ pos 1) y
  pub centre : row.east ≡ cell p x y
  pub none : NoneBefore row.ahead (x +ℤ pos 1) y

-- a row that moves on to a later place shows the picture there
ShowsRow-MovesOn : (p : Picture) (old new : Row) (a b x y : ℤ) → ShowsRow p old a b → Awaits p old x y → IsBefore a b x y → MovesOn old new (record { y = y; x = x +ℤ pos 1 }) → ShowsRow p new x y
ShowsRow-MovesOn p old new a b x y shows awaits later moves =
    let at : Point = record { y = y; x = x +ℤ pos 1 } in
    let onward : IsBefore (a +ℤ pos 1) b (x +ℤ pos 1) y = before-moved a b x y (a +ℤ pos 1) b (x +ℤ pos 1) y later (omega (arith, ints)) (omega (arith, ints)) in
    record {
      west = moves.west ∙ awaits.west;
      centre = moves.centre ∙ awaits.centre;
      east = moves.east ∙ shows.ahead.after (x +ℤ pos 1) y onward;
      ahead = record {
        after = λ u v behind.
            cell-Sets-other old.ahead new.ahead at 0 u v moves.ahead.cells (λ e f. not_itself (x +ℤ pos 1) y u v behind (sym e) (sym f))
            ∙ shows.ahead.after u v (before-trans (a +ℤ pos 1) b (x +ℤ pos 1) y u v onward behind);
        gone = λ u v not_behind. elim (compared u v (x +ℤ pos 1) y) [
          | inl before ↦ cell-Sets-other old.ahead new.ahead at 0 u v moves.ahead.cells (not_itself u v (x +ℤ pos 1) y before) ∙ awaits.none u v before
          | inr o ↦ elim o [
            | inl same ↦ rw (same.0, same.1) (cell-Sets old.ahead new.ahead at 0 moves.ahead.cells)
            | inr behind ↦ absurd (not_behind behind)
          ]
        ];
      };
    }

-- one place further on what stays in sight is right
Awaits-east_of : (p : Picture) (row : Row) (x y : ℤ) → ShowsRow p row x y → Awaits p row (x +ℤ pos 1) y
Awaits-east_of p row x y shows =
    let back : x ≡ (x +ℤ pos 1) -ℤ pos 1 = omega (arith, ints) in
    record {
      west = shows.centre ∙ ap (λ u. cell p u y) back;
      centre = shows.east;
      none = λ u v before. shows.ahead.gone u v (λ behind. not_between x y u v before behind);
    }
  where
    not_between : (x y u v : ℤ) → IsBefore u v ((x +ℤ pos 1) +ℤ pos 1) y → IsBefore (x +ℤ pos 1) y u v → ⊥
    not_between x y u v before behind = omega (arith, ints)

-- where what stays in sight is 0 and no cell ahead is read before (c, d), all is 0 from the middle column up to there
quiet_up_to : (p : Picture) (row : Row) (x y c d u v : ℤ) → ShowsRow p row x y → IsQuietRow row → NoneBefore row.ahead c d → IsBefore (x -ℤ pos 1) y u v → IsBefore u v c d → cell p u v ≡ 0
quiet_up_to p row x y c d u v shows quiet none after before =
    elim (compared (x +ℤ pos 1) y u v) [
      | inl behind ↦ sym (shows.ahead.after u v behind) ∙ none u v before
      | inr o ↦
          elim (in_sight x y u v after o) [
            | inl centre ↦ rw (centre.0, centre.1) (sym shows.centre ∙ quiet.0)
            | inr east ↦ rw (east.0, east.1) (sym shows.east ∙ quiet.1)
          ]
    ]
  where
    in_sight : (x y u v : ℤ) → IsBefore (x -ℤ pos 1) y u v → (((x +ℤ pos 1 ≡ u) × (y ≡ v)) ⊎ IsBefore u v (x +ℤ pos 1) y) → ((u ≡ x) × (v ≡ y)) ⊎ ((u ≡ x +ℤ pos 1) × (v ≡ y))
    in_sight x y u v after o = grind (arith, ints)

-- so a place from which nothing earlier is seen can be moved to at once
Awaits-quiet : (p : Picture) (row : Row) (a b x y : ℤ) → ShowsRow p row a b → IsQuietRow row → NoneBefore row.ahead (x +ℤ pos 1) y → IsBefore a b x y → Awaits p row x y
Awaits-quiet p row a b x y shows quiet none later = record {
  west = quiet.0 ∙ sym (still (x -ℤ pos 1) (omega (arith, ints)) (omega (arith, ints)));
  centre = quiet.1 ∙ sym (still x (omega (arith, ints)) (omega (arith, ints)));
  none = none;
}
  where
    still : (u : ℤ) → (x -ℤ pos 1) ≤ℤ u → u ≤ℤ x → cell p u y ≡ 0
    still u left right = quiet_up_to p row a b (x +ℤ pos 1) y u y shows quiet none (before-moved a b x y (a -ℤ pos 1) b u y later (omega (arith, ints)) (omega (arith, ints))) (inr (refl, omega (arith, ints)))

-- three cells side by side between the place of the row and (c, d) are 0
quiet_three : (p : Picture) (row : Row) (a b c d x y : ℤ) → ShowsRow p row a b → IsQuietRow row → NoneBefore row.ahead (c +ℤ pos 1) d → IsBefore a b x y → IsBefore x y c d → (cell p (x -ℤ pos 1) y ≡ 0) × (cell p x y ≡ 0) × (cell p (x +ℤ pos 1) y ≡ 0)
quiet_three p row a b c d x y shows quiet none later before =
    (still (x -ℤ pos 1) (omega (arith, ints)) (omega (arith, ints)), still x (omega (arith, ints)) (omega (arith, ints)), still (x +ℤ pos 1) (omega (arith, ints)) (omega (arith, ints)))
  where
    still : (u : ℤ) → (x -ℤ pos 1) ≤ℤ u → u ≤ℤ (x +ℤ pos 1) → cell p u y ≡ 0
    still u left right =
        quiet_up_to p row a b (c +ℤ pos 1) d u y shows quiet none
        (before-moved a b x y (a -ℤ pos 1) b u y later (omega (arith, ints)) (omega (arith, ints)))
        (before-moved x y c d u y (c +ℤ pos 1) d before (omega (arith, ints)) (omega (arith, ints)))

-- ---- places in reach

-- a live cell is in reach
in_reach : (p : Picture) (u v : ℤ) → All (λ e. IsInReach e.0.x e.0.y) p → cell p u v ≢ 0 → IsInReach u v
in_reach p u v reach live = All-contains (λ e. IsInReach e.0.x e.0.y) p _ reach (Contains-cell p u v live)

-- and out of reach all is 0
pub quiet_beyond : (p : Picture) (u v : ℤ) → All (λ e. IsInReach e.0.x e.0.y) p → (IsInReach u v → ⊥) → cell p u v ≡ 0
quiet_beyond p u v reach out = elim (cases_eq (cell p u v) 0) [ inl quiet ↦ quiet | inr live ↦ absurd (out (in_reach p u v reach live)) ]

-- a place beside a cell in reach lies in the square of a plane
within_beside : (at : Point) (u v : ℤ) → IsInReach u v → (u -ℤ pos 1) ≤ℤ at.x → at.x ≤ℤ (u +ℤ pos 1) → (v -ℤ pos 1) ≤ℤ at.y → at.y ≤ℤ (v +ℤ pos 1) → IsInPlane at
within_beside at u v reach left right up down = (omega (arith, ints), omega (arith, ints), omega (arith, ints), omega (arith, ints))

-- one place further on, where a cell of a row stays in sight
within_kept : (p : Picture) (row : Row) (x y v : ℤ) → All (λ e. IsInReach e.0.x e.0.y) p → ShowsRow p row x v → IsLiveRow row → (v -ℤ pos 1) ≤ℤ y → y ≤ℤ (v +ℤ pos 1) → IsInPlane (record { y = y; x = x +ℤ pos 1 })
within_kept p row x y v reach shows live up down =
    elim live [
      | inl centre ↦ within_beside (record { y = y; x = x +ℤ pos 1 }) x v (in_reach p x v reach (λ e. centre (shows.centre ∙ e))) (omega (arith, ints)) (omega (arith, ints)) up down
      | inr east ↦ within_beside (record { y = y; x = x +ℤ pos 1 }) (x +ℤ pos 1) v (in_reach p (x +ℤ pos 1) v reach (λ e. east (shows.east ∙ e))) (omega (arith, ints)) (omega (arith, ints)) up down
    ]

-- ---- the next place

-- what holds at the next place
pub record IsReady (p : Picture) (w : MovingWindow) (at : Point) : Type 0 where
  pub later : IsBefore w.place.x w.place.y at.x at.y
  pub north : Awaits p w.north at.x (at.y -ℤ pos 1)
  pub middle : Awaits p w.middle at.x at.y
  pub south : Awaits p w.south at.x (at.y +ℤ pos 1)
  pub between : (x y : ℤ) → IsBefore w.place.x w.place.y x y → IsBefore x y at.x at.y → around (cell p) x y ≡ replicate 9 0
  pub within : IsInPlane at

-- where a live cell stays in sight
IsReady-kept : (p : Picture) (w : MovingWindow) → All (λ e. IsInReach e.0.x e.0.y) p → ShowsWindow p w → StaysLive w → IsReady p w (east_of w.place)
IsReady-kept p w reach shows kept = record {
  later = inr (refl, omega (arith, ints));
  north = Awaits-east_of p w.north w.place.x (w.place.y -ℤ pos 1) shows.north;
  middle = Awaits-east_of p w.middle w.place.x w.place.y shows.middle;
  south = Awaits-east_of p w.south w.place.x (w.place.y +ℤ pos 1) shows.south;
  between = λ x y later before. absurd (none_between w.place.x w.place.y x y later before);
  within = elim kept [
    | inl upper ↦ elim upper [
      | inl north ↦ within_kept p w.north w.place.x w.place.y (w.place.y -ℤ pos 1) reach shows.north north (omega (arith, ints)) (omega (arith, ints))
      | inr middle ↦ within_kept p w.middle w.place.x w.place.y w.place.y reach shows.middle middle (omega (arith, ints)) (omega (arith, ints))
    ]
    | inr south ↦ within_kept p w.south w.place.x w.place.y (w.place.y +ℤ pos 1) reach shows.south south (omega (arith, ints)) (omega (arith, ints))
  ];
}
  where
    none_between : (a b x y : ℤ) → IsBefore a b x y → IsBefore x y (a +ℤ pos 1) b → ⊥
    none_between a b x y later before = omega (arith, ints)

-- a live cell ahead is read after what is in sight, and is one of the picture
ahead_later : (p ahead : Picture) (x y u v : ℤ) → AreCellsAhead p ahead x y → cell ahead u v ≢ 0 → IsBefore x y u v
ahead_later p ahead x y u v is live =
    elim (compared x y u v) [ inl later ↦ later | inr o ↦ absurd (live (is.gone u v (λ later. not_both x y u v later o))) ]

-- a place from which a cell ahead of a row is seen comes later, and lies in the square of a plane
record IsSeen (a b : ℤ) (at : Point) : Type 0 where
  pub later : IsBefore a b at.x at.y
  pub within : IsInPlane at

seen_ahead : (p : Picture) (row : Row) (a b c : ℤ) (at : Point) (d : ℤ) → All (λ e. IsInReach e.0.x e.0.y) p → ShowsRow p row a c → cell row.ahead (at.x +ℤ pos 1) d ≢ 0 → (c -ℤ b) ≡ (d -ℤ at.y) → (d -ℤ pos 1) ≤ℤ at.y → at.y ≤ℤ (d +ℤ pos 1) → IsSeen a b at
seen_ahead p row a b c at d reach shows live level up down =
    let later : IsBefore (a +ℤ pos 1) c (at.x +ℤ pos 1) d = ahead_later p row.ahead (a +ℤ pos 1) c (at.x +ℤ pos 1) d shows.ahead live in
    record {
      later = before-moved (a +ℤ pos 1) c (at.x +ℤ pos 1) d a b at.x at.y later (omega (arith, ints)) (omega (arith, ints));
      within = within_beside at (at.x +ℤ pos 1) d (in_reach p (at.x +ℤ pos 1) d reach (λ e. live (shows.ahead.after (at.x +ℤ pos 1) d later ∙ e))) (omega (arith, ints)) (omega (arith, ints)) up down;
    }

-- a picture without live cells before (c, d), said of each place that is one to the east and dy further down
none_before-moved : (p : Picture) (dy c d : ℤ) → ((x y : ℤ) → cell p (x +ℤ pos 1) (y +ℤ dy) ≢ 0 → IsBefore (x +ℤ pos 1) (y +ℤ dy) c d → ⊥) → NoneBefore p c d
none_before-moved p dy c d none = λ u v before.
    let across : (u -ℤ pos 1) +ℤ pos 1 ≡ u = omega (arith, ints) in
    let down : (v -ℤ dy) +ℤ dy ≡ v = omega (arith, ints) in
    let same : cell p ((u -ℤ pos 1) +ℤ pos 1) ((v -ℤ dy) +ℤ dy) ≡ cell p u v = ap (λ t. cell p t ((v -ℤ dy) +ℤ dy)) across ∙ ap (λ t. cell p u t) down in
    elim (cases_eq (cell p u v) 0) [
      | inl quiet ↦ quiet
      | inr live ↦ absurd (none (u -ℤ pos 1) (v -ℤ dy) (λ e. live (sym same ∙ e)) (before-moved u v c d ((u -ℤ pos 1) +ℤ pos 1) ((v -ℤ dy) +ℤ dy) c d before (omega (arith, ints)) (omega (arith, ints))))
    ]

-- no cell ahead of a row is read before those that are seen first
none_before_seen : (p : Picture) (P : ℤ → ℤ → Type 0) (at : Point) (d dy : ℤ) → IsFirstPlace P at → ((x y : ℤ) → cell p (x +ℤ pos 1) (y +ℤ dy) ≢ 0 → P x y) → d ≡ at.y +ℤ dy → NoneBefore p (at.x +ℤ pos 1) d
none_before_seen p P at d dy first nine_states level =
    none_before-moved p dy (at.x +ℤ pos 1) d (λ x y live before. first.first x y (nine_states x y live) (before-moved (x +ℤ pos 1) (y +ℤ dy) (at.x +ℤ pos 1) d x y at.x at.y before (omega (arith, ints)) (omega (arith, ints))))

-- a cell ahead of a row is seen
meets_north : (w : MovingWindow) (x y : ℤ) → cell w.north.ahead (x +ℤ pos 1) (y +ℤ negsuc 0) ≢ 0 → SeesAhead w x y
meets_north w x y live = inl (inl (subst (λ v. cell w.north.ahead (x +ℤ pos 1) v ≢ 0) (up_one y) live))

meets_middle : (w : MovingWindow) (x y : ℤ) → cell w.middle.ahead (x +ℤ pos 1) (y +ℤ pos 0) ≢ 0 → SeesAhead w x y
meets_middle w x y live = inl (inr (subst (λ v. cell w.middle.ahead (x +ℤ pos 1) v ≢ 0) (no_step y) live))

-- places keep their order in the rows above and below
above : (a b x y : ℤ) → IsBefore a b x y → IsBefore a (b -ℤ pos 1) x (y -ℤ pos 1)
above a b x y before = before-moved a b x y a (b -ℤ pos 1) x (y -ℤ pos 1) before (omega (arith, ints)) (omega (arith, ints))

below : (a b x y : ℤ) → IsBefore a b x y → IsBefore a (b +ℤ pos 1) x (y +ℤ pos 1)
below a b x y before = before-moved a b x y a (b +ℤ pos 1) x (y +ℤ pos 1) before (omega (arith, ints)) (omega (arith, ints))

-- where no cell ahead is seen before (c, d), nothing is live round the places up to there
quiet_around : (p : Picture) (w : MovingWindow) (c d : ℤ) → ShowsWindow p w → IsQuiet w → NoneBefore w.north.ahead (c +ℤ pos 1) (d -ℤ pos 1) → NoneBefore w.middle.ahead (c +ℤ pos 1) d → NoneBefore w.south.ahead (c +ℤ pos 1) (d +ℤ pos 1) → (x y : ℤ) → IsBefore w.place.x w.place.y x y → IsBefore x y c d → around (cell p) x y ≡ replicate 9 0
quiet_around p w c d shows quiet none_north none_middle none_south x y later before =
    let north = quiet_three p w.north w.place.x (w.place.y -ℤ pos 1) c (d -ℤ pos 1) x (y -ℤ pos 1) shows.north quiet.north none_north (above w.place.x w.place.y x y later) (above x y c d before) in
    let middle = quiet_three p w.middle w.place.x w.place.y c d x y shows.middle quiet.middle none_middle later before in
    let south = quiet_three p w.south w.place.x (w.place.y +ℤ pos 1) c (d +ℤ pos 1) x (y +ℤ pos 1) shows.south quiet.south none_south (below w.place.x w.place.y x y later) (below x y c d before) in
    simp (north.0, north.1, north.2, middle.0, middle.1, middle.2, south.0, south.1, south.2)

-- where all that stays in sight is 0
IsReady-quiet : (p : Picture) (w : MovingWindow) (at : Point) → All (λ e. IsInReach e.0.x e.0.y) p → ShowsWindow p w → IsQuiet w → IsFirstPlace (SeesAhead w) at → IsReady p w at
IsReady-quiet p w at reach shows quiet first =
    let nine_states : IsSeen w.place.x w.place.y at = elim first.here [
      | inl upper ↦ elim upper [
        | inl north ↦ seen_ahead p w.north w.place.x w.place.y (w.place.y -ℤ pos 1) at (at.y -ℤ pos 1) reach shows.north north (omega (arith, ints)) (omega (arith, ints)) (omega (arith, ints))
        | inr middle ↦ seen_ahead p w.middle w.place.x w.place.y w.place.y at at.y reach shows.middle middle (omega (arith, ints)) (omega (arith, ints)) (omega (arith, ints))
      ]
      | inr south ↦ seen_ahead p w.south w.place.x w.place.y (w.place.y +ℤ pos 1) at (at.y +ℤ pos 1) reach shows.south south (omega (arith, ints)) (omega (arith, ints)) (omega (arith, ints))
    ] in
    let none_north = none_before_seen w.north.ahead (SeesAhead w) at (at.y -ℤ pos 1) (negsuc 0) first (meets_north w) (omega (arith, ints)) in
    let none_middle = none_before_seen w.middle.ahead (SeesAhead w) at at.y (pos 0) first (meets_middle w) (omega (arith, ints)) in
    let none_south = none_before_seen w.south.ahead (SeesAhead w) at (at.y +ℤ pos 1) (pos 1) first (λ x y live. inr live) refl in
    record {
      later = nine_states.later;
      north = Awaits-quiet p w.north w.place.x (w.place.y -ℤ pos 1) at.x (at.y -ℤ pos 1) shows.north quiet.north none_north (above w.place.x w.place.y at.x at.y nine_states.later);
      middle = Awaits-quiet p w.middle w.place.x w.place.y at.x at.y shows.middle quiet.middle none_middle nine_states.later;
      south = Awaits-quiet p w.south w.place.x (w.place.y +ℤ pos 1) at.x (at.y +ℤ pos 1) shows.south quiet.south none_south (below w.place.x w.place.y at.x at.y nine_states.later);
      between = quiet_around p w at.x at.y shows quiet none_north none_middle none_south;
      within = nine_states.within;
    }

some_same : (p q : Point) → Some p ≡ Some q → p ≡ q
some_same p q e = cc

pub IsReady-next : (p : Picture) (w : MovingWindow) (at : Point) → All (λ e. IsInReach e.0.x e.0.y) p → ShowsWindow p w → IsNextPlace w (Some at) → IsReady p w at
IsReady-next p w at reach shows next =
    elim next [
      | inl kept ↦ subst (λ (q : Point). IsReady p w q) (sym (some_same at (east_of w.place) kept.1)) (IsReady-kept p w reach shows kept.0)
      | inr quiet ↦ IsReady-quiet p w at reach shows quiet.0 quiet.1
    ]

-- a window that moves on to the next place shows the picture there
pub ShowsWindow-next : (p : Picture) (old new : MovingWindow) (at : Point) → ShowsWindow p old → IsReady p old at → MovesTo old new at → ShowsWindow p new
ShowsWindow-next p old new at shows ready moves =
    let north = ShowsRow-MovesOn p old.north new.north old.place.x (old.place.y -ℤ pos 1) at.x (at.y -ℤ pos 1) shows.north ready.north (above old.place.x old.place.y at.x at.y ready.later) moves.north in
    let middle = ShowsRow-MovesOn p old.middle new.middle old.place.x old.place.y at.x at.y shows.middle ready.middle ready.later moves.middle in
    let south = ShowsRow-MovesOn p old.south new.south old.place.x (old.place.y +ℤ pos 1) at.x (at.y +ℤ pos 1) shows.south ready.south (below old.place.x old.place.y at.x at.y ready.later) moves.south in
    record {
      north = subst (λ (q : Point). ShowsRow p new.north q.x (q.y -ℤ pos 1)) (sym moves.place) north;
      middle = subst (λ (q : Point). ShowsRow p new.middle q.x q.y) (sym moves.place) middle;
      south = subst (λ (q : Point). ShowsRow p new.south q.x (q.y +ℤ pos 1)) (sym moves.place) south;
    }

-- what is in sight are the nine cells round the place
pub nine_states-around : (p : Picture) (w : MovingWindow) → ShowsWindow p w → nine_states w ≡ around (cell p) w.place.x w.place.y
nine_states-around p w shows = cc (shows.north.west, shows.north.centre, shows.north.east, shows.middle.west, shows.middle.centre, shows.middle.east, shows.south.west, shows.south.centre, shows.south.east)

-- where there is no next place, nothing is live round the places that come after
pub quiet_end : (p : Picture) (w : MovingWindow) (x y : ℤ) → ShowsWindow p w → IsNextPlace w None → IsBefore w.place.x w.place.y x y → around (cell p) x y ≡ replicate 9 0
quiet_end p w x y shows next later =
    elim next [
      | inl kept ↦ absurd (let no : ⊥ = cc (kept.1) in no)
      | inr quiet ↦
          quiet_around p w (x +ℤ pos 1) y shows quiet.0
          (none_before-moved w.north.ahead (negsuc 0) _ _ (λ u v live before. quiet.1 u v (meets_north w u v live)))
          (none_before-moved w.middle.ahead (pos 0) _ _ (λ u v live before. quiet.1 u v (meets_middle w u v live)))
          (none_before-moved w.south.ahead (pos 1) _ _ (λ u v live before. quiet.1 u v (inr live)))
          x y later (inr (refl, omega (arith, ints)))
    ]
